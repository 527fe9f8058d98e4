use Rattle.std.proofs.Common.{ap}
use Rattle.std.specs.Prelude.{nat_le}
use Rattle.core_tables.specs.declared.rows.Totals.{Totals}
use Rattle.control_lines.proofs.reading.is_full.Goals as goal

pub returns : goal.returns
returns c = ap (λ (t : Totals). nat_le 10000 t.controls) c.requires.stands.holds.fields.totals
