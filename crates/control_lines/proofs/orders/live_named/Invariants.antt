use Rattle.std.proofs.Common.{◌≡◌, drop}
use Rattle.std.specs.Prelude.{find}
use Rattle.control_lines.proofs.Naming.{is_live_name}
use Rattle.control_lines.proofs.orders.live_named.Given as goal

abbrev pub invariant-loop-spec : goal.invariant-loop-spec
invariant-loop-spec l = find (is_live_name l.core.topology l.core.journal.steps l.word l.line) (drop l.spec-index l.spec-items) ≡ find (is_live_name l.core.topology l.core.journal.steps l.word l.line) l.spec-items
