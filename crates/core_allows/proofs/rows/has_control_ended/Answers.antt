use Rattle.std.proofs.Common.{ap, arith}
use Rattle.pipe_types.specs.Numbers.{stage as control}
use Rattle.core_tables.specs.declared.rows.StageRow.{StageRow}
use Rattle.core_rows.proofs.Known.{stage_read}
use Rattle.core_allows.proofs.rows.has_control_ended.Goals as goal

pub returns : goal.returns
returns c =
    let core = c.args.core.now in
    ap (λ (r : StageRow). r.ended) (stage_read core core.topology core.journal.steps c.requires.stands.holds.fields (control 0) c.index.result.now (omega arith) c.index.ensures)
