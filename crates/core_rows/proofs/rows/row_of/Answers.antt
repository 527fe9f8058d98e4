use Rattle.std.proofs.Common.{arith}
use Rattle.core_rows.proofs.Known.{stage_read}
use Rattle.core_rows.proofs.rows.row_of.Goals as goal

pub index-requires : goal.index-requires
index-requires c = omega (arith, c.requires.within, c.requires.stands.holds.fields.sized.stages)

pub returns : goal.returns
returns c =
    let core = c.args.core.now in
    stage_read core core.topology core.journal.steps c.requires.stands.holds.fields c.args.stage c.index.result.now c.requires.within c.index.ensures
