use Rattle.std.proofs.Common.{◌++◌, subst, sym}
use Rattle.line_merge.specs.Items.{given_of}
use Rattle.line_merge.specs.Seen.{AreMergedFrom, merge_seen}
use Rattle.line_merge.proofs.merge.LineMerge.poll.Goals as goal

pub returns-in-Ok-clause-merged : goal.returns-in-Ok-clause-merged
returns-in-Ok-clause-merged g c opened given before =
    subst (λ item. AreMergedFrom opened (merge_seen g.B.ByteSource c.go_round.new.self) (given ++ given_of item)) (sym c.into_item.ensures) (c.in-Ok.ensures.merged opened given before)
