use Rattle.std.proofs.Common.{◌∙◌, ap, slice_set}
use Rattle.std.proofs.lemmas.List.Edits.{map_over_more}
use Rattle.body_jobs.specs.Batches.{by_sink}
use Rattle.body_jobs.proofs.write.fail_each.Goals as goal

pub loop-at-preserved : goal.loop-at-preserved
loop-at-preserved c =
    ap (λ o. slice_set c.loop-at.outcomes c.loop-at.at o) c.after_sink.ensures
    ∙ map_over_more by_sink c.args.outcomes.now c.loop-at.outcomes c.loop-at.at c.index-outcomes-at.result c.loop-at-test.true c.loop-at.invariant c.index-outcomes-at.is
