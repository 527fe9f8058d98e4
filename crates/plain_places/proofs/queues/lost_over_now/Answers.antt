use Rattle.std.proofs.Common.{ap, ◌∙◌}
use Rattle.std.proofs.lemmas.Result.{IfOk-weaker}
use Rattle.pipe_model.specs.History.{history}
use Rattle.pipe_model.specs.Flow.{lost_over}
use Rattle.plain_places.proofs.queues.lost_over_now.Goals as goal

pub returns : goal.returns
returns c =
    let past = c.args.flow.now.past in
    IfOk-weaker c.lost_over.result _ _ (λ got is. is ∙ ap (λ v. lost_over past.topology.now (history past.steps.now) v c.args.stage) c.requires.tables.view) c.lost_over.ensures
