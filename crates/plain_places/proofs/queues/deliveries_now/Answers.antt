use Rattle.std.proofs.Common.{ap, ◌∙◌}
use Rattle.std.proofs.lemmas.Result.{IfOk-weaker}
use Rattle.pipe_model.specs.History.{history}
use Rattle.pipe_model.specs.Flow.{sends_by}
use Rattle.plain_places.proofs.queues.deliveries_now.Goals as goal

pub returns : goal.returns
returns c =
    let past = c.args.flow.now.past in
    IfOk-weaker c.sends_by.result _ _ (λ got is. is ∙ ap (λ v. sends_by past.topology.now (history past.steps.now) v c.args.stage) c.requires.tables.view) c.sends_by.ensures
