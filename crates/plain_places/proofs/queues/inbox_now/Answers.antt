use Rattle.std.proofs.Common.{ap, ◌∙◌}
use Rattle.std.proofs.lemmas.Result.{IfOk-weaker}
use Rattle.pipe_model.specs.Flow.{inbox_by}
use Rattle.plain_places.proofs.queues.inbox_now.Goals as goal

pub returns : goal.returns
returns c =
    let past = c.args.flow.now.past in
    IfOk-weaker c.inbox.result _ _ (λ got is. is ∙ ap (λ v. inbox_by past.topology.now v c.args.consumer) c.requires.view) c.inbox.ensures
