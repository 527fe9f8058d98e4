use Rattle.std.proofs.Common.{ap, ◌∙◌}
use Rattle.std.proofs.lemmas.Result.{IfOk-weaker}
use Rattle.pipe_model.specs.Flow.{closing}
use Rattle.plain_queues.specs.Flows.{history_of}
use Rattle.plain_places.proofs.queues.closing_now.Goals as goal

pub returns : goal.returns
returns c = IfOk-weaker c.closing.result _ _ (λ got is. is ∙ ap (λ v. closing (history_of c.args.flow.now) v c.args.stage c.args.n) c.requires.view) c.closing.ensures
