use Rattle.std.proofs.Common.{ap, ◌∙◌}
use Rattle.std.proofs.lemmas.Result.{IfOk-weaker}
use Rattle.std.specs.Prelude.{not, ◌&&◌, ◌||◌}
use Rattle.pipe_model.specs.History.{history}
use Rattle.pipe_model.specs.Lives.{is_live}
use Rattle.pipe_model.specs.Flow.{is_empty, sends_by, alone_by, lost_over}
use Rattle.plain_places.proofs.queues.may_dispatch_now.Goals as goal

pub returns : goal.returns
returns c =
    let past = c.args.flow.now.past in
    IfOk-weaker c.may_dispatch.result _ _ (λ got is. is ∙ ap (λ v. is_live past.topology.now (history past.steps.now) c.args.stage && (not (is_empty (sends_by past.topology.now (history past.steps.now) v c.args.stage)) || (not (is_empty (alone_by past.topology.now (history past.steps.now) v c.args.stage)) || not (is_empty (lost_over past.topology.now (history past.steps.now) v c.args.stage))))) c.requires.tables.view) c.may_dispatch.ensures
