use Rattle.std.proofs.Common.{ap, ◌∙◌}
use Rattle.std.proofs.lemmas.Result.{IfOk-weaker}
use Rattle.pipe_model.specs.History.{history}
use Rattle.plain_sends.specs.Rooms.{open_by}
use Rattle.plain_places.proofs.queues.open_demand_now.Goals as goal

pub returns : goal.returns
returns c =
    let past = c.args.flow.now.past in
    IfOk-weaker c.open_demand.result _ _ (λ got is. is ∙ ap (λ v. open_by past.topology.now (history past.steps.now) v c.args.sub) c.requires.tables.view) c.open_demand.ensures
