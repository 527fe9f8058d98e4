use Rattle.std.proofs.Common.{ap, ◌∙◌}
use Rattle.std.proofs.lemmas.Result.{IfOk-weaker}
use Rattle.pipe_model.specs.History.{history}
use Rattle.pipe_model.specs.Lives.{live_subs}
use Rattle.plain_sends.specs.Rooms.{sum_by_subs}
use Rattle.plain_places.proofs.Rooms.{room_is}
use Rattle.plain_places.proofs.queues.room_now.Goals as goal

pub returns : goal.returns
returns c =
    let past = c.args.flow.now.past in
    IfOk-weaker c.room.result _ _ (λ got is. is ∙ (ap (λ v. sum_by_subs past.topology.now (history past.steps.now) v (live_subs past.topology.now (history past.steps.now) c.args.stage)) c.requires.tables.view ∙ room_is past.topology.now (history past.steps.now) c.args.stage)) c.room.ensures
