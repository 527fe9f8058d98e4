use Rattle.std.proofs.Common.{◌≡◌, ◌++◌, map, drop}
use Rattle.pipe_model.specs.Lives.{live_subs_from}
use Rattle.core_sends.specs.Rooms.{room_on}
use Rattle.core_sends.proofs.rooms.rooms_of.Given as goal

abbrev pub invariant-loop-consumer : goal.invariant-loop-consumer
invariant-loop-consumer l =
    let t = l.core.topology in
    let before = l.core.journal.steps in
    l.rooms.items ++ map (room_on t before) (live_subs_from t before l.fn.stage (drop l.consumer-index l.consumer-items)) ≡ map (room_on t before) (live_subs_from t before l.fn.stage l.consumer-items)
