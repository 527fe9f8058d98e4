use Rattle.std.proofs.Common.{◌≡◌, [], ◌++◌, Some, ◌+◌, map, ap, sym, ◌∙◌, arith, get_or, drop}
use Rattle.std.proofs.lemmas.List.{append-nil, drop_all}
use Rattle.pipe_types.specs.declared.topology.StageSpec.{StageSpec}
use Rattle.pipe_types.specs.Stages.{spec_of}
use Rattle.pipe_model.specs.Lives.{live_subs_from, is_live}
use Rattle.stage_laws.proofs.Numbering.{numbered_topology, stage_there}
use Rattle.core_sends.specs.Rooms.{room_on, room_between, and_room}
use Rattle.core_sends.proofs.OpenDemand.{rooms_step, live_is}
use Rattle.core_sends.proofs.rooms.rooms_of.Goals as goal

pub room-requires-clause-from : goal.room-requires-clause-from
room-requires-clause-from c =
    let topology = c.args.core.now.topology in
    let there : spec_of topology c.args.stage ≡ Some c.in-Some.producer.now = sym c.in-Some.ensures in
    let named = (numbered_topology topology c.requires.holds.sound).named c.args.stage c.in-Some.producer.now there in
    ap (spec_of topology) named ∙ there

pub room-requires-clause-to : goal.room-requires-clause-to
room-requires-clause-to c =
    stage_there c.args.core.now.topology c.as_slice-consumer-items.result.now c.loop-consumer.consumer-index c.consumer-item.result c.requires.holds.sound c.as_slice-consumer-items.ensures c.loop-consumer-test.true c.consumer-item.is

pub loop-consumer-preserved : goal.loop-consumer-preserved
loop-consumer-preserved c =
    let topology = c.args.core.now.topology in
    let before = c.args.core.now.journal.steps in
    let specs = c.as_slice-consumer-items.result.now in
    let i = c.loop-consumer.consumer-index in
    let spec = c.consumer-item.result in
    let there : spec_of topology c.args.stage ≡ Some c.in-Some.producer.now = sym c.in-Some.ensures in
    let named = (numbered_topology topology c.requires.holds.sound).named c.args.stage c.in-Some.producer.now there in
    let room : c.room.result ≡ room_between topology before c.args.stage (get_or specs i spec).no =
    c.room.ensures ∙ (ap (λ p. room_between topology before p spec.no) named ∙ ap (λ (x : StageSpec). room_between topology before c.args.stage x.no) c.consumer-item.is) in
    let new : c.push_some.new.rooms.items ≡ and_room c.loop-consumer.rooms.items (room_between topology before c.args.stage (get_or specs i spec).no) =
    c.in_ok-push_some.ensures ∙ ap (and_room c.loop-consumer.rooms.items) room in
    ap (λ rs. rs ++ map (room_on topology before) (live_subs_from topology before c.args.stage (drop (i + 1) specs))) new
    ∙ (rooms_step topology before c.args.stage c.loop-consumer.rooms.items specs i spec c.loop-consumer-test.true ∙ c.loop-consumer.invariant)

pub returns : goal.returns
returns c =
    let topology = c.args.core.now.topology in
    let before = c.args.core.now.journal.steps in
    let specs = c.as_slice-consumer-items.result.now in
    let all = c.loop-consumer.invariant in
    let none : drop c.loop-consumer.consumer-index specs ≡ [] = drop_all c.loop-consumer.consumer-index specs (omega arith) in
    sym (append-nil c.loop-consumer.rooms.items)
    ∙ (ap (λ rest. c.loop-consumer.rooms.items ++ map (room_on topology before) (live_subs_from topology before c.args.stage rest)) (sym none)
    ∙ (all ∙ (ap (λ xs. map (room_on topology before) (live_subs_from topology before c.args.stage xs)) c.as_slice-consumer-items.ensures
    ∙ ap (map (room_on topology before)) (sym (live_is topology before c.args.stage c.requires.live)))))

pub room-requires-clause-live : goal.room-requires-clause-live
room-requires-clause-live c =
    let topology = c.args.core.now.topology in
    let there : spec_of topology c.args.stage ≡ Some c.in-Some.producer.now = sym c.in-Some.ensures in
    let named = (numbered_topology topology c.requires.holds.sound).named c.args.stage c.in-Some.producer.now there in
    ap (is_live topology c.args.core.now.journal.steps) named ∙ c.requires.live
