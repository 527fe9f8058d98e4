use Rattle.std.proofs.Common.{◌≡◌, drop, ◌∙◌, arith, ap, sym, Bool, []}
use Rattle.std.specs.Prelude.{not, option_map}
use Rattle.std.specs.List.{list_all}
use Rattle.std.proofs.lemmas.List.{drop_all}
use Rattle.pipe_types.specs.declared.topology.StageSpec.{StageSpec}
use Rattle.pipe_model.specs.Content.{key_in}
use Rattle.pipe_journal.specs.Items.{message_seen}
use Rattle.core_sends.specs.Picks.{picks_key}
use Rattle.core_sends.specs.Rooms.{room_between}
use Rattle.core_moves.specs.Sends.{is_held_in}
use Rattle.core_rows.proofs.Finding.{all_not, all_next, stage_there}
use Rattle.core_moves.proofs.dispatches.is_none_held.Goals as goal

pub room-requires : goal.room-requires
room-requires c = record { holds = c.requires.stands.holds; from = c.requires.from; to = stage_there c.args.core.now.topology c.as_slice-spec-items.result.now c.loop-spec.spec-index c.spec-item.result c.requires.stands.holds.sound c.as_slice-spec-items.ensures c.loop-spec-test.true c.spec-item.is; live = c.requires.live }

pub returns-then-is_held : goal.returns-then-is_held
returns-then-is_held c =
    let core = c.args.core.now in
    let test : StageSpec → Bool = λ q. not (is_held_in (picks_key core.topology (key_in (option_map message_seen c.args.message))) (room_between core.topology core.journal.steps c.args.producer.now.no q.no)) in
    let specs = c.as_slice-spec-items.result.now in
    let here = ap not (ap (is_held_in (picks_key core.topology (key_in (option_map message_seen c.args.message)))) (sym (c.room.ensures ∙ ap (λ (q : StageSpec). room_between core.topology core.journal.steps c.args.producer.now.no q.no) c.spec-item.is)) ∙ (sym c.is_held.ensures ∙ c.if-is_held.true)) in
    sym (all_not test specs c.loop-spec.spec-index c.spec-item.result c.loop-spec-test.true here) ∙ (c.loop-spec.invariant ∙ ap (list_all test) c.as_slice-spec-items.ensures)

pub loop-spec-preserved : goal.loop-spec-preserved
loop-spec-preserved c =
    let core = c.args.core.now in
    let test : StageSpec → Bool = λ q. not (is_held_in (picks_key core.topology (key_in (option_map message_seen c.args.message))) (room_between core.topology core.journal.steps c.args.producer.now.no q.no)) in
    let here = ap not (ap (is_held_in (picks_key core.topology (key_in (option_map message_seen c.args.message)))) (sym (c.room.ensures ∙ ap (λ (q : StageSpec). room_between core.topology core.journal.steps c.args.producer.now.no q.no) c.spec-item.is)) ∙ (sym c.is_held.ensures ∙ c.if-is_held.false)) in
    all_next test c.as_slice-spec-items.result.now c.loop-spec.spec-index c.spec-item.result c.loop-spec-test.true here ∙ c.loop-spec.invariant

pub returns : goal.returns
returns c =
    let core = c.args.core.now in
    let test : StageSpec → Bool = λ q. not (is_held_in (picks_key core.topology (key_in (option_map message_seen c.args.message))) (room_between core.topology core.journal.steps c.args.producer.now.no q.no)) in
    let specs = c.as_slice-spec-items.result.now in
    let none : drop c.loop-spec.spec-index specs ≡ [] = drop_all c.loop-spec.spec-index specs (omega arith) in
    ap (list_all test) (sym none) ∙ (c.loop-spec.invariant ∙ ap (list_all test) c.as_slice-spec-items.ensures)
