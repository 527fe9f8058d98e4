use Rattle.std.proofs.Common.{◌≡◌, drop, ◌∙◌, arith, ap, sym, Bool, []}
use Rattle.std.specs.List.{list_any}
use Rattle.std.proofs.lemmas.List.{drop_all}
use Rattle.pipe_types.specs.declared.topology.StageSpec.{StageSpec}
use Rattle.core_sends.specs.Rooms.{room_between}
use Rattle.core_moves.specs.Sends.{is_open_in}
use Rattle.core_rows.proofs.Finding.{any_here, any_next, stage_there}
use Rattle.core_moves.proofs.dispatches.is_any_open.Goals as goal

pub room-requires : goal.room-requires
room-requires c = record { holds = c.requires.stands.holds; from = c.requires.from; to = stage_there c.args.core.now.topology c.as_slice-spec-items.result.now c.loop-spec.spec-index c.spec-item.result c.requires.stands.holds.sound c.as_slice-spec-items.ensures c.loop-spec-test.true c.spec-item.is; live = c.requires.live }

pub returns-then-is_open : goal.returns-then-is_open
returns-then-is_open c =
    let core = c.args.core.now in
    let test : StageSpec → Bool = λ q. is_open_in (room_between core.topology core.journal.steps c.args.producer.now.no q.no) in
    let specs = c.as_slice-spec-items.result.now in
    let here = ap is_open_in (sym (c.room.ensures ∙ ap (λ (q : StageSpec). room_between core.topology core.journal.steps c.args.producer.now.no q.no) c.spec-item.is)) ∙ (sym c.is_open.ensures ∙ c.if-is_open.true) in
    sym (any_here test specs c.loop-spec.spec-index c.spec-item.result c.loop-spec-test.true here) ∙ (c.loop-spec.invariant ∙ ap (list_any test) c.as_slice-spec-items.ensures)

pub loop-spec-preserved : goal.loop-spec-preserved
loop-spec-preserved c =
    let core = c.args.core.now in
    let test : StageSpec → Bool = λ q. is_open_in (room_between core.topology core.journal.steps c.args.producer.now.no q.no) in
    let here = ap is_open_in (sym (c.room.ensures ∙ ap (λ (q : StageSpec). room_between core.topology core.journal.steps c.args.producer.now.no q.no) c.spec-item.is)) ∙ (sym c.is_open.ensures ∙ c.if-is_open.false) in
    any_next test c.as_slice-spec-items.result.now c.loop-spec.spec-index c.spec-item.result c.loop-spec-test.true here ∙ c.loop-spec.invariant

pub returns : goal.returns
returns c =
    let core = c.args.core.now in
    let test : StageSpec → Bool = λ q. is_open_in (room_between core.topology core.journal.steps c.args.producer.now.no q.no) in
    let specs = c.as_slice-spec-items.result.now in
    let none : drop c.loop-spec.spec-index specs ≡ [] = drop_all c.loop-spec.spec-index specs (omega arith) in
    ap (list_any test) (sym none) ∙ (c.loop-spec.invariant ∙ ap (list_any test) c.as_slice-spec-items.ensures)
