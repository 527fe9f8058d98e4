use Rattle.std.proofs.Common.{◌≡◌, ℕ, ◌≤◌, length, List, ◌∷◌, ap, sym, ◌∙◌, arith, get_or, ◌++◌, true, subst}
use Rattle.std.specs.Prelude.{filter}
use Rattle.std.proofs.lemmas.List.{length-map}
use Rattle.pipe_types.specs.declared.room.Room.{Room}
use Rattle.pipe_types.specs.Dispatchers.{ByBroadcast, fit_all, on_each, sends_by_place, serves_by_place}
use Rattle.dispatch_broadcast.specs.Picks.{picks_in, places}
use Rattle.dispatch_broadcast.proofs.Selected.{no_fits, first_left, done, done_more, fit_from, opened_turn, there_at, pick_at, sends_fit, unfit_at, served_all, no_room, some_room, all_sends, all_serves, no_sends, no_serves}
use Rattle.std.specs.declared.alloc.Global.{Global}
use Rattle.std.specs.declared.vec.Vec.{Vec}
use Rattle.std.proofs.lemmas.Bool.Decides.{nat_tests}
use Rattle.pipe_types.specs.declared.room.Sent.{Sent}
use Rattle.dispatch_broadcast.proofs.BroadcastDispatch.deliver_selected.Goals.{then-not-is_empty+then-loop-units-test+else-do_fit, then-not-is_empty+else-loop-units-test, else-not-is_empty}
use Rattle.dispatch_broadcast.proofs.BroadcastDispatch.deliver_selected.Goals as goal

pub loop-units-init : goal.loop-units-init
loop-units-init c =
    record {
      few = omega arith;
      long = ap length c.in_ok-left.ensures ∙ length-map c.args.room.now (λ (v : Room). v.left);
      opens = λ i r at. first_left c.args.room.now c.in_ok-left.left.items i r c.in_ok-left.ensures at;
      fit = no_fits (picks_in c.args.room.now c.args.picks.now) c.args.room.now;
      sent = c.new-sent.ensures.items;
    }

pub loop-units-preserved : goal.loop-units-preserved
loop-units-preserved c =
    let l = c.loop-units in
    let rooms = c.args.room.now in
    let picks = c.args.picks.now in
    let now = c.deref.ensures.value in
    let fits : fit_all (picks_in c.args.room.now c.args.picks.now) c.args.room.now (c.loop-units.units ∷ done c.loop-units.units) ≡ true =
    fit_from (picks_in rooms picks) rooms (λ i. get_or c.loop-units.left.items i 0) (done l.units) l.units l.invariant.opens
    (λ i r at picked. subst (λ (xs : List ℕ). 1 ≤ get_or xs i 0) now
    (c.do_fit.ensures.yes c.if-do_fit.true i (omega (arith, there_at rooms i r at, l.invariant.long, ap length now)) (sym (pick_at rooms picks l.units i r c.requires.ascending at) ∙ picked))) in
    record {
      few = omega arith;
      long = c.send_picked.ensures.long;
      opens = λ i r at. opened_turn rooms picks l.units i r (get_or l.left.items i 0) (get_or c.send_picked.new.left.items i 0) c.requires.ascending at (c.in_ok-send_picked.ensures.counted i (there_at rooms i r at)) (l.invariant.opens i r at);
      fit = ap (fit_all (picks_in rooms picks) rooms) (done_more l.units) ∙ fits;
      sent = c.in_ok-send_picked.ensures.sent
          ∙ (ap (λ ds. ds ++ on_each c.loop-units.units (filter (λ r. picks_in c.args.room.now c.args.picks.now c.loop-units.units r.sub) c.args.room.now)) l.invariant.sent ∙ sym (sends_fit (picks_in rooms picks) rooms l.units fits));
    }

pub returns-clause-sent : goal.returns-clause-sent
returns-clause-sent c =
    let rooms = c.args.room.now in
    let P = picks_in c.args.room.now c.args.picks.now in
    c.from_vec.ensures
    ∙ elim c.if-not-is_empty.branch [
      | then-not-is_empty+then-loop-units-test+else-do_fit w ↦
          (let inv = w.loop-units.invariant in
          let no = w.do_fit.ensures.no w.if-do_fit.false in
          ap (λ (v : Vec Sent Global). v.items) w.sent-is ∙ (inv.sent ∙ all_sends P rooms w.loop-units.units c.args.waiting inv.few
          (unfit_at rooms c.args.picks.now w.loop-units.left.items w.deref.result.now w.loop-units.units c.requires.ascending inv.long w.deref.ensures.value inv.opens no.0 no.1 no.2 no.3)))
      | then-not-is_empty+else-loop-units-test w ↦
          (let inv = w.loop-units.invariant in
          let all : w.loop-units.units ≡ c.args.waiting = omega (arith, inv.few, w.loop-units-test.false) in
          ap (λ (v : Vec Sent Global). v.items) w.sent-is ∙ (inv.sent ∙ ap (λ m. sends_by_place (ByBroadcast P) rooms (places m)) all))
      | else-not-is_empty w ↦
          (let none : length c.args.room.now ≡ 0 = grind (arith, nat_tests, c.is_empty.ensures, w.if-not-is_empty.false) in
          ap (λ (v : Vec Sent Global). v.items) w.sent-is ∙ (c.new-sent.ensures.items ∙ (sym (no_sends P c.args.waiting) ∙ ap (λ rs. sends_by_place (ByBroadcast P) rs (places c.args.waiting)) (sym (no_room rooms none)))))
    ]

pub returns-clause-units : goal.returns-clause-units
returns-clause-units c =
    let rooms = c.args.room.now in
    let P = picks_in c.args.room.now c.args.picks.now in
    elim c.if-not-is_empty.branch [
      | then-not-is_empty+then-loop-units-test+else-do_fit w ↦
          (let inv = w.loop-units.invariant in
          let no = w.do_fit.ensures.no w.if-do_fit.false in
          let some : 1 ≤ length c.args.room.now = grind (arith, nat_tests, c.is_empty.ensures, w.if-not-is_empty.true) in
          w.units-is ∙ (sym (served_all P rooms w.loop-units.units (some_room rooms some) inv.fit) ∙ all_serves P rooms w.loop-units.units c.args.waiting inv.few
          (unfit_at rooms c.args.picks.now w.loop-units.left.items w.deref.result.now w.loop-units.units c.requires.ascending inv.long w.deref.ensures.value inv.opens no.0 no.1 no.2 no.3)))
      | then-not-is_empty+else-loop-units-test w ↦
          (let inv = w.loop-units.invariant in
          let some : 1 ≤ length c.args.room.now = grind (arith, nat_tests, c.is_empty.ensures, w.if-not-is_empty.true) in
          let all : w.loop-units.units ≡ c.args.waiting = omega (arith, inv.few, w.loop-units-test.false) in
          w.units-is ∙ (sym (served_all P rooms w.loop-units.units (some_room rooms some) inv.fit) ∙ ap (λ m. length (serves_by_place (ByBroadcast P) rooms (places m))) all))
      | else-not-is_empty w ↦
          (let none : length c.args.room.now ≡ 0 = grind (arith, nat_tests, c.is_empty.ensures, w.if-not-is_empty.false) in
          w.units-is ∙ (ap length (sym (no_serves P c.args.waiting)) ∙ ap (λ rs. length (serves_by_place (ByBroadcast P) rs (places c.args.waiting))) (sym (no_room rooms none))))
    ]
