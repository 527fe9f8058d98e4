use Rattle.std.proofs.Common.{◌≡◌, ◌+◌, ◌-◌, ◌++◌, ◌∷◌, [], suc, length, ◌∙◌, sym, ap, arith, refl, take, Some, subst}
use Rattle.std.specs.Prelude.{slice_get, IsSome}
use Rattle.std.proofs.lemmas.List.{length-append}
use Rattle.stage_bodies.specs.Seen.{body_at}
use Rattle.box_stock.specs.Lends.{back_for, callback_in}
use Rattle.box_stock.proofs.Lending.{back_from, back_more, popped, left_on}
use Rattle.box_stock.proofs.returning.take_back.Goals as goal

pub come_back-callback-requires : goal.come_back-callback-requires
come_back-callback-requires g c = record {
  there = λ at is.
      let x = c.loop-done.invariant in
      let all = c.args.lent.slips.items in
      let slips = c.loop-done.slips.items in
      let rest = c.pop.new.self.items in
      let slip = c.in-Some.slip in
      let parts : slips ≡ rest ++ slip ∷ [] = rw c.in-Some.is at c.pop.ensures.items in
      let count : length slips ≡ length rest + 1 = ap length parts ∙ length-append rest (slip ∷ []) in
      let here : slice_get all (length rest) ≡ Some slip = popped all slips rest slip (length all - c.loop-done.done) (length rest) x.left parts refl (omega (arith, count, x.number)) in
      let lent = here ∙ ap Some is in
      subst (λ (o : _). IsSome (callback_in o)) (sym (x.held (length rest) at (omega (arith, count)) lent)) (c.requires.there.there (length rest) at lent);
}

pub loop-done-preserved : goal.loop-done-preserved
loop-done-preserved g c =
    let look = g.B.Works.look in
    let seen = g.C.Boxed.seen in
    let x = c.loop-done.invariant in
    let all = c.args.lent.slips.items in
    let slips = c.loop-done.slips.items in
    let rest = c.pop.new.self.items in
    let slip = c.in-Some.slip in
    let done = c.loop-done.done in
    let start = body_at look c.args.bodies.now.items in
    let now = body_at look c.loop-done.bodies.items in
    let parts : slips ≡ rest ++ slip ∷ [] = rw c.in-Some.is at c.pop.ensures.items in
    let count : length slips ≡ length rest + 1 = ap length parts ∙ length-append rest (slip ∷ []) in
    let number : length rest + (done + 1) ≡ length all = omega (arith, count, x.number) in
    let here : slice_get all (length rest) ≡ Some slip = popped all slips rest slip (length all - done) (length rest) x.left parts refl (omega (arith, number)) in
    let place : length rest ≡ length all - suc done = omega (arith, number) in
    record {
      left = left_on all slips rest (length all - done) (length all - (done + 1)) x.left (c.pop.ensures.rest ∙ ap (λ n. take n slips) (omega (arith, count, number))) (omega arith);
      number = number;
      len = ap length c.push_reserved.ensures.items ∙ (length-append c.loop-done.boxes.items (c.come_back-callback.result ∷ []) ∙ ap (λ n. n + 1) x.len);
      room = omega (arith, x.room, c.push_reserved.ensures.capacity);
      boxes = λ k within.
          rw c.push_reserved.ensures.items
          (back_more seen c.loop-done.boxes.items c.come_back-callback.result done (λ i. back_for seen start (slice_get all (length all - suc i))) x.len
          (c.come_back-callback.ensures.out ∙ (back_from seen slip start now (λ at is. x.held (length rest) at (omega (arith, count)) (here ∙ ap Some is)) ∙ ap (back_for seen start) (sym here ∙ ap (slice_get all) place)))
          x.boxes k within);
      held = λ k at below lent.
          c.come_back-callback.ensures.others at (λ is. let e : k ≡ length rest = c.requires.there.apart k (length rest) at lent (here ∙ ap Some is) in omega (arith, below, e))
          ∙ x.held k at (omega (arith, below, count)) lent;
      rest = λ s. c.come_back-callback.ensures.rest s ∙ x.rest s;
    }
