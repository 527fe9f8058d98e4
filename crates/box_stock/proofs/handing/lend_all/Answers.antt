use Rattle.std.proofs.Common.{◌≡◌, ◌+◌, ◌-◌, ◌++◌, ◌∷◌, [], length, ◌∙◌, sym, ap, arith, refl, take, Some}
use Rattle.std.specs.Prelude.{slice_get}
use Rattle.std.proofs.lemmas.List.{length-append}
use Rattle.stage_bodies.specs.Seen.{body_at}
use Rattle.box_stock.specs.Homes.{joined}
use Rattle.box_stock.proofs.Lending.{lent_more, elsewhere, popped, left_on}
use Rattle.box_stock.proofs.handing.lend_all.Goals as goal

pub loop-done-preserved : goal.loop-done-preserved
loop-done-preserved g c =
    let look = g.B.Works.look in
    let seen = g.C.Boxed.seen in
    let x = c.loop-done.invariant in
    let all = c.args.stock.now.items in
    let stock = c.loop-done.stock.items in
    let rest = c.pop.new.self.items in
    let callback = c.in-Some.callback in
    let done = c.loop-done.done in
    let more = c.loop-done-test.true in
    let old = body_at look c.loop-done.bodies.items in
    let new = body_at look c.lend-slip.new.bodies.items in
    let m = length rest in
    let parts : stock ≡ rest ++ callback ∷ [] = rw c.in-Some.is at c.pop.ensures.items in
    let count : length stock ≡ length rest + 1 = ap length parts ∙ length-append rest (callback ∷ []) in
    let number : length rest + (done + 1) ≡ length all = omega (arith, count, x.number) in
    let here : slice_get all m ≡ Some callback = popped all stock rest callback (length all - done) m x.left parts refl (omega (arith, number)) in
    let at : c.len.result ≡ m = omega (arith, c.len.ensures, c.pop.new.self.ok.0) in
    record {
      len = c.lend-slip.ensures.len ∙ x.len;
      left = left_on all stock rest (length all - done) (length all - (done + 1)) x.left (c.pop.ensures.rest ∙ ap (λ n. take n stock) (omega (arith, count, number))) (omega arith);
      number = number;
      capacity = c.pop.ensures.capacity ∙ x.capacity;
      slips = ap length c.push_reserved.ensures.items ∙ (length-append c.loop-done.slips.items (c.lend-slip.result ∷ []) ∙ ap (λ n. n + 1) x.slips);
      room = omega (arith, x.room, c.push_reserved.ensures.capacity);
      lent = λ k within up.
          rw c.push_reserved.ensures.items
          (lent_more seen c.args.homes.now all c.loop-done.slips.items c.lend-slip.result callback c.home_in-home.result m done old new c.requires.apart
          (c.home_in-home.ensures ∙ ap (λ i. joined (slice_get c.args.homes.now i)) at) number x.slips here c.lend-slip.ensures.slip c.lend-slip.ensures.table
          (λ j below past. x.lent j below (omega (arith, count, past))) k within up);
      others = λ s apart.
          elsewhere c.home_in-home.result (seen callback) old new c.lend-slip.ensures.table s
          (λ p e. apart m p (sym (c.home_in-home.ensures ∙ ap (λ i. joined (slice_get c.args.homes.now i)) at) ∙ e)) ∙ x.others s apart;
    }
