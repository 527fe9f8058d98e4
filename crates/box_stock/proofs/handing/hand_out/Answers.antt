use Rattle.std.proofs.Common.{◌≡◌, ◌<◌, ℕ, length, ◌∙◌, arith, Some}
use Rattle.std.specs.Prelude.{slice_get}
use Rattle.std.proofs.lemmas.List.{length-map}
use Rattle.stage_bodies.specs.Seen.{body_at}
use Rattle.box_stock.specs.Homes.{joined, post_for}
use Rattle.box_stock.specs.Lends.{box_at, kinds_of, slip_at}
use Rattle.box_stock.proofs.Assembly.{IsAllLent, homes_are, homes_apart, homes_within_all, handed, handed_boxes, still_there}
use Rattle.box_stock.proofs.handing.hand_out.Given.{Over}
use Rattle.box_stock.proofs.handing.hand_out.Goals.{In-Ok, After-lend_all}
use Rattle.box_stock.proofs.handing.hand_out.Goals as goal

-- each box is at home at its post
at_home : (g : Over) (c : In-Ok g) (k : ℕ) → joined (slice_get c.in-Ok.homes.items k) ≡ post_for c.args.topology.now (kinds_of g.C.Boxed.seen c.args.stock.items) k
at_home g c =
    let seen = g.C.Boxed.seen in
    let topology = c.args.topology.now in
    let stock = c.args.stock.items in
    let kinds = kinds_of seen stock in
    let each : (k : ℕ) → k < length stock → slice_get c.in-Ok.homes.items k ≡ Some (post_for topology kinds k) = rw c.deref.ensures.value at c.in-Ok.ensures.homes in
    let len : length c.in-Ok.homes.items ≡ length stock = rw c.deref.ensures.value at c.in-Ok.ensures.len in
    homes_are topology kinds c.in-Ok.homes.items (length stock) len (length-map stock (λ b. (seen b).kind)) each

-- what was lent, where each box is at home at its post
all_lent : (g : Over) (c : After-lend_all g)
    → ((k : ℕ) → joined (slice_get c.in-Ok.homes.items k) ≡ post_for c.args.topology.now (kinds_of g.C.Boxed.seen c.args.stock.items) k)
    → IsAllLent g.C.Boxed.seen c.args.topology.now c.args.stock.items (λ k. joined (slice_get c.in-Ok.homes.items k)) (box_at g.C.Boxed.seen c.arm_all.new.stock.items)
    (slip_at c.lend_all.new.slips.items) (body_at g.B.Works.look c.in-Ok-new_table.bodies.items) (body_at g.B.Works.look c.seat_producers.new.bodies.items)
    (body_at g.B.Works.look c.lend_all.new.bodies.items)
all_lent g c homes = record {
  sound = c.requires.sound;
  enough = c.requires.suffices;
  homes = homes;
  arms = rw c.deref-2.ensures.value at c.in-Ok-arm_all.ensures.armed;
  none = c.in-Ok-new_table.ensures.none;
  seated = c.seat_producers.ensures.seated;
  others = c.seat_producers.ensures.others;
  lent = λ k below. rw c.deref-3.ensures.value at (c.lend_all.ensures.lent k (omega (arith, below, c.in-Ok-arm_all.ensures.len)));
  rest = rw c.deref-3.ensures.value at c.lend_all.ensures.others;
}

pub lend_all-requires-clause-within : goal.lend_all-requires-clause-within
lend_all-requires-clause-within g c =
    rw (c.deref-3.ensures.value, c.seat_producers.ensures.len, c.in-Ok-new_table.ensures.len)
    (homes_within_all c.args.topology.now (kinds_of g.C.Boxed.seen c.args.stock.items) (λ k. joined (slice_get c.in-Ok.homes.items k)) c.requires.sound
    (at_home g (goal.at.lend_all-requires-clause-within g c).In-Ok))

pub lend_all-requires-clause-apart : goal.lend_all-requires-clause-apart
lend_all-requires-clause-apart g c =
    rw c.deref-3.ensures.value
    (homes_apart c.args.topology.now (kinds_of g.C.Boxed.seen c.args.stock.items) (λ k. joined (slice_get c.in-Ok.homes.items k)) c.requires.sound
    (at_home g (goal.at.lend_all-requires-clause-apart g c).In-Ok))

pub returns-clause-bodies : goal.returns-clause-bodies
returns-clause-bodies g c =
    let at = goal.at.returns-clause-bodies g c in
    handed _ _ _ _ _ _ _ _ _ (all_lent g at.After-lend_all (at_home g at.In-Ok))

pub returns-clause-boxes : goal.returns-clause-boxes
returns-clause-boxes g c =
    let at = goal.at.returns-clause-boxes g c in
    handed_boxes _ _ _ _ _ _ _ _ _ (all_lent g at.After-lend_all (at_home g at.In-Ok))

pub returns-clause-there : goal.returns-clause-there
returns-clause-there g c =
    let at = goal.at.returns-clause-there g c in
    let homes = at_home g at.In-Ok in
    let apart = homes_apart c.args.topology.now (kinds_of g.C.Boxed.seen c.args.stock.items) (λ k. joined (slice_get c.in-Ok.homes.items k)) c.requires.sound homes in
    still_there _ _ _ _ _ c.lend_all.new.slips.items _ _ _ (c.lend_all.ensures.slips_len ∙ c.in-Ok-arm_all.ensures.len) apart (all_lent g at.After-lend_all homes)
