-- Boxes that were lent stay where they are.
use Rattle.std.proofs.Common.{arith, ◌≡◌, ℕ, Bool, true, false, List, refl, sym, subst, Option, None}
use Rattle.std.specs.Prelude.{◌<◌, ◌/◌, ◌%◌, IsSome}
use Rattle.std.proofs.lemmas.Nat.{div-add-mod'}
use Rattle.std.proofs.Math.Nat.{mod-lt}
use Rattle.pipe_types.specs.declared.numbers.Post.{Post}
use Rattle.pipe_types.specs.declared.topology.Topology.{Topology}
use Rattle.pipe_types.specs.Numbers.{post, stage}
use Rattle.stage_bodies.specs.Seen.{BodySeen}
use Rattle.stage_bodies.specs.Posts.{place_at}
use Rattle.body_laws.specs.Keeps.{has_post}
use Rattle.box_stock.specs.Lends.{AreHandedOut, AreStillThere, CallbacksRemain, callback_in}
use Rattle.box_stock.specs.declared.handing.Slip.{Slip}

-- the post of a place
abbrev post_at : ℕ → Post
post_at at = post (stage (at / 16)) (at % 16)

place_of_post : (at : ℕ) → place_at (post_at at) ≡ at
place_of_post at = div-add-mod' at 16

low : (at : ℕ) → at % 16 < 16
low at = mod-lt at positive
  where
    positive : 0 < 16
    positive = omega arith

no_box : (o : Option BodySeen) → o ≡ None → IsSome (callback_in o) → ⊥
no_box o e here = let x : false ≡ true = subst (λ (x : Option BodySeen). IsSome (callback_in x)) e here in cc

still_at : (topology : Topology) (table now : ℕ → Option BodySeen) → AreHandedOut topology table → CallbacksRemain topology table now → (at : ℕ) → IsSome (callback_in (table at)) → IsSome (callback_in (now at))
still_at topology table now handed keeps at here = by (has_post topology (post_at at)) refl
  where
    held : IsSome (callback_in (table (place_at (post_at at))))
    held = subst (λ (k : ℕ). IsSome (callback_in (table k))) (sym (place_of_post at)) here

    by : (b : Bool) → has_post topology (post_at at) ≡ b → IsSome (callback_in (now at))
    by true e = subst (λ (k : ℕ). IsSome (callback_in (now k))) (place_of_post at) (keeps (post_at at) e held)
    by false e = absurd (no_box (table (place_at (post_at at))) (handed.others (post_at at) (low at) e) held)

pub still : (C : Type 0) (slips : List (Slip C)) (topology : Topology) (table now : ℕ → Option BodySeen) → AreHandedOut topology table → AreStillThere slips table → CallbacksRemain topology table now → AreStillThere slips now
still C slips topology table now handed before keeps = record {
  there = λ k at e. still_at topology table now handed keeps at (before.there k at e);
  apart = before.apart;
}
