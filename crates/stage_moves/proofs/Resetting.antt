-- The bodies of a stage by their places.
use Rattle.std.proofs.Common.{◌≡◌, ℕ, ◌+◌, ◌*◌, ◌<◌, ◌≤◌, Bool, true, false, refl, ap, sym, ◌∙◌, subst, inl, inr, Some, None, Option, arith}
use Rattle.std.specs.Prelude.{◌⊎◌, ◌==◌, if◌then◌else◌, IsSome, is_some}
use Rattle.std.proofs.lemmas.Bool.{cases_lt, eqb-true, eq-eqb}
use Rattle.pipe_types.specs.declared.numbers.StageNo.{StageNo}
use Rattle.pipe_types.specs.declared.numbers.Post.{Post}
use Rattle.pipe_types.specs.declared.topology.Topology.{Topology}
use Rattle.pipe_types.specs.Sound.{IsSound}
use Rattle.pipe_laws.proofs.Tests.{clash}
use Rattle.stage_bodies.specs.Seen.{BodySeen}
use Rattle.stage_bodies.specs.Jobs.{Both, IsReset, IsResetBody}
use Rattle.stage_bodies.specs.Posts.{place_at}
use Rattle.body_laws.specs.Lates.{AreReset}
use Rattle.body_laws.proofs.Posts.{few_slots}
use Rattle.stage_moves.specs.Going.{HasCallback}
use Rattle.stage_moves.specs.Resets.{AreResetFrom}
use Rattle.stage_moves.proofs.Callbacks.{pick_first, pick_second}

-- ---- one place

apart_from : (at s : ℕ) → (at ≡ s → ⊥) → (at == s) ≡ false
apart_from at s other = by (at == s) refl
  where
    by : (b : Bool) → (at == s) ≡ b → (at == s) ≡ false
    by true e = absurd (other (eqb-true at s e))
    by false e = e

elsewhere : (at s : ℕ) (x : Option BodySeen) (home after : ℕ → Option BodySeen) → ((t : ℕ) → after t ≡ (if at == t then x else home t)) → (at ≡ s → ⊥) → after s ≡ home s
elsewhere at s x home after moved other = moved s ∙ pick_second (at == s) x (home s) (apart_from at s other)

at_place : (at : ℕ) (x : Option BodySeen) (home after : ℕ → Option BodySeen) → ((t : ℕ) → after t ≡ (if at == t then x else home t)) → after at ≡ x
at_place at x home after moved = moved at ∙ pick_first (at == at) x (home at) (eq-eqb at at refl)

-- a place and the others
one_reset : (at : ℕ) (home back : ℕ → Option BodySeen) → Both IsResetBody (home at) (back at) → ((s : ℕ) → (at ≡ s → ⊥) → back s ≡ home s) → AreResetFrom at 1 home back
one_reset at home back here others = record {
  here = λ s low high. let same : at ≡ s = omega (arith, low, high) in subst (λ p. Both IsResetBody (home p) (back p)) same here;
  below = λ s low. others s (λ e. omega (arith, low, e));
  above = λ s high. others s (λ e. omega (arith, high, e));
}

-- the body left its place, was reset and came back
pub body_reset : (at : ℕ) (home away back : ℕ → Option BodySeen) (old new : BodySeen) → Some old ≡ home at → ((s : ℕ) → away s ≡ (if at == s then None else home s)) → IsResetBody old new → ((s : ℕ) → back s ≡ (if at == s then Some new else away s))
    → AreResetFrom at 1 home back
body_reset at home away back old new out gone reset come =
    one_reset at home back
    (subst (λ o. Both IsResetBody o (back at)) out (subst (λ o. Both IsResetBody (Some old) o) (sym (at_place at (Some new) away back come)) reset))
    (λ s other. elsewhere at s (Some new) away back come other ∙ elsewhere at s None home away gone other)

-- no body was there
pub none_there : (at : ℕ) (home away : ℕ → Option BodySeen) → None ≡ home at → ((s : ℕ) → away s ≡ (if at == s then None else home s)) → AreResetFrom at 1 home away
none_there at home away out gone =
    one_reset at home away (subst (λ o. Both IsResetBody o (away at)) out (subst (λ o. Both IsResetBody None o) (sym (at_place at None home away gone)) tt)) (λ s other. elsewhere at s None home away gone other)

-- ---- one place after another

pub none_reset : (first : ℕ) (home : ℕ → Option BodySeen) → AreResetFrom first 0 home home
none_reset first home = record {
  here = λ at low high. absurd (omega (arith, low, high));
  below = λ at low. refl;
  above = λ at high. refl;
}

pub more_reset : (first many at : ℕ) (home mid back : ℕ → Option BodySeen) → at ≡ first + many → AreResetFrom first many home mid → AreResetFrom at 1 mid back → AreResetFrom first (many + 1) home back
more_reset first many at home mid back e p q = record {
  here = λ place low high. by_order place low high (cases_lt place at);
  below = λ place low. q.below place (omega (arith, low, e)) ∙ p.below place low;
  above = λ place high. q.above place (omega (arith, high, e)) ∙ p.above place (omega (arith, high));
}
  where
    by_order : (place : ℕ) → first ≤ place → place < first + (many + 1) → (place < at) ⊎ (at ≤ place) → Both IsResetBody (home place) (back place)
    by_order place low high (inl less) =
        subst (λ o. Both IsResetBody (home place) o) (sym (q.below place less)) (p.here place low (omega (arith, less, e)))
    by_order place low high (inr more) =
        subst (λ o. Both IsResetBody o (back place)) (p.above place (omega (arith, more, e))) (q.here place more (omega (arith, high, e)))

-- ---- all places of a stage

apart : (a b c : ℕ) → b < 16 → (c == a) ≡ false → (a * 16 + b < c * 16) ⊎ (c * 16 + 16 ≤ a * 16 + b)
apart a b c low other = by_first (cases_lt a c)
  where
    by_second : c ≤ a → (c < a) ⊎ (a ≤ c) → (a * 16 + b < c * 16) ⊎ (c * 16 + 16 ≤ a * 16 + b)
    by_second le (inl less) = inr (omega (arith, less, low))
    by_second le (inr more) = let same : c ≡ a = omega (arith, le, more) in clash (c == a) (eq-eqb c a same) other

    by_first : (a < c) ⊎ (c ≤ a) → (a * 16 + b < c * 16) ⊎ (c * 16 + 16 ≤ a * 16 + b)
    by_first (inl less) = inl (omega (arith, less, low))
    by_first (inr le) = by_second le (cases_lt c a)

pub are_reset : (topology : Topology) (s : StageNo) (home back : ℕ → Option BodySeen) → IsSound topology → AreResetFrom (s.0 * 16) 16 home back → AreReset topology s home back
are_reset topology s home back sound all = record {
  here = λ p has same. all.here (place_at p) (from_first p.stage.0 p.slot s.0 (ap (λ t. t.0) same)) (to_last p.stage.0 p.slot s.0 (few_slots topology p sound has) (ap (λ t. t.0) same));
  elsewhere = λ p has other. by_side p (apart p.stage.0 p.slot s.0 (few_slots topology p sound has) other);
}
  where
    from_first : (a b c : ℕ) → a ≡ c → c * 16 ≤ a * 16 + b
    from_first a b c e = omega (arith, e)

    to_last : (a b c : ℕ) → b < 16 → a ≡ c → a * 16 + b < c * 16 + 16
    to_last a b c low e = omega (arith, low, e)

    by_side : (p : Post) → (place_at p < s.0 * 16) ⊎ (s.0 * 16 + 16 ≤ place_at p) → back (place_at p) ≡ home (place_at p)
    by_side p (inl low) = all.below (place_at p) low
    by_side p (inr high) = all.above (place_at p) high

-- ---- no body and no callback is gone

some_stays : {A : Type 0} (R : A → A → Type 0) (x y : Option A) → Both R x y → IsSome x → IsSome y
some_stays R (Some a) (Some b) r here = refl
some_stays R None None r here = here
some_stays R (Some a) None r here = absurd r
some_stays R None (Some b) r here = absurd r

callback_stays : (x y : Option BodySeen) → Both IsResetBody x y → HasCallback x → HasCallback y
callback_stays (Some a) (Some b) r has = some_stays IsReset a.callback b.callback r.callback has
callback_stays None None r has = has
callback_stays (Some a) None r has = r
callback_stays None (Some b) r has = absurd r

-- what stays of a body that is reset stays everywhere
stays : (P : Option BodySeen → Type 0) → ((x y : Option BodySeen) → Both IsResetBody x y → P x → P y) → (first many : ℕ) (home back : ℕ → Option BodySeen) → AreResetFrom first many home back → (at : ℕ) → P (home at) → P (back at)
stays P one first many home back all at has = by_first (cases_lt at first)
  where
    by_last : first ≤ at → (at < first + many) ⊎ (first + many ≤ at) → P (back at)
    by_last low (inl high) = one (home at) (back at) (all.here at low high) has
    by_last low (inr high) = subst P (sym (all.above at high)) has

    by_first : (at < first) ⊎ (first ≤ at) → P (back at)
    by_first (inl low) = subst P (sym (all.below at low)) has
    by_first (inr low) = by_last low (cases_lt at (first + many))

pub reset_there : (first many : ℕ) (home back : ℕ → Option BodySeen) → AreResetFrom first many home back → (at : ℕ) → IsSome (home at) → IsSome (back at)
reset_there first many home back all at here = stays (λ (x : Option BodySeen). IsSome x) (λ x y r h. some_stays IsResetBody x y r h) first many home back all at here

pub reset_stays : (first many : ℕ) (home back : ℕ → Option BodySeen) → AreResetFrom first many home back → (at : ℕ) → HasCallback (home at) → HasCallback (back at)
reset_stays first many home back all at has = stays HasCallback callback_stays first many home back all at has

-- no place is filled or emptied
pub reset_same : (first many : ℕ) (home back : ℕ → Option BodySeen) → AreResetFrom first many home back → (at : ℕ) → is_some (back at) ≡ is_some (home at)
reset_same first many home back all at = stays (λ (x : Option BodySeen). is_some x ≡ is_some (home at)) (λ x y r same. as_before x y r ∙ same) first many home back all at refl
  where
    as_before : (x y : Option BodySeen) → Both IsResetBody x y → is_some y ≡ is_some x
    as_before (Some a) (Some b) r = refl
    as_before None None r = refl
    as_before (Some a) None r = absurd r
    as_before None (Some b) r = absurd r
