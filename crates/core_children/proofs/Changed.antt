-- One slot of one stage changes.
use Rattle.std.proofs.Common.{◌≡◌, ◌≢◌, ℕ, zero, suc, ◌<◌, List, [], ◌∷◌, length, set, true, false, refl, ap, sym, ◌∙◌, Some, Option, arith, inl, inr}
use Rattle.std.specs.Prelude.{slice_get, if◌then◌else◌, ◌==◌, ◌&&◌, ◌⊎◌}
use Rattle.pipe_types.specs.declared.numbers.StageNo.{StageNo}
use Rattle.consumer_sup.specs.Children.{Slots, child_in}
use Rattle.consumer_sup.specs.declared.Child.{Child}
use Rattle.core_tables.proofs.Tables.{get-set_same, get-set_other, same_or_other}
use Rattle.core_laws.proofs.Came.{flip}
use Rattle.core_state.specs.Stands.{child_at, child_of}

-- a slot with a child is one of the slots
pub slot_there : (slots : List (Option Child)) (slot : ℕ) (child : Child) → child_in slots slot ≡ Some child → slot < length slots
slot_there [] slot child h = cc
slot_there (x ∷ slots) zero child h = omega arith
slot_there (x ∷ slots) (suc slot) child h = let rest = slot_there slots slot child h in omega (arith, rest)

set_here : (slots : List (Option Child)) (slot : ℕ) (what : Option Child) → slot < length slots → child_in (set slots slot what) slot ≡ what
set_here [] slot what h = absurd (omega arith)
set_here (x ∷ slots) zero what h = refl
set_here (x ∷ slots) (suc slot) what h = set_here slots slot what (omega arith)

set_else : (slots : List (Option Child)) (slot k : ℕ) (what : Option Child) → slot ≢ k → child_in (set slots slot what) k ≡ child_in slots k
set_else [] slot k what h = refl
set_else (x ∷ slots) zero zero what h = absurd (h refl)
set_else (x ∷ slots) zero (suc k) what h = refl
set_else (x ∷ slots) (suc slot) zero what h = refl
set_else (x ∷ slots) (suc slot) (suc k) what h = set_else slots slot k what (λ e. h (ap suc e))

set_length : (slots : List (Option Child)) (slot : ℕ) (what : Option Child) → length (set slots slot what) ≡ length slots
set_length [] slot what = refl
set_length (x ∷ slots) zero what = refl
set_length (x ∷ slots) (suc slot) what = ap suc (set_length slots slot what)

slot_is : (slots : List (Option Child)) (slot k : ℕ) (what : Option Child) → slot < length slots → child_in (set slots slot what) k ≡ (if slot == k then what else child_in slots k)
slot_is slots slot k what below = by (same_or_other slot k)
  where
    by : (((slot == k) ≡ true) × (slot ≡ k)) ⊎ (((slot == k) ≡ false) × (slot ≢ k)) → child_in (set slots slot what) k ≡ (if slot == k then what else child_in slots k)
    by (inl same) = ap (child_in (set slots slot what)) (sym same.1) ∙ (set_here slots slot what below ∙ ap (λ b. if b then what else child_in slots k) (sym same.0))
    by (inr other) = set_else slots slot k what other.1 ∙ ap (λ b. if b then what else child_in slots k) (sym other.0)

-- the children after one slot changed
pub child_changed : (table : List Slots) (s : StageNo) (held new : Slots) (slot : ℕ) (what : Option Child) → s.0 < length table → slice_get table s.0 ≡ Some held → slot < length held.slots
    → new ≡ record held { slots = set held.slots slot what }
    → (t : StageNo) (k : ℕ) → child_at (set table s.0 new) t k ≡ (if t.0 == s.0 && slot == k then what else child_at table t k)
child_changed table s held new slot what within at below is t k = by (same_or_other s.0 t.0)
  where
    by : (((s.0 == t.0) ≡ true) × (s.0 ≡ t.0)) ⊎ (((s.0 == t.0) ≡ false) × (s.0 ≢ t.0)) → child_at (set table s.0 new) t k ≡ (if t.0 == s.0 && slot == k then what else child_at table t k)
    by (inl same) =
        ap (λ n. child_of (slice_get (set table s.0 new) n) k) (sym same.1)
        ∙ (ap (λ o. child_of o k) (get-set_same table s.0 new within)
        ∙ (ap (λ (x : Slots). child_in x.slots k) is
        ∙ (slot_is held.slots slot k what below
        ∙ (ap (λ o. if slot == k then what else child_of o k) (sym at)
        ∙ (ap (λ n. if slot == k then what else child_of (slice_get table n) k) same.1
        ∙ ap (λ b. if b && slot == k then what else child_at table t k) (sym (flip t.0 s.0 ∙ same.0)))))))
    by (inr other) =
        ap (λ o. child_of o k) (get-set_other table s.0 t.0 new (λ e. other.1 (sym e)))
        ∙ ap (λ b. if b && slot == k then what else child_at table t k) (sym (flip t.0 s.0 ∙ other.0))

-- the mode and the number of the slots are kept
pub slots_kept : (table : List Slots) (s : StageNo) (held new : Slots) (slot : ℕ) (what : Option Child) → s.0 < length table → slice_get table s.0 ≡ Some held
    → new ≡ record held { slots = set held.slots slot what }
    → (t : StageNo) (after : Slots) → slice_get (set table s.0 new) t.0 ≡ Some after → (old : Slots) × (slice_get table t.0 ≡ Some old) × (after.mode ≡ old.mode) × (length after.slots ≡ length old.slots)
slots_kept table s held new slot what within at is t after e = by (same_or_other s.0 t.0)
  where
    by : (((s.0 == t.0) ≡ true) × (s.0 ≡ t.0)) ⊎ (((s.0 == t.0) ≡ false) × (s.0 ≢ t.0)) → (old : Slots) × (slice_get table t.0 ≡ Some old) × (after.mode ≡ old.mode) × (length after.slots ≡ length old.slots)
    by (inl same) =
        let both : Some new ≡ Some after = sym (get-set_same table s.0 new within) ∙ (ap (slice_get (set table s.0 new)) same.1 ∙ e) in
        let one : new ≡ after = cc in
        let all : after ≡ record held { slots = set held.slots slot what } = sym one ∙ is in
        (held, ap (slice_get table) (sym same.1) ∙ at, ap (λ (x : Slots). x.mode) all, ap (λ (x : Slots). length x.slots) all ∙ set_length held.slots slot what)
    by (inr other) = (after, sym (get-set_other table s.0 t.0 new (λ f. other.1 (sym f))) ∙ e, refl, refl)
