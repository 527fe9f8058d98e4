-- The first that passes a test, and whether any or all do, by going over a list.
use Rattle.std.proofs.Common.{◌≡◌, ℕ, ◌+◌, ◌<◌, List, ◌∷◌, length, drop, Bool, true, false, refl, ap, sym, ◌∙◌, Some, get_or, if◌then◌else◌}
use Rattle.std.specs.Prelude.{find, option_map, ◌&&◌, ◌||◌}
use Rattle.std.specs.List.{list_any, list_all}
use Rattle.std.proofs.lemmas.List.{at_drop_more}
use Rattle.pipe_types.specs.declared.topology.StageSpec.{StageSpec}
use Rattle.pipe_model.specs.Posts.{slots}
pub use Rattle.stage_laws.proofs.Numbering.{stage_there}
use Rattle.stage_laws.proofs.FewSlots.{slot_case}

-- the item passes: it is the first
pub found_here : {A : Type 0} (test : A → Bool) (xs : List A) (i : ℕ) (e : A) → i < length xs → test (get_or xs i e) ≡ true → find test (drop i xs) ≡ Some (get_or xs i e)
found_here test xs i e below h = at_drop_more (find test) xs i e below ∙ ap (λ b. if b then Some (get_or xs i e) else find test (drop (i + 1) xs)) h

-- it is the first of them all, where none before it passes
pub found_no : (test : StageSpec → Bool) (specs stages : List StageSpec) (i : ℕ) (spec : StageSpec) → specs ≡ stages → i < length specs → spec ≡ get_or specs i spec → test spec ≡ true → find test (drop i specs) ≡ find test specs
    → Some spec.no ≡ option_map (λ (s : StageSpec). s.no) (find test stages)
found_no test specs stages i spec same below read passes so_far =
    let here = found_here test specs i spec below (ap test (sym read) ∙ passes) in
    ap (λ (o : StageSpec). Some o.no) read ∙ ap (option_map (λ (s : StageSpec). s.no)) (sym here ∙ (so_far ∙ ap (find test) same))

-- it does not: the first is among those behind it
pub not_here : {A : Type 0} (test : A → Bool) (xs : List A) (i : ℕ) (e : A) → i < length xs → test (get_or xs i e) ≡ false → find test (drop (i + 1) xs) ≡ find test (drop i xs)
not_here test xs i e below h = sym (at_drop_more (find test) xs i e below ∙ ap (λ b. if b then Some (get_or xs i e) else find test (drop (i + 1) xs)) h)

-- the item passes: one does
pub any_here : {A : Type 0} (test : A → Bool) (xs : List A) (i : ℕ) (e : A) → i < length xs → test (get_or xs i e) ≡ true → list_any test (drop i xs) ≡ true
any_here test xs i e below h = at_drop_more (list_any test) xs i e below ∙ ap (λ b. b || list_any test (drop (i + 1) xs)) h

pub any_next : {A : Type 0} (test : A → Bool) (xs : List A) (i : ℕ) (e : A) → i < length xs → test (get_or xs i e) ≡ false → list_any test (drop (i + 1) xs) ≡ list_any test (drop i xs)
any_next test xs i e below h = sym (at_drop_more (list_any test) xs i e below ∙ ap (λ b. b || list_any test (drop (i + 1) xs)) h)

-- the item does not pass: not all do
pub all_not : {A : Type 0} (test : A → Bool) (xs : List A) (i : ℕ) (e : A) → i < length xs → test (get_or xs i e) ≡ false → list_all test (drop i xs) ≡ false
all_not test xs i e below h = at_drop_more (list_all test) xs i e below ∙ ap (λ b. b && list_all test (drop (i + 1) xs)) h

pub all_next : {A : Type 0} (test : A → Bool) (xs : List A) (i : ℕ) (e : A) → i < length xs → test (get_or xs i e) ≡ true → list_all test (drop (i + 1) xs) ≡ list_all test (drop i xs)
all_next test xs i e below h = sym (at_drop_more (list_all test) xs i e below ∙ ap (λ b. b && list_all test (drop (i + 1) xs)) h)

-- the slots from one on
pub slots_from : (k : ℕ) → k < 16 → drop k slots ≡ k ∷ drop (k + 1) slots
slots_from k low = slot_case (λ n. drop n slots ≡ n ∷ drop (n + 1) slots) (refl, (refl, (refl, (refl, (refl, (refl, (refl, (refl, (refl, (refl, (refl, (refl, (refl, (refl, (refl, (refl, tt)))))))))))))))) k low

pub slot_out : (test : ℕ → Bool) (k : ℕ) → k < 16 → test k ≡ true → list_any test (drop k slots) ≡ true
slot_out test k low h = ap (list_any test) (slots_from k low) ∙ ap (λ b. b || list_any test (drop (k + 1) slots)) h

pub slot_home : (test : ℕ → Bool) (k : ℕ) → k < 16 → test k ≡ false → list_any test (drop (k + 1) slots) ≡ list_any test (drop k slots)
slot_home test k low h = sym (ap (list_any test) (slots_from k low) ∙ ap (λ b. b || list_any test (drop (k + 1) slots)) h)

pub slots_end : (test : ℕ → Bool) (k : ℕ) → 16 ≡ k → list_any test (drop k slots) ≡ false
slots_end test k e = ap (λ n. list_any test (drop n slots)) (sym e)
