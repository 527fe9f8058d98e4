-- The table of places is that of the journal.
use Rattle.std.proofs.Common.{◌≡◌, ℕ, zero, suc, ◌+◌, ◌≤◌, Bool, true, false, List, [], ◌∷◌, ◌++◌, length, take, drop, refl, ap, sym, ◌∙◌, Option, Some, arith}
use Rattle.std.specs.Prelude.{◌&&◌, not, unwrap_or}
use Rattle.std.specs.List.{filter_map, cons_option, list_all, slice_get}
use Rattle.std.proofs.lemmas.List.{take_all}
use Rattle.std.proofs.lemmas.Option.{slice_get_within}
use Rattle.std.proofs.lemmas.List.Elements.{filter_map-append}
use Rattle.std.proofs.lemmas.List.Folds.{list_all-append}
use Rattle.pipe_types.specs.declared.message.Place.{Place}
use Rattle.pipe_model.specs.History.{accepted}
use Rattle.pipe_model.specs.Acknowledgements.{numbers_upto}
use Rattle.pipe_model.specs.Flow.{place}
use Rattle.pipe_model.specs.Legal.{happened, is_drain}
use Rattle.pipe_model.specs.Moves.{is_final, numbers_to, is_drained, jobs_out}
use Rattle.pipe_journal.proofs.Walks.{one_more}
use Rattle.core_state.specs.declared.state.Core.{Core}
use Rattle.core_state.specs.Stands.{Holds}
use Rattle.core_state.proofs.Reading.{some_at}

-- what is found under the first numbers are the first of a list, if each number finds its element
found_upto : {P : Type 0} (find : ℕ → Option P) (xs : List P) → ((i : ℕ) → slice_get xs i ≡ find (suc i)) → (n : ℕ) → n ≤ length xs
    → filter_map find (numbers_upto n) ≡ take n xs
found_upto find xs each zero within = refl
found_upto find xs each (suc n) within =
    let here = some_at xs n (omega (arith, within)) in
    let one : n + 1 ≡ suc n = omega arith in
    let next : take n xs ++ here.0 ∷ [] ≡ take (suc n) xs = sym (one_more xs n here.0 here.1) ∙ ap (λ m. take m xs) one in
    filter_map-append find (numbers_upto n) (suc n ∷ [])
    ∙ (ap (λ ys. ys ++ cons_option (find (suc n)) []) (found_upto find xs each n (omega (arith, within)))
    ∙ (ap (λ o. take n xs ++ cons_option o []) (sym (each n) ∙ here.1) ∙ next))

pub places_stand : (core : Core) → Holds core → core.places.items ≡ filter_map (place core.topology core.journal.steps) (numbers_upto (accepted core.journal.steps))
places_stand core x =
    let f = x.fields in
    let xs = core.places.items in
    sym
    (ap (λ n. filter_map (place core.topology core.journal.steps) (numbers_upto n)) (sym f.sized.places)
    ∙ (found_upto (place core.topology core.journal.steps) xs f.places (length xs) (omega arith)
    ∙ take_all (length xs) xs (omega arith)))

-- ---- the drained test

-- the test of those from a place on is that of the one there and of the others
pub all_from : (test : Place → Bool) (xs : List Place) (k : ℕ) (x : Place) (b : Bool) → slice_get xs k ≡ Some x → test x ≡ b
    → list_all test (drop k xs) ≡ (b && list_all test (drop (k + 1) xs))
all_from test [] k x b there is = absurd (omega (arith, slice_get_within [] k x there))
all_from test (y ∷ xs) zero x b there is = ap (λ (c : Bool). c && list_all test xs) (ap test (same_value y x there) ∙ is)
  where
    same_value : (p q : Place) → Some p ≡ Some q → p ≡ q
    same_value p q e = ap (λ o. unwrap_or o p) e
all_from test (y ∷ xs) (suc k) x b there is = all_from test xs k x b there is ∙ ap (λ n. b && list_all test (drop n (y ∷ xs))) (one_on k)
  where
    one_on : (n : ℕ) → suc (n + 1) ≡ suc n + 1
    one_on n = omega arith

turned : (a b : Bool) → (a && b) ≡ (b && (a && true))
turned true true = refl
turned true false = refl
turned false true = refl
turned false false = refl

-- all of the first so many are final
final_upto : (find : ℕ → Option Place) (xs : List Place) → ((i : ℕ) → slice_get xs i ≡ find (suc i)) → (n : ℕ) → n ≤ length xs
    → list_all (λ k. is_final (find k)) (numbers_to n) ≡ list_all (λ p. is_final (Some p)) (take n xs)
final_upto find xs each zero within = refl
final_upto find xs each (suc n) within =
    let here = some_at xs n (omega (arith, within)) in
    let one : n + 1 ≡ suc n = omega arith in
    let next : take n xs ++ here.0 ∷ [] ≡ take (suc n) xs = sym (one_more xs n here.0 here.1) ∙ ap (λ m. take m xs) one in
    let rest : Bool = list_all (λ p. is_final (Some p)) (take n xs) in
    ap (λ (o : Option Place). is_final o && list_all (λ k. is_final (find k)) (numbers_to n)) (sym (each n) ∙ here.1)
    ∙ (ap (λ (b : Bool). is_final (Some here.0) && b) (final_upto find xs each n (omega (arith, within)))
    ∙ (turned (is_final (Some here.0)) rest
    ∙ (sym (list_all-append (λ p. is_final (Some p)) (take n xs) (here.0 ∷ [])) ∙ ap (list_all (λ p. is_final (Some p))) next)))

pub final_places : (core : Core) → Holds core → list_all (λ p. is_final (Some p)) core.places.items ≡ list_all (λ n. is_final (place core.topology core.journal.steps n)) (numbers_to (accepted core.journal.steps))
final_places core x =
    let f = x.fields in
    let xs = core.places.items in
    sym
    (ap (λ n. list_all (λ k. is_final (place core.topology core.journal.steps k)) (numbers_to n)) (sym f.sized.places)
    ∙ (final_upto (place core.topology core.journal.steps) xs f.places (length xs) (omega arith)
    ∙ ap (list_all (λ p. is_final (Some p))) (take_all (length xs) xs (omega arith))))

-- where it drains and no job is out, it is drained once every message is final
pub drained_by : (core : Core) → Holds core → happened is_drain core.journal.steps ≡ true → jobs_out core.topology core.journal.steps ≡ false
    → list_all (λ p. is_final (Some p)) core.places.items ≡ is_drained core.topology core.journal.steps
drained_by core x draining home =
    let final : Bool = list_all (λ n. is_final (place core.topology core.journal.steps n)) (numbers_to (accepted core.journal.steps)) in
    final_places core x
    ∙ sym (ap (λ (d : Bool). d && (not (jobs_out core.topology core.journal.steps) && final)) draining ∙ ap (λ (j : Bool). not j && final) home)
