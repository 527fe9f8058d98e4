-- A row that the pass has not come to is as it was.
use Rattle.std.proofs.Common.{◌≡◌, ℕ, List, refl, ap, sym, ◌∙◌, Some, None, Option, false, arith}
use Rattle.std.specs.Prelude.{slice_get, option_map, if◌then◌else◌, nat_lt}
use Rattle.std.proofs.lemmas.Bool.Decides.{nat_tests}
use Rattle.core_tables.proofs.Turns.{part}

still : {A : Type 0} (F : ℕ → A → A) (at : ℕ) (o : Option A) → option_map (part at F at) o ≡ o
still F at None = refl
still F at (Some x) = let none : nat_lt at at ≡ false = grind (arith, nat_tests) in ap (λ b. Some (if b then F at x else x)) none

pub still_at : {A : Type 0} (F : ℕ → A → A) (rows old : List A) (at : ℕ) (x : A) → ((i : ℕ) → slice_get rows i ≡ option_map (part at F i) (slice_get old i)) → slice_get rows at ≡ Some x → slice_get old at ≡ Some x
still_at F rows old at x so_far was = sym (still F at (slice_get old at)) ∙ (sym (so_far at) ∙ was)
