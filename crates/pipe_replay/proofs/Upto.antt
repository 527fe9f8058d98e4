-- The numbers up to a number and one more.
use Rattle.std.proofs.Common.{◌≡◌, ℕ, ◌+◌, [], ◌∷◌, ◌++◌, refl, ap, ◌∙◌, add-one, map}
use Rattle.std.proofs.lemmas.List.{map-append}
use Rattle.pipe_model.specs.Acknowledgements.{numbers_upto}

pub upto_more : (n : ℕ) → numbers_upto (n + 1) ≡ numbers_upto n ++ (n + 1) ∷ []
upto_more n = rw add-one refl

pub map_upto_more : {X : Type 0} (f : ℕ → X) (n : ℕ) → map f (numbers_upto (n + 1)) ≡ map f (numbers_upto n) ++ f (n + 1) ∷ []
map_upto_more f n = ap (map f) (upto_more n) ∙ map-append f (numbers_upto n) ((n + 1) ∷ [])
