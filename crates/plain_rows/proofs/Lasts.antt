-- Lists from a place on, and up to it with one more.
use Rattle.std.proofs.Common.{◌≡◌, ℕ, ◌+◌, ◌<◌, true, false, List, [], ◌∷◌, ◌++◌, length, take, drop, get_or, refl, ap, sym, ◌∙◌}
use Rattle.std.proofs.lemmas.List.{take_more, drop_more}
use Rattle.std.specs.Prelude.{Bool, ◌||◌}
use Rattle.std.specs.List.{list_any}
use Rattle.pipe_model.specs.Legal.{last_in}

last_more : (ns : List ℕ) (n : ℕ) → last_in (ns ++ n ∷ []) ≡ n
last_more [] n = refl
last_more (m ∷ []) n = refl
last_more (m ∷ k ∷ ns) n = last_more (k ∷ ns) n

-- the last of one more is that one
pub last_upto : (ns : List ℕ) (i : ℕ) → i < length ns → get_or ns i 0 ≡ last_in (take (i + 1) ns)
last_upto ns i within = sym (ap last_in (take_more ns i 0 within) ∙ last_more (take i ns) (get_or ns i 0))

-- some element from the place on passes, where this one does or one behind it
any_next : {X : Type 0} (test : X → Bool) (xs : List X) (i : ℕ) (x : X) → i < length xs → x ≡ get_or xs i x → list_any test (drop i xs) ≡ (test x || list_any test (drop (i + 1) xs))
any_next test xs i x within is = ap (list_any test) (drop_more xs i x within) ∙ ap (λ y. test y || list_any test (drop (i + 1) xs)) (sym is)

pub any_here : {X : Type 0} (test : X → Bool) (xs : List X) (i : ℕ) (x : X) → i < length xs → x ≡ get_or xs i x → list_any test (drop i xs) ≡ list_any test xs → test x ≡ true → true ≡ list_any test xs
any_here test xs i x within is so_far here = sym (sym so_far ∙ any_next test xs i x within is ∙ ap (λ b. b || list_any test (drop (i + 1) xs)) here)

pub any_behind : {X : Type 0} (test : X → Bool) (xs : List X) (i : ℕ) (x : X) → i < length xs → x ≡ get_or xs i x → list_any test (drop i xs) ≡ list_any test xs → test x ≡ false → list_any test (drop (i + 1) xs) ≡ list_any test xs
any_behind test xs i x within is so_far none = sym (any_next test xs i x within is ∙ ap (λ b. b || list_any test (drop (i + 1) xs)) none) ∙ so_far
