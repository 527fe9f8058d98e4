-- A loop over the steps of a journal, the oldest first, that views each: what one more step adds.
use Rattle.std.proofs.Common.{◌≡◌, ℕ, ◌+◌, Bool, true, false, List, [], ◌∷◌, ◌++◌, length, take, reverse, refl, sym, ap, ◌∙◌, Option, Some, None, append-nil, ◌||◌, arith}
use Rattle.std.specs.List.{filter_map, cons_option, count_by, flat_map, list_any, slice_get}
use Rattle.std.specs.Option.{option_to_list}
use Rattle.std.proofs.lemmas.Option.{slice_get_within, get_or_from_slice_get}
use Rattle.std.proofs.lemmas.List.{flat_map_more, take_more, take_all, length-reverse}
use Rattle.std.proofs.lemmas.List.Elements.{filter_map-append}
use Rattle.std.proofs.lemmas.List.Sums.{count_by_more_yes, count_by_more_no}
use Rattle.std.proofs.lemmas.List.Folds.{list_any_more, list_any_at}
use Rattle.std.proofs.lemmas.List.Sorted.{list_any-IsPermutation, IsPermutation-reverse}
use Rattle.pipe_types.specs.declared.step.Step.{Step}
use Rattle.pipe_model.specs.History.{History}

-- one more element
pub one_more : {X : Type 0} (xs : List X) (i : ℕ) (x : X) → slice_get xs i ≡ Some x → take (i + 1) xs ≡ take i xs ++ x ∷ []
one_more xs i x is = take_more xs i x (slice_get_within xs i x is) ∙ ap (λ y. take i xs ++ y ∷ []) (get_or_from_slice_get xs i x x is)

-- what one more element gives
pub filter_map_some : {X Y : Type 0} (h : X → Option Y) (xs : List X) (i : ℕ) (x : X) (y : Y)
    → slice_get xs i ≡ Some x → h x ≡ Some y → filter_map h (take (i + 1) xs) ≡ filter_map h (take i xs) ++ y ∷ []
filter_map_some h xs i x y is e = rw (one_more xs i x is, filter_map-append h (take i xs) (x ∷ []), e) refl

pub filter_map_none : {X Y : Type 0} (h : X → Option Y) (xs : List X) (i : ℕ) (x : X)
    → slice_get xs i ≡ Some x → h x ≡ None → filter_map h (take (i + 1) xs) ≡ filter_map h (take i xs)
filter_map_none h xs i x is e = rw (one_more xs i x is, filter_map-append h (take i xs) (x ∷ []), e) (append-nil (filter_map h (take i xs)))

one_kept : {Y : Type 0} (found : Option Y) → cons_option found [] ≡ option_to_list found
one_kept None = refl
one_kept (Some y) = refl

pub filter_map_at : {X Y : Type 0} (h : X → Option Y) (xs : List X) (i : ℕ) (x : X) (now next : List Y)
    → slice_get xs i ≡ Some x → now ≡ filter_map h (take i xs) → next ≡ now ++ option_to_list (h x) → next ≡ filter_map h (take (i + 1) xs)
filter_map_at h xs i x now next is so_far added =
    added ∙ ap (λ found. found ++ option_to_list (h x)) so_far
    ∙ sym (ap (filter_map h) (one_more xs i x is) ∙ filter_map-append h (take i xs) (x ∷ []) ∙ ap (λ more. filter_map h (take i xs) ++ more) (one_kept (h x)))

pub count_yes : {X : Type 0} (p : X → Bool) (xs : List X) (i : ℕ) (x : X)
    → slice_get xs i ≡ Some x → p x ≡ true → count_by p (take (i + 1) xs) ≡ count_by p (take i xs) + 1
count_yes p xs i x is e = count_by_more_yes p xs i x (slice_get_within xs i x is) (ap p (get_or_from_slice_get xs i x x is) ∙ e)

pub count_no : {X : Type 0} (p : X → Bool) (xs : List X) (i : ℕ) (x : X)
    → slice_get xs i ≡ Some x → p x ≡ false → count_by p (take (i + 1) xs) ≡ count_by p (take i xs)
count_no p xs i x is e = count_by_more_no p xs i x (slice_get_within xs i x is) (ap p (get_or_from_slice_get xs i x x is) ∙ e)

pub any_no : {X : Type 0} (p : X → Bool) (xs : List X) (i : ℕ) (x : X)
    → slice_get xs i ≡ Some x → false ≡ p x → list_any p (take i xs) ≡ false → list_any p (take (i + 1) xs) ≡ false
any_no p xs i x is e before =
    list_any_more p xs i x (slice_get_within xs i x is)
    ∙ (λ k. before k || (ap p (get_or_from_slice_get xs i x x is) ∙ sym e) k)

-- the text of one more element
pub flat_map_at : {X : Type 0} (f : X → List ℕ) (start : List ℕ) (xs : List X) (i : ℕ) (x : X) (now next : List ℕ)
    → slice_get xs i ≡ Some x → now ≡ start ++ flat_map f (take i xs) → next ≡ now ++ f x
    → next ≡ start ++ flat_map f (take (i + 1) xs)
flat_map_at f start xs i x now next is so_far written =
    written ∙ ap (λ (text : List ℕ). text ++ f x) so_far
    ∙ flat_map_more f start (take i xs) x
    ∙ sym (ap (λ ys. start ++ flat_map f ys) (one_more xs i x is))

-- all the steps, in the other order
pub whole : (n : ℕ) (steps : History) → n ≡ length steps → take n (reverse steps) ≡ reverse steps
whole n steps is = let e = length-reverse steps in take_all n (reverse steps) (omega arith)

-- a step passes the test, in whichever order they are read
pub passes_at : (p : Step → Bool) (steps : History) (i : ℕ) (x : Step) → slice_get (reverse steps) i ≡ Some x → true ≡ p x → true ≡ list_any p steps
passes_at p steps i x is e =
    sym
    (list_any-IsPermutation p steps (reverse steps) (IsPermutation-reverse steps)
    ∙ list_any_at p (reverse steps) i x (slice_get_within (reverse steps) i x is) (ap p (get_or_from_slice_get (reverse steps) i x x is) ∙ sym e))

pub passes_none : (p : Step → Bool) (steps : History) (n : ℕ) → n ≡ length steps → list_any p (take n (reverse steps)) ≡ false → false ≡ list_any p steps
passes_none p steps n is none =
    sym
    (list_any-IsPermutation p steps (reverse steps) (IsPermutation-reverse steps)
    ∙ sym (ap (list_any p) (whole n steps is)) ∙ none)

-- the journal has as many steps, in whichever order they are read
pub length_reversed : (steps : History) → length (reverse steps) ≡ length steps
length_reversed steps = length-reverse steps
