-- Boxes counted one after another.
use Rattle.std.proofs.Common.{◌≡◌, ℕ, ◌+◌, ◌<◌, Bool, true, false, List, length, map, take, get_or, sym, ap, ◌∙◌, arith}
use Rattle.std.proofs.lemmas.List.{length-map, get_or-map}
use Rattle.std.proofs.lemmas.List.Sums.{count_by_more_yes, count_by_more_no}
use Rattle.pipe_types.specs.declared.topology.Kind.{Kind}
use Rattle.stage_job.specs.Boxes.{same_kind, boxes_of_kind}

-- the kind at place i of the list
kind_there : {A : Type 0} (f : A → Kind) (wanted : Kind) (xs : List A) (i : ℕ) (x : A) (answer : Bool) → i < length xs → x ≡ get_or xs i x
    → same_kind wanted (f x) ≡ answer → same_kind wanted (get_or (map f xs) i (f x)) ≡ answer
kind_there f wanted xs i x answer below is same = ap (same_kind wanted) (get_or-map f xs i x (f x) below ∙ ap f (sym is)) ∙ same

in_range : {A : Type 0} (f : A → Kind) (xs : List A) (i : ℕ) → i < length xs → i < length (map f xs)
in_range f xs i below = omega (arith, length-map xs f)

-- a box of another kind adds none
pub no_more : {A : Type 0} (f : A → Kind) (wanted : Kind) (xs : List A) (i : ℕ) (x : A) → i < length xs → x ≡ get_or xs i x
    → same_kind wanted (f x) ≡ false → boxes_of_kind wanted (take (i + 1) (map f xs)) ≡ boxes_of_kind wanted (take i (map f xs))
no_more f wanted xs i x below is other =
    count_by_more_no (same_kind wanted) (map f xs) i (f x) (in_range f xs i below) (kind_there f wanted xs i x false below is other)

-- a box of this kind adds one
pub one_more : {A : Type 0} (f : A → Kind) (wanted : Kind) (xs : List A) (i : ℕ) (x : A) → i < length xs → x ≡ get_or xs i x
    → same_kind wanted (f x) ≡ true → boxes_of_kind wanted (take (i + 1) (map f xs)) ≡ boxes_of_kind wanted (take i (map f xs)) + 1
one_more f wanted xs i x below is this =
    count_by_more_yes (same_kind wanted) (map f xs) i (f x) (in_range f xs i below) (kind_there f wanted xs i x true below is this)
