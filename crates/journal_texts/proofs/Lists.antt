-- Steps of loops over lists.
use Rattle.std.proofs.Common.{◌≡◌, ℕ, zero, suc, ◌+◌, ◌<◌, ◌≤◌, get_or, Bool, List, [], ◌∷◌, ◌++◌, length, take, take_all, reverse, refl, sym, ap, ◌∙◌, arith, append-nil, append_assoc, length-take-le, Some}
use Rattle.std.specs.List.{count_by, flat_map}
use Rattle.std.specs.Prelude.{codes, slice_get, replicate, Option, None, Result, Ok, Err, IfOk}
use Rattle.std.specs.declared.alloc.AllocError.{AllocError}
use Rattle.journal_texts.specs.Sinks.{Extends}
use Rattle.std.proofs.lemmas.List.{replicate_more, length-replicate}
use Rattle.std.proofs.lemmas.List.Concat.{flat_map-append}
use Rattle.std.proofs.lemmas.Option.{slice_get_read, slice_get_within}
use Rattle.std.proofs.lemmas.List.Sorted.{sum_by-IsPermutation, IsPermutation-reverse}
use Rattle.pipe_journal.proofs.Walks.{flat_map_at, one_more}
use Rattle.journal_texts.specs.Words.{next_text, more_text, list_text, separator}

-- the text of one more element
pub flat_map_step : {X : Type 0} (f : X → List ℕ) (start : List ℕ) (xs : List X) (i : ℕ) (d : X) (now next : List ℕ)
    → i < length xs → d ≡ get_or xs i d → now ≡ start ++ flat_map f (take i xs) → next ≡ now ++ f d
    → next ≡ start ++ flat_map f (take (i + 1) xs)
flat_map_step f start xs i d now next within read so_far written =
    flat_map_at f start xs i d now next (slice_get_read xs (length xs) i d refl within read) so_far written

-- the other order
pub count_by_reverse : {X : Type 0} (p : X → Bool) (xs : List X) → count_by p (reverse xs) ≡ count_by p xs
count_by_reverse p xs = sum_by-IsPermutation _ xs (reverse xs) (IsPermutation-reverse xs)

-- the text of a list with one more item
list_more : {X : Type 0} (f : X → List ℕ) (xs : List X) (x : X) → list_text f (xs ++ x ∷ []) ≡ list_text f xs ++ (separator (length xs) ++ f x)
list_more f [] x = append-nil (f x)
list_more f (y ∷ ys) x =
    let one : flat_map (next_text f) (x ∷ []) ≡ codes "," ++ f x = append-nil (codes "," ++ f x) in
    ap (λ (text : List ℕ). f y ++ text) (flat_map-append (next_text f) ys (x ∷ []) ∙ ap (λ (text : List ℕ). more_text f ys ++ text) one)
    ∙ sym (append_assoc (f y) (more_text f ys) (codes "," ++ f x))

-- the text of one more item
pub list_step : {X : Type 0} (f : X → List ℕ) (start : List ℕ) (xs : List X) (i : ℕ) (x : X) (now next : List ℕ)
    → slice_get xs i ≡ Some x → now ≡ start ++ list_text f (take i xs) → next ≡ now ++ (separator i ++ f x)
    → next ≡ start ++ list_text f (take (i + 1) xs)
list_step f start xs i x now next is so_far written =
    let inside = slice_get_within xs i x is in
    let long : length (take i xs) ≡ i = length-take-le i xs (omega arith) in
    written
    ∙ ap (λ (text : List ℕ). text ++ (separator i ++ f x)) so_far
    ∙ append_assoc start (list_text f (take i xs)) (separator i ++ f x)
    ∙ ap (λ (n : ℕ). start ++ (list_text f (take i xs) ++ (separator n ++ f x))) (sym long)
    ∙ ap (λ (text : List ℕ). start ++ text) (sym (list_more f (take i xs) x))
    ∙ ap (λ ys. start ++ list_text f ys) (sym (one_more xs i x is))

-- the text of the whole list
pub list_whole : {X : Type 0} (f : X → List ℕ) (start : List ℕ) (xs : List X) (i : ℕ) (now : List ℕ)
    → length xs ≤ i → now ≡ start ++ list_text f (take i xs) → now ≡ start ++ list_text f xs
list_whole f start xs i now all so_far = so_far ∙ ap (λ ys. start ++ list_text f ys) (take_all i xs all)

-- the text of one more of the same item
pub same_step : {X : Type 0} (f : X → List ℕ) (start : List ℕ) (i : ℕ) (x : X) (now next : List ℕ)
    → now ≡ start ++ list_text f (replicate i x) → next ≡ now ++ (separator i ++ f x) → next ≡ start ++ list_text f (replicate (i + 1) x)
same_step f start i x now next so_far written =
    written
    ∙ ap (λ (text : List ℕ). text ++ (separator i ++ f x)) so_far
    ∙ append_assoc start (list_text f (replicate i x)) (separator i ++ f x)
    ∙ ap (λ (n : ℕ). start ++ (list_text f (replicate i x) ++ (separator n ++ f x))) (sym (length-replicate i x))
    ∙ ap (λ (text : List ℕ). start ++ text) (sym (list_more f (replicate i x) x))
    ∙ ap (λ ys. start ++ list_text f ys) (replicate_more i x)

pub separator_none : (at : ℕ) → at ≡ 0 → separator at ≡ []
separator_none at none = ap separator none

pub separator_some : (at : ℕ) → 0 < at → separator at ≡ codes ","
separator_some zero some = let none : ⊥ = omega arith in absurd none
separator_some (suc at) some = refl

-- the same text in other words
pub retext : {W : Type 0} (puts : W → W → List ℕ → Type 0) (old new : W) (text text' : List ℕ) → text ≡ text' → puts old new text → puts old new text'
retext puts old new text text' same p = rw same at p

-- a text behind two others
pub two_tags : (front first key second payload : List ℕ) → (front ++ (first ++ key)) ++ (second ++ payload) ≡ ((front ++ first) ++ key) ++ second ++ payload
two_tags front first key second payload =
    sym (append_assoc (front ++ (first ++ key)) second payload) ∙ ap (λ l. (l ++ second) ++ payload) (sym (append_assoc front first key))

-- a text that was written into empty memory
pub kept : {E : Type 0} (result : Result (List ℕ) E) (wanting wanting' : Option AllocError) (bytes bytes' text : List ℕ) → wanting ≡ None → bytes ≡ []
    → IfOk result (λ found. (wanting' ≡ None) × (found ≡ bytes')) → Extends wanting bytes wanting' bytes' text → IfOk result (λ found. found ≡ text)
kept (Ok found) wanting wanting' bytes bytes' text none empty made puts = made.1 ∙ (puts made.0).1 ∙ ap (λ l. l ++ text) empty
kept (Err e) wanting wanting' bytes bytes' text none empty made puts = tt
