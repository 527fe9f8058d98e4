-- Lists of which each item has something, read from their ends.
use Rattle.std.proofs.Common.{◌≡◌, ℕ, zero, suc, ◌+◌, ◌<◌, ◌≤◌, arith, List, [], ◌∷◌, ◌++◌, length, take, get_or, ap, ◌∙◌, sym, subst, reverse}
use Rattle.std.proofs.lemmas.List.{take_all, take_more, reverse-append, length-reverse}
use Rattle.std.proofs.lemmas.Option.{get_or_from_slice_get}
use Rattle.std.specs.Prelude.{Some, slice_get, replicate}
use Rattle.pipe_journal.proofs.Walks.{one_more}
use Rattle.line_reading.specs.Spelling.{Each}

each_append : {A : Type 0} (P : A → Type 0) (xs ys : List A) → Each P xs → Each P ys → Each P (xs ++ ys)
each_append P [] ys a b = b
each_append P (x ∷ xs) ys a b = (a.0, each_append P xs ys a.1 b)

each_parts : {A : Type 0} (P : A → Type 0) (xs ys : List A) → Each P (xs ++ ys) → Each P xs × Each P ys
each_parts P [] ys h = (tt, h)
each_parts P (x ∷ xs) ys h = let rest = each_parts P xs ys h.1 in ((h.0, rest.0), rest.1)

each_back : {A : Type 0} (P : A → Type 0) (xs : List A) → Each P (reverse xs) → Each P xs
each_back P [] h = tt
each_back P (x ∷ xs) h =
    let parts = each_parts P (reverse xs) (x ∷ []) (subst (Each P) (reverse-append (x ∷ []) xs) h) in
    (parts.1.0, each_back P xs parts.0)

-- one item more
pub each_next : {A : Type 0} (P : A → Type 0) (xs : List A) (i : ℕ) (x : A) → i < length xs → slice_get (reverse xs) i ≡ Some x → P x → Each P (take i (reverse xs)) → Each P (take (i + 1) (reverse xs))
each_next P xs i x within found is front =
    let here : get_or (reverse xs) i x ≡ x = get_or_from_slice_get (reverse xs) i x x found in
    let more : take (i + 1) (reverse xs) ≡ take i (reverse xs) ++ x ∷ [] =
    take_more (reverse xs) i x (omega (arith, within, length-reverse xs)) ∙ ap (λ y. take i (reverse xs) ++ y ∷ []) here in
    subst (Each P) (sym more) (each_append P (take i (reverse xs)) (x ∷ []) front (is, tt))

-- all of them
pub each_whole : {A : Type 0} (P : A → Type 0) (xs : List A) (n : ℕ) → length xs ≤ n → Each P (take n (reverse xs)) → Each P xs
each_whole P xs n long all = each_back P xs (subst (Each P) (take_all n (reverse xs) (omega (arith, long, length-reverse xs))) all)

-- one item more of a list that is read from its front
pub each_more : {A : Type 0} (P : A → Type 0) (xs : List A) (i : ℕ) (x : A) → slice_get xs i ≡ Some x → P x → Each P (take i xs) → Each P (take (i + 1) xs)
each_more P xs i x found is front = subst (Each P) (sym (one_more xs i x found)) (each_append P (take i xs) (x ∷ []) front (is, tt))

pub each_taken : {A : Type 0} (P : A → Type 0) (xs : List A) (n : ℕ) → length xs ≤ n → Each P (take n xs) → Each P xs
each_taken P xs n long all = subst (Each P) (take_all n xs long) all

-- so many of one item
pub each_same : {A : Type 0} (P : A → Type 0) (n : ℕ) (x : A) → P x → Each P (replicate n x)
each_same P zero x is = tt
each_same P (suc n) x is = (is, each_same P n x is)
