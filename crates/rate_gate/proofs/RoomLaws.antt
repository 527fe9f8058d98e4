-- Laws of bytes that are handed on in parts.
use Rattle.std.proofs.Common.{◌≡◌, ◌≢◌, ℕ, ◌+◌, ◌-◌, ◌≤◌, List, [], ◌∷◌, ◌++◌, length, take, drop, arith, ap, sym, subst, ◌∙◌}
use Rattle.std.proofs.lemmas.List.{append_assoc, take-take, take_at, drop-drop, length-take-le, length-drop, length_push}
use Rattle.std.proofs.lemmas.List.Elements.{All-nil}
use Rattle.memchr.specs.Find.{is_byte, Nowhere, NoneBefore, Passes}
use Rattle.pipe_edges.specs.Texts.{HasNoLf}
use Rattle.pipe_edges.specs.Cut.{EndsAt, IsSearched}
use Rattle.pipe_edges.specs.Paces.{EndsRecord}
use Rattle.pipe_edges.proofs.PutLaws.{taken_is}
use Rattle.pipe_edges.proofs.SearchLaws.{no_lf, ends_at}

-- ---- the search for the end of a record

none_searched : (bytes : List ℕ) → IsSearched bytes 0
none_searched bytes = record { within = omega arith; unbroken = All-nil (λ b. b ≢ 10) }

pub unbroken : (bytes : List ℕ) → Nowhere (Passes (is_byte 10) bytes) 0 (length bytes) → HasNoLf bytes
unbroken bytes h = no_lf bytes 0 (none_searched bytes) h

first_lf : (bytes : List ℕ) (n : ℕ) → NoneBefore (Passes (is_byte 10) bytes) 0 (length bytes) n → Passes (is_byte 10) bytes n → EndsAt bytes n
first_lf bytes n h lf =
    let same : 0 + n ≡ n = omega arith in
    subst (λ k. EndsAt bytes k) same (ends_at bytes 0 n (none_searched bytes) h lf)

pub part_of : (bytes : List ℕ) (n : ℕ) → NoneBefore (Passes (is_byte 10) bytes) 0 (length bytes) n → Passes (is_byte 10) bytes n → HasNoLf (take n bytes)
part_of bytes n h lf = (first_lf bytes n h lf).unbroken

pub record_of : (bytes : List ℕ) (n : ℕ) → NoneBefore (Passes (is_byte 10) bytes) 0 (length bytes) n → Passes (is_byte 10) bytes n → EndsRecord (take (n + 1) bytes)
record_of bytes n h lf =
    let ends = first_lf bytes n h lf in
    let front : List ℕ = take n bytes in
    let len : length front ≡ n = length-take-le n bytes (omega (arith, ends.within)) in
    let whole : bytes ≡ (front ++ 10 ∷ []) ++ drop (n + 1) bytes = ends.parts ∙ sym (append_assoc front (10 ∷ []) (drop (n + 1) bytes)) in
    let here : take (n + 1) ((front ++ 10 ∷ []) ++ drop (n + 1) bytes) ≡ front ++ 10 ∷ [] =
    take_at (front ++ 10 ∷ []) (drop (n + 1) bytes) (n + 1) (length_push front 10 ∙ ap (λ k. k + 1) len)
    in
    record { front = front; parts = ap (take (n + 1)) whole ∙ here; unbroken = ends.unbroken }

-- ---- the bytes that are held

pub length_of : (bytes : List ℕ) (s e : ℕ) → s ≤ e → e ≤ length bytes → length (take (e - s) (drop s bytes)) ≡ e - s
length_of bytes s e h k = length-take-le (e - s) (drop s bytes) (rw (length-drop s bytes) (omega (arith, h, k)))

-- the first n of them
pub first_of : (bytes part rest : List ℕ) (s e n : ℕ) → s + n ≤ e → e ≤ length bytes → part ≡ take (s + n - s) (drop s bytes)
    → take n (part ++ rest) ≡ take n (take (e - s) (drop s bytes))
first_of bytes part rest s e n fits within same =
    let m : s + n - s ≡ n = omega arith in
    let same' : part ≡ take n (drop s bytes) = rw m at same in
    let len : length part ≡ n = ap length same' ∙ length-take-le n (drop s bytes) (rw (length-drop s bytes) (omega (arith, fits, within))) in
    take_at part rest n len ∙ same' ∙ sym (take-take n (e - s) (drop s bytes) (omega (arith, fits)))

-- and the others
pub others_of : (bytes : List ℕ) (s e n : ℕ) → s + n ≤ e → take (e - s) (drop s bytes) ≡ take n (take (e - s) (drop s bytes)) ++ take (e - (s + n)) (drop (s + n) bytes)
others_of bytes s e n fits =
    let xs : List ℕ = drop s bytes in
    let m : n + (e - (s + n)) ≡ e - s = omega (arith, fits) in
    let parts : take (e - s) xs ≡ take n xs ++ take (e - (s + n)) (drop n xs) = rw m at (taken_is xs n (e - (s + n))) in
    rw (take-take n (e - s) xs (omega (arith, fits)), ← drop-drop n s bytes) parts

pub all_parts : (bytes part rest : List ℕ) (s e n : ℕ) → s + n ≤ e → e ≤ length bytes → part ≡ take (s + n - s) (drop s bytes)
    → take (e - s) (drop s bytes) ≡ take n (part ++ rest) ++ take (e - (s + n)) (drop (s + n) bytes)
all_parts bytes part rest s e n fits within same =
    others_of bytes s e n fits ∙ ap (λ xs. xs ++ take (e - (s + n)) (drop (s + n) bytes)) (sym (first_of bytes part rest s e n fits within same))
