-- Pieces and lines of bytes that begin with whole lines.
use Rattle.std.proofs.Common.{◌≡◌, ℕ, ◌≤◌, List, [], ◌∷◌, ◌++◌, length, arith, refl, sym}
use Rattle.std.specs.Prelude.{All, Bool, true, false, nat_lt, if◌then◌else◌, ◌≢◌}
use Rattle.std.proofs.lemmas.Bool.Decides.{nat_tests}
use Rattle.std.proofs.lemmas.List.{append_assoc, append-nil}
use Rattle.std.proofs.lemmas.List.Elements.{All-nil, All-cons, All-append, All-head, All-tail}
use Rattle.pipe_types.specs.Lines.{max_bytes, pieces, lines_of_pieces, lines}
use Rattle.pipe_edges.specs.Texts.{HasNoLf, IsLine, ended, joined}
use Rattle.pipe_edges.proofs.TextLaws.{pieces_front, pieces_lf, pieces_nil}
use Rattle.source_lines.specs.Cut.{HasShortLines}

pub ended_append : (first more : List (List ℕ)) → ended (first ++ more) ≡ ended first ++ ended more
ended_append [] more = refl
ended_append (r ∷ rs) more = rw (ended_append rs more) (sym (append_assoc r (10 ∷ ended rs) (ended more)))

-- lines and their LFs are the first pieces
pub pieces_ended : (records : List (List ℕ)) (w : List ℕ) → All IsLine records → pieces (ended records ++ w) ≡ records ++ pieces w
pieces_ended [] w each = refl
pieces_ended (r ∷ rs) w each =
    let e : (r ++ 10 ∷ ended rs) ++ w ≡ r ++ 10 ∷ (ended rs ++ w) = append_assoc r (10 ∷ ended rs) w in
    let f : pieces (r ++ 10 ∷ (ended rs ++ w)) ≡ (r ++ []) ∷ pieces (ended rs ++ w) =
    pieces_front r (10 ∷ (ended rs ++ w)) [] (pieces (ended rs ++ w)) (All-head IsLine r rs each).unbroken (pieces_lf (ended rs ++ w)) in
    rw (e, f, append-nil, pieces_ended rs w (All-tail IsLine r rs each)) refl

no_lf_joined : (records : List (List ℕ)) → All IsLine records → HasNoLf (joined records)
no_lf_joined [] each = All-nil (λ b. b ≢ 10)
no_lf_joined (r ∷ rs) each =
    All-append (λ b. b ≢ 10) r (joined rs) (All-head IsLine r rs each).unbroken (no_lf_joined rs (All-tail IsLine r rs each))

-- bytes without LF are one piece
pub pieces_unbroken : (w : List ℕ) → HasNoLf w → pieces w ≡ w ∷ []
pieces_unbroken w unbroken =
    let e : pieces (w ++ []) ≡ (w ++ []) ∷ [] = pieces_front w [] [] [] unbroken pieces_nil in
    rw append-nil at e

-- a piece that is kept as a line is no longer than one
by_length : (n : ℕ) (line r : List ℕ) (others rs : List (List ℕ)) (long : Bool) → nat_lt max_bytes n ≡ long
    → (if long then [] else line ∷ others) ≡ r ∷ rs → n ≤ max_bytes
by_length n line r others rs true is kept = grind (arith, nat_tests)
by_length n line r others rs false is kept = grind (arith, nat_tests)

short_piece : (p : List ℕ) (records : List (List ℕ)) → p ≡ joined records → lines_of_pieces (p ∷ []) ≡ records → length p ≤ max_bytes
unfolding lines_of_pieces
short_piece p [] is all = rw is (omega arith)
short_piece [] (r ∷ rs) is all = omega arith
short_piece (x ∷ xs) (r ∷ rs) is all =
    by_length (length (x ∷ xs)) (x ∷ xs) r (lines_of_pieces []) rs (nat_lt max_bytes (length (x ∷ xs))) refl all

pub short_joined : (records : List (List ℕ)) → All IsLine records → lines (joined records) ≡ records → HasShortLines (joined records)
unfolding lines
short_joined records each all =
    let unbroken : HasNoLf (joined records) = no_lf_joined records each in
    let e : pieces (joined records) ≡ joined records ∷ [] = pieces_unbroken (joined records) unbroken in
    let one : lines_of_pieces (joined records ∷ []) ≡ records = rw e at all in
    rw e (All-cons (λ piece. length piece ≤ max_bytes) (joined records) [] (short_piece (joined records) records refl one) (All-nil (λ piece. length piece ≤ max_bytes)))
