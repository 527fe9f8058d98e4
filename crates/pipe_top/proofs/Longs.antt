-- Where a line is too long, not every line is short.
use Rattle.std.proofs.Common.{◌≡◌, ℕ, ◌+◌, ◌≤◌, List, [], ◌∷◌, ◌++◌, length, take, drop, Bool, true, false, arith}
use Rattle.std.specs.Prelude.{All, if◌then◌else◌}
use Rattle.std.proofs.lemmas.List.{append_assoc, take-append-drop, length-append, length-take-le}
use Rattle.std.proofs.lemmas.List.Elements.{All-nil, All-cons, All-head, All-tail}
use Rattle.pipe_types.specs.Lines.{max_bytes, is_lf, before_first_piece, pieces}
use Rattle.pipe_edges.specs.Texts.{BeginsTooLong, ended}
use Rattle.pipe_edges.proofs.TextLaws.{pieces_front, pieces_some}
use Rattle.source_lines.specs.Cut.{HasShortLines, AreLinesBeforeLong}

abbrev is_short : List ℕ → Type 0
is_short piece = length piece ≤ max_bytes

-- without its first byte a text has no longer pieces
short_after : (lf : Bool) (b : ℕ) (ps : List (List ℕ)) → All is_short (if lf then [] ∷ ps else before_first_piece b ps) → All is_short ps
short_after true b ps each = All-tail is_short [] ps each
short_after false b [] each = All-nil is_short
short_after false b (p ∷ ps) each =
    let head : length (b ∷ p) ≤ max_bytes = All-head is_short (b ∷ p) ps each in
    All-cons is_short p ps (omega (arith, head)) (All-tail is_short (b ∷ p) ps each)

-- nor has it any without its first line
short_line : (line w : List ℕ) → HasShortLines (line ++ 10 ∷ w) → HasShortLines w
unfolding pieces
short_line [] w each = All-tail is_short [] (pieces w) each
short_line (b ∷ bs) w each = short_line bs w (short_after (is_lf b) b (pieces (bs ++ 10 ∷ w)) each)

short_rest : (records : List (List ℕ)) (w : List ℕ) → HasShortLines (ended records ++ w) → HasShortLines w
short_rest [] w each = each
short_rest (r ∷ rs) w each = short_rest rs w (short_line r (ended rs ++ w) (rw (append_assoc r (10 ∷ ended rs) w) at each))

long_first : (w : List ℕ) → BeginsTooLong w → HasShortLines w → ⊥
long_first w long each =
    let front : List ℕ = take (max_bytes + 1) w in
    let back : List ℕ = drop (max_bytes + 1) w in
    let s = pieces_some back in
    let f : pieces (front ++ back) ≡ (front ++ s.0) ∷ s.1 = pieces_front front back s.0 s.1 long.unbroken s.2 in
    let g : pieces w ≡ (front ++ s.0) ∷ s.1 = rw (take-append-drop (max_bytes + 1) w) at f in
    let len : length front ≡ max_bytes + 1 = length-take-le (max_bytes + 1) w (omega (arith, long.long)) in
    let head : length (front ++ s.0) ≤ max_bytes = All-head is_short (front ++ s.0) s.1 (rw g at each) in
    omega (arith, head, length-append front s.0, len)

pub not_long : (bytes : List ℕ) (records : List (List ℕ)) → AreLinesBeforeLong bytes records → HasShortLines bytes → ⊥
not_long bytes records before each = long_first before.rest before.long (short_rest records before.rest (rw before.parts at each))
