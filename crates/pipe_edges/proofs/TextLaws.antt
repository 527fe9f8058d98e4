-- Laws of lines, by the lines that stand in front.
use Rattle.std.proofs.Common.{◌≡◌, ◌≢◌, true, false, ℕ, ◌+◌, ◌<◌, ◌≤◌, List, [], ◌∷◌, ◌++◌, length, take, drop, arith, refl, ap, sym, ◌∙◌}
use Rattle.std.specs.Prelude.{All, if◌then◌else◌}
use Rattle.std.proofs.lemmas.Bool.{ne_eqb, le-ltb, lt-ltb}
use Rattle.std.proofs.lemmas.List.{append_assoc, append-nil, take-append-drop, length-append, length-take-le}
use Rattle.std.proofs.lemmas.List.Elements.{All-head, All-tail}
use Rattle.pipe_types.specs.Lines.{max_bytes, is_lf, before_first_piece, pieces, lines_of_pieces, lines}
use Rattle.pipe_edges.specs.Texts.{HasNoLf, IsLine, BeginsTooLong, ended}

-- an unbroken front stands in the first piece
pub pieces_front : (front w : List ℕ) (p : List ℕ) (ps : List (List ℕ)) → HasNoLf front → pieces w ≡ p ∷ ps
    → pieces (front ++ w) ≡ (front ++ p) ∷ ps
unfolding pieces
pieces_front [] w p ps h e = e
pieces_front (b ∷ bs) w p ps h e =
    let no : is_lf b ≡ false = ne_eqb b 10 (All-head (λ b. b ≢ 10) b bs h) in
    rw (no, pieces_front bs w p ps (All-tail (λ b. b ≢ 10) b bs h) e) refl

pub pieces_some : (w : List ℕ) → (p : List ℕ) × (ps : List (List ℕ)) × (pieces w ≡ p ∷ ps)
unfolding pieces
pieces_some [] = ([], [], refl)
pieces_some (b ∷ bs) =
    elim (is_lf b) as (λ t. (p : List ℕ) × (ps : List (List ℕ)) × ((if t then [] ∷ pieces bs else before_first_piece b (pieces bs)) ≡ p ∷ ps)) [
      | true ↦ ([], pieces bs, refl)
      | false ↦ (b ∷ (pieces_some bs).0, (pieces_some bs).1, rw (pieces_some bs).2 refl)
    ]

pub pieces_lf : (w : List ℕ) → pieces (10 ∷ w) ≡ [] ∷ pieces w
unfolding pieces
pieces_lf w = refl

pub pieces_nil : pieces [] ≡ [] ∷ []
unfolding pieces
pieces_nil = refl

more_pieces : (p q : List ℕ) (ps : List (List ℕ)) → length p ≤ max_bytes → lines_of_pieces (p ∷ q ∷ ps) ≡ p ∷ lines_of_pieces (q ∷ ps)
unfolding lines_of_pieces
more_pieces [] q ps h = refl
more_pieces (x ∷ xs) q ps h = rw (le-ltb max_bytes (length (x ∷ xs)) h) refl

last_piece : (p : List ℕ) → 0 < length p → length p ≤ max_bytes → lines_of_pieces (p ∷ []) ≡ p ∷ []
unfolding lines_of_pieces
last_piece [] some h = absurd (omega (arith, some))
last_piece (x ∷ xs) some h = rw (le-ltb max_bytes (length (x ∷ xs)) h) refl

long_piece : (p : List ℕ) (ps : List (List ℕ)) → max_bytes < length p → lines_of_pieces (p ∷ ps) ≡ []
unfolding lines_of_pieces
long_piece [] ps h = absurd (omega (arith, h))
long_piece (x ∷ xs) ps h = rw (lt-ltb max_bytes (length (x ∷ xs)) h) refl

-- a line and its LF are the first line
pub lines_line : (line w : List ℕ) → IsLine line → lines (line ++ 10 ∷ w) ≡ line ∷ lines w
unfolding lines
lines_line line w h =
    let s = pieces_some w in
    let e : pieces (line ++ 10 ∷ w) ≡ (line ++ []) ∷ pieces w = pieces_front line (10 ∷ w) [] (pieces w) h.unbroken (pieces_lf w) in
    rw (e, append-nil, s.2) (more_pieces line s.0 s.1 h.short)

-- lines and their LFs are the first lines
pub lines_ended : (records : List (List ℕ)) (w : List ℕ) → All IsLine records → lines (ended records ++ w) ≡ records ++ lines w
lines_ended [] w h = refl
lines_ended (r ∷ rs) w h =
    let e : (r ++ 10 ∷ ended rs) ++ w ≡ r ++ 10 ∷ (ended rs ++ w) = append_assoc r (10 ∷ ended rs) w in
    rw (e, lines_line r (ended rs ++ w) (All-head IsLine r rs h), lines_ended rs w (All-tail IsLine r rs h)) refl

-- a rest without LF is the last line
pub lines_last : (w : List ℕ) → IsLine w → 0 < length w → lines w ≡ w ∷ []
unfolding lines
lines_last w h some =
    let e : pieces (w ++ []) ≡ (w ++ []) ∷ [] = pieces_front w [] [] [] h.unbroken pieces_nil in
    let f : pieces w ≡ w ∷ [] = rw append-nil at e in
    rw f (last_piece w some h.short)

pub lines_nil : lines [] ≡ []
unfolding lines lines_of_pieces pieces
lines_nil = refl

-- nothing is a line from where a line is too long
pub lines_too_long : (w rest : List ℕ) → BeginsTooLong w → lines (w ++ rest) ≡ []
unfolding lines
lines_too_long w rest h =
    let front : List ℕ = take (max_bytes + 1) w in
    let back : List ℕ = drop (max_bytes + 1) w ++ rest in
    let s = pieces_some back in
    let e : front ++ back ≡ w ++ rest = sym (append_assoc front (drop (max_bytes + 1) w) rest) ∙ ap (λ x. x ++ rest) (take-append-drop (max_bytes + 1) w) in
    let f : pieces (front ++ back) ≡ (front ++ s.0) ∷ s.1 = pieces_front front back s.0 s.1 h.unbroken s.2 in
    let g : pieces (w ++ rest) ≡ (front ++ s.0) ∷ s.1 = rw e at f in
    let len : length front ≡ max_bytes + 1 = length-take-le (max_bytes + 1) w (omega (arith, h.long)) in
    rw g (long_piece (front ++ s.0) s.1 (omega (arith, length-append front s.0, len)))

pub ended_push : (records : List (List ℕ)) (line : List ℕ) → ended (records ++ line ∷ []) ≡ ended records ++ line ++ 10 ∷ []
ended_push [] line = refl
ended_push (r ∷ rs) line = rw (ended_push rs line) (ap (λ x. x) (search_assoc r (ended rs) line)) where
  search_assoc : (a b c : List ℕ) → a ++ 10 ∷ (b ++ c ++ 10 ∷ []) ≡ (a ++ 10 ∷ b) ++ c ++ 10 ∷ []
  search_assoc a b c = simp append_assoc
