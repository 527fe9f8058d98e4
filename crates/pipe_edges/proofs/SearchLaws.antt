-- Laws of the search for line ends.
use Rattle.std.proofs.Common.{◌≡◌, ◌≢◌, ℕ, ◌+◌, ◌-◌, ◌<◌, ◌≤◌, List, [], ◌∷◌, ◌++◌, length, take, drop, get_or, arith, refl, ap, sym, ◌∙◌, inl, inr, ◌⊎◌}
use Rattle.std.proofs.lemmas.Bool.{eqb-true, eq-eqb}
use Rattle.std.proofs.lemmas.List.{append_assoc, take-append-drop, length-take-le, length-drop, get_or-take, get_or-drop, drop-drop, drop-take, drop_more, take_all, length_push, take-take}
use Rattle.std.proofs.lemmas.List.Elements.{All-append, All-push, All-nil, All-from_get_or, All-same, All-take}
use Rattle.memchr.specs.Find.{is_byte, Nowhere, NoneBefore, Passes}
use Rattle.pipe_types.specs.Lines.{max_bytes}
use Rattle.pipe_edges.specs.Texts.{HasNoLf, IsLine, BeginsTooLong, HasNoWholeLine, ended}
use Rattle.pipe_edges.specs.Cut.{EndsAt, IsSearched, CutsLines}
use Rattle.pipe_edges.proofs.TextLaws.{ended_push}

-- a front that was searched and the next bytes without LF
searched_front : (bytes : List ℕ) (searched n : ℕ) → HasNoLf (take searched bytes) → HasNoLf (take n (drop searched bytes))
    → HasNoLf (take (searched + n) bytes)
searched_front bytes searched n h k =
    let l : searched ≤ searched + n = omega arith in
    let e : take searched bytes ++ take n (drop searched bytes) ≡ take (searched + n) bytes =
    rw (take-take searched (searched + n) bytes l, drop-take searched n bytes) at (take-append-drop searched (take (searched + n) bytes))
    in
    All-same (λ b. b ≢ 10) _ _ (sym e) (All-append (λ b. b ≢ 10) _ _ h k)

nowhere_no_lf : (bytes : List ℕ) (n : ℕ) → n ≤ length bytes → Nowhere (Passes (is_byte 10) bytes) 0 n → HasNoLf (take n bytes)
nowhere_no_lf bytes n fits h =
    All-from_get_or (λ b. b ≢ 10) (take n bytes) 0
    (λ k in' e.
    let len : length (take n bytes) ≡ n = length-take-le n bytes fits in
    let k_in : k < n = omega (arith, in', len) in
    let at : get_or (take n bytes) k 0 ≡ get_or bytes k 0 = get_or-take n bytes k 0 k_in in
    h k (omega arith) k_in (eq-eqb (get_or bytes k 0) 10 (sym at ∙ e)))

-- no LF behind the searched bytes
pub no_lf : (bytes : List ℕ) (searched : ℕ) → IsSearched bytes searched → Nowhere (Passes (is_byte 10) (drop searched bytes)) 0 (length (drop searched bytes))
    → HasNoLf bytes
no_lf bytes searched s h =
    let rest : List ℕ = drop searched bytes in
    let k : HasNoLf (take (length rest) rest) = nowhere_no_lf rest (length rest) (omega arith) h in
    let all : HasNoLf rest = All-same (λ b. b ≢ 10) _ _ (sym (take_all (length rest) rest (omega arith))) k in
    All-same (λ b. b ≢ 10) _ _ (sym (take-append-drop searched bytes)) (All-append (λ b. b ≢ 10) _ _ s.unbroken all)

-- the first LF behind the searched bytes is the first of all
pub ends_at : (bytes : List ℕ) (searched n : ℕ) → IsSearched bytes searched → NoneBefore (Passes (is_byte 10) (drop searched bytes)) 0 (length (drop searched bytes)) n
    → Passes (is_byte 10) (drop searched bytes) n → EndsAt bytes (searched + n)
ends_at bytes searched n s h lf =
    let rest : List ℕ = drop searched bytes in
    let len : length rest ≡ length bytes - searched = length-drop searched bytes in
    let in' : searched + n < length bytes = omega (arith, h.high, len, s.within) in
    let is : get_or bytes (searched + n) 0 ≡ 10 = sym (get_or-drop searched bytes n 0) ∙ eqb-true (get_or rest n 0) 10 lf in
    let more : drop (searched + n) bytes ≡ 10 ∷ drop (searched + n + 1) bytes = drop_more bytes (searched + n) 0 in' ∙ ap (λ b. b ∷ drop (searched + n + 1) bytes) is in
    record {
      within = in';
      parts = sym (take-append-drop (searched + n) bytes) ∙ ap (λ r. take (searched + n) bytes ++ r) more;
      unbroken = searched_front bytes searched n s.unbroken (nowhere_no_lf rest n (omega (arith, h.high)) h.before);
    }

-- nothing cut yet
pub cut_none : (bytes : List ℕ) (searched : ℕ) → IsSearched bytes searched → CutsLines bytes [] 0 searched
cut_none bytes searched s = record {
  within = omega arith;
  parts = refl;
  each_is_a_line = All-nil IsLine;
  left_searched = s;
}

pub nothing_searched : (bytes : List ℕ) → IsSearched bytes 0
nothing_searched bytes = record { within = omega arith; unbroken = All-nil (λ b. b ≢ 10) }

-- one more line is cut
pub cut_more : (bytes : List ℕ) (records : List (List ℕ)) (used searched n : ℕ) → CutsLines bytes records used searched
    → EndsAt (drop used bytes) n → n ≤ max_bytes
    → CutsLines bytes (records ++ take n (drop used bytes) ∷ []) (used + (n + 1)) 0
cut_more bytes records used searched n cut at short =
    let rest : List ℕ = drop used bytes in
    let line : List ℕ = take n rest in
    let len : length rest ≡ length bytes - used = length-drop used bytes in
    let e : drop (n + 1) rest ≡ drop (used + (n + 1)) bytes = drop-drop (n + 1) used bytes in
    let line_len : length line ≡ n = length-take-le n rest (omega (arith, at.within)) in
    let f : ended (records ++ line ∷ []) ++ drop (used + (n + 1)) bytes ≡ ended records ++ rest =
    rw (ended_push records line, ← e) (cut_join (ended records) line (drop (n + 1) rest) ∙ ap (λ r. ended records ++ r) (sym at.parts))
    in record {
      within = omega (arith, at.within, len, cut.within);
      parts = cut.parts ∙ sym f;
      each_is_a_line = All-push IsLine records line cut.each_is_a_line (record { short = omega (arith, line_len); unbroken = at.unbroken });
      left_searched = nothing_searched (drop (used + (n + 1)) bytes);
    } where
      cut_join : (a b c : List ℕ) → (a ++ b ++ 10 ∷ []) ++ c ≡ a ++ (b ++ 10 ∷ c)
      cut_join a b c = simp append_assoc

-- the rest is searched to its end
pub cut_searched : (bytes : List ℕ) (records : List (List ℕ)) (used searched : ℕ) → CutsLines bytes records used searched
    → HasNoLf (drop used bytes) → CutsLines bytes records used (length (drop used bytes))
cut_searched bytes records used searched cut none = record {
  within = cut.within;
  parts = cut.parts;
  each_is_a_line = cut.each_is_a_line;
  left_searched = record {
    within = omega arith;
    unbroken = All-same (λ b. b ≢ 10) _ _ (take_all (length (drop used bytes)) (drop used bytes) (omega arith)) none;
  };
}

front_unbroken : (bytes : List ℕ) (m n : ℕ) → m ≤ n → HasNoLf (take n bytes) → HasNoLf (take m bytes)
front_unbroken bytes m n le h = All-same (λ b. b ≢ 10) _ _ (sym (take-take m n bytes le)) (All-take (λ b. b ≢ 10) m (take n bytes) h)

-- where the first LF comes too late, a line is too long
pub too_long_at : (bytes : List ℕ) (n : ℕ) → EndsAt bytes n → max_bytes < n → BeginsTooLong bytes
too_long_at bytes n at long = record {
  long = omega (arith, at.within, long);
  unbroken = front_unbroken bytes (max_bytes + 1) n (omega (arith, long)) at.unbroken;
}

-- bytes without LF are part of a line, or too many
pub no_whole_line : (bytes : List ℕ) → HasNoLf bytes → HasNoWholeLine bytes
no_whole_line bytes none = elim (le_or_lt (length bytes) max_bytes) [
  | inl short ↦ inl (record { short = short; unbroken = none })
  | inr long ↦ inr (record { long = long; unbroken = All-take (λ b. b ≢ 10) (max_bytes + 1) bytes none })
] where
  le_or_lt : (a b : ℕ) → (a ≤ b) ⊎ (b < a)
  le_or_lt a b = Prim.grind arith

-- one round of cutting
pub cut_step : (bytes rest : List ℕ) (records records' : List (List ℕ)) (used searched n : ℕ) (line : List ℕ) → CutsLines bytes records used searched
    → rest ≡ drop used bytes → EndsAt rest n → n ≤ max_bytes → line ≡ take n rest → records' ≡ records ++ line ∷ []
    → CutsLines bytes records' (used + (n + 1)) 0 × (length records' ≡ length records + 1)
cut_step bytes rest records records' used searched n line cut is_rest at short is_line pushed =
    let at' : EndsAt (drop used bytes) n = rw is_rest at at in
    let is_line' : line ≡ take n (drop used bytes) = rw is_rest at is_line in
    let pushed' : records' ≡ records ++ take n (drop used bytes) ∷ [] = rw is_line' at pushed in
    (rw pushed' (cut_more bytes records used searched n cut at' short), rw pushed' (length_push records (take n (drop used bytes))))

-- where no line was cut, all is held as before
pub none_cut : (records : List (List ℕ)) (held held' : List ℕ) → length records ≡ 0 → held ≡ ended records ++ held' → held' ≡ held
none_cut [] held held' none cut = sym cut
none_cut (r ∷ rs) held held' none cut = absurd (omega (arith, none))
