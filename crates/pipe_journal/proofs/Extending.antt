-- Lists that grow at their end.
use Rattle.std.proofs.Common.{◌≡◌, ℕ, zero, suc, ◌+◌, ◌-◌, ◌<◌, ◌≤◌, List, [], ◌∷◌, ◌++◌, length, take, drop, refl, sym, ap, ◌∙◌, arith, Option, Some, None, append-nil, append_assoc, length-append, length-take, length-drop, min, get_or}
use Rattle.std.specs.Prelude.{slice_get, Result, Ok, Err, IfOk}
use Rattle.std.proofs.lemmas.List.{take-append-le, drop-append-le, take_all, get_or-take, get_or-drop}
use Rattle.std.proofs.lemmas.Option.{slice_get-get_or, slice_get_read, slice_get_within, get_or_from_slice_get}
use Rattle.pipe_journal.proofs.Walks.{one_more}
use Rattle.std.proofs.Math.Seq.{drop-append_seam}
use Rattle.pipe_journal.specs.Entries.{piece}
use Rattle.pipe_journal.specs.Grown.{Extends, IsAdded, AreAdded}

pub same : {X : Type 0} (old new : List X) → new ≡ old → Extends old new
same old new is = record { more = []; is = is ∙ sym (append-nil old) }

pub by : {X : Type 0} (old more new : List X) → new ≡ old ++ more → Extends old new
by old more new is = record { more = more; is = is }

pub by_one : {X : Type 0} (at : ℕ) (old : List X) (x : X) (new : List X) → IsAdded at old x new → Extends old new
by_one at old x new added = record { more = x ∷ []; is = added.is }

pub by_all : {X : Type 0} (first count : ℕ) (old added new : List X) → AreAdded first count old added new → Extends old new
by_all first count old added new are = record { more = added; is = are.is }

-- the last item
pub get_pushed : {X : Type 0} (xs : List X) (x : X) → slice_get (xs ++ x ∷ []) (length xs) ≡ Some x
get_pushed [] x = refl
get_pushed (y ∷ ys) x = get_pushed ys x

pub added_there : {X : Type 0} (at : ℕ) (old : List X) (x : X) (new : List X) → IsAdded at old x new → slice_get new at ≡ Some x
added_there at old x new added =
    ap (slice_get new) added.at_is ∙ ap (λ ys. slice_get ys (length old)) added.is ∙ get_pushed old x

pub twice : {X : Type 0} (old mid new : List X) → Extends old mid → Extends mid new → Extends old new
twice old mid new first second = record {
  more = first.more ++ second.more;
  is = second.is ∙ ap (λ xs. xs ++ second.more) first.is ∙ append_assoc old first.more second.more;
}

pub as_long : {X : Type 0} (old new : List X) → Extends old new → length old ≤ length new
as_long old new extends =
    let long : length new ≡ length old + length extends.more = ap length extends.is ∙ length-append old extends.more in
    omega arith

get_front : {X : Type 0} (xs more : List X) (at : ℕ) → at < length xs → slice_get (xs ++ more) at ≡ slice_get xs at
get_front [] more at inside = let none : ⊥ = omega arith in absurd none
get_front (x ∷ xs) more zero inside = refl
get_front (x ∷ xs) more (suc at) inside = get_front xs more at (omega arith)

-- what stood at a place stands there
pub same_item : {X : Type 0} (at : ℕ) (old new : List X) → Extends old new → at < length old → slice_get new at ≡ slice_get old at
same_item at old new extends inside = ap (λ (xs : List _). slice_get xs at) extends.is ∙ get_front old extends.more at inside

pub same_piece : {X : Type 0} (first count : ℕ) (old new : List X) → Extends old new → first + count ≤ length old → piece first count new ≡ piece first count old
same_piece first count old new extends inside =
    let long : length (drop first old) ≡ length old - first = length-drop first old in
    ap (piece first count) extends.is
    ∙ ap (take count) (drop-append-le first old extends.more (omega arith))
    ∙ take-append-le count (drop first old) extends.more (omega arith)

-- how many there are from a place on, at most so many
pub piece_long : {X : Type 0} (first count : ℕ) (xs : List X) → length (piece first count xs) ≡ min count (length xs - first)
piece_long first count xs = length-take count (drop first xs) ∙ ap (min count) (length-drop first xs)

-- a place of a piece is one of the list
pub piece_within : {X : Type 0} (first count at : ℕ) (xs : List X) → at < length (piece first count xs) → first + at < length xs
piece_within first count at xs inside = let long = piece_long first count xs in omega arith

-- what stands at a place of a piece
pub piece_item : {X : Type 0} (first count at : ℕ) (xs : List X) (x : X) → at < length (piece first count xs) → slice_get xs (first + at) ≡ Some x
    → slice_get (piece first count xs) at ≡ Some x
piece_item first count at xs x inside is =
    let long = piece_long first count xs in
    slice_get-get_or (piece first count xs) at x inside
    ∙ ap Some (get_or-take count (drop first xs) at x (omega arith) ∙ get_or-drop first xs at x ∙ get_or_from_slice_get xs (first + at) x x is)

-- what was added is the piece there
pub added_piece : {X : Type 0} (first count : ℕ) (old added new : List X) → AreAdded first count old added new → piece first count new ≡ added
added_piece first count old added new are =
    ap (piece first count) are.is
    ∙ ap (λ (n : ℕ). take count (drop n (old ++ added))) are.first_is
    ∙ ap (take count) (drop-append_seam old added)
    ∙ take_all count added (omega (arith, are.count_is))

pub added_within : {X : Type 0} (first count : ℕ) (old added new : List X) → AreAdded first count old added new → first + count ≤ length new
added_within first count old added new are =
    let long : length new ≡ length old + length added = ap length are.is ∙ length-append old added in
    omega (arith, are.first_is, are.count_is)

-- the two words added in a row
pub first_of_two : {X : Type 0} (at : ℕ) (old : List X) (x y : X) (mid new : List X) → IsAdded at old x mid → new ≡ mid ++ y ∷ [] → slice_get new at ≡ Some x
first_of_two at old x y mid new added is =
    let there = added_there at old x mid added in
    same_item at mid new (by mid (y ∷ []) new is) (slice_get_within mid at x there) ∙ there

pub second_of_two : {X : Type 0} (at : ℕ) (old : List X) (x y : X) (mid new : List X) → IsAdded at old x mid → new ≡ mid ++ y ∷ [] → slice_get new (at + 1) ≡ Some y
second_of_two at old x y mid new added is =
    let long : length mid ≡ length old + 1 = ap length added.is ∙ length-append old (x ∷ []) in
    let next : at + 1 ≡ length mid = omega (arith, added.at_is) in
    ap (slice_get new) next ∙ ap (λ ys. slice_get ys (length mid)) is ∙ get_pushed mid y

-- one more item of a list put behind the others
pub more_taken : {X : Type 0} (start xs : List X) (i : ℕ) (d : X) (now next : List X) → i < length xs → d ≡ get_or xs i d
    → now ≡ start ++ take i xs → next ≡ now ++ d ∷ [] → next ≡ start ++ take (i + 1) xs
more_taken start xs i d now next within read so_far added =
    added
    ∙ ap (λ ys. ys ++ d ∷ []) so_far
    ∙ append_assoc start (take i xs) (d ∷ [])
    ∙ ap (λ ys. start ++ ys) (sym (one_more xs i d (slice_get_read xs (length xs) i d refl within read)))

-- the whole list put behind the others
pub all_taken : {X : Type 0} (first count : ℕ) (start xs : List X) (i : ℕ) (now : List X) → first ≡ length start → count ≡ length xs → length xs ≤ i
    → now ≡ start ++ take i xs → AreAdded first count start xs now
all_taken first count start xs i now first_is count_is all so_far =
    record { first_is = first_is; count_is = count_is; is = so_far ∙ ap (λ ys. start ++ ys) (take_all i xs all) }

-- the place that a call answers, where it answers one
pub same_place : {X E : Type 0} (place : Result ℕ E) (at : ℕ) (xs : List X) (x : X) → IfOk place (λ n. n ≡ at) → slice_get xs at ≡ Some x
    → IfOk place (λ n. slice_get xs n ≡ Some x)
same_place (Ok n) at xs x is there = ap (slice_get xs) is ∙ there
same_place (Err e) at xs x is there = tt

pub added_places : {X E : Type 0} (place : Result ℕ E) (old : List X) (x : X) (new : List X) → IfOk place (λ at. IsAdded at old x new)
    → IfOk place (λ at. slice_get new at ≡ Some x)
added_places (Ok at) old x new added = added_there at old x new added
added_places (Err e) old x new added = tt
