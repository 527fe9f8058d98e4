-- What a merge gives.
use Rattle.std.specs.Prelude.{◌≡◌, ℕ, ◌+◌, ◌-◌, ◌==◌, Bool, true, false, List, [], ◌∷◌, length, map, slice_get, Option, Some, None, Result, Ok, Err}
use Rattle.std.specs.List.{filter}
use Rattle.pipe_edges.specs.declared.reading.LineEnd.TheVariants as end
use Rattle.pipe_edges.specs.Fetch.{answer_of}
use Rattle.pipe_edges.specs.declared.reading.Fetched.{Fetched}
use Rattle.pipe_edges.specs.declared.reading.Fetched.TheVariants as fetched
use Rattle.line_merge.specs.declared.item.MergeItem.{MergeItem}
use Rattle.line_merge.specs.declared.item.MergeItem.TheVariants.{Line, NotYet, End, Fault, TooLong}
use Rattle.line_merge.specs.declared.item.MergeEnd.{MergeEnd}
use Rattle.line_merge.specs.declared.item.MergeEnd.TheVariants as merge_end
use Rattle.line_merge.specs.Taken.{Taken}
use Rattle.line_merge.specs.Taken as taken

-- the answer that names an end
abbrev pub item_of : MergeEnd → MergeItem
item_of merge_end.End = End
item_of (merge_end.Fault place) = Fault place
item_of (merge_end.TooLong place) = TooLong place

-- the end that is known after an answer
abbrev pub end_by : MergeItem → Option MergeEnd
end_by (Line place line) = None
end_by NotYet = None
end_by End = Some merge_end.End
end_by (Fault place) = Some (merge_end.Fault place)
end_by (TooLong place) = Some (merge_end.TooLong place)

-- an item as the answer of a fetch
abbrev pub answer_by : MergeItem → Fetched
answer_by (Line place line) = fetched.Records (line ∷ [])
answer_by NotYet = fetched.NotYet
answer_by End = fetched.End
answer_by (Fault place) = fetched.Fault
answer_by (TooLong place) = fetched.TooLong

-- what a merge gives for the try of a place, if it does not go on to the next one
abbrev pub item_in : (place : ℕ) → Taken → Option MergeItem
item_in place (taken.Line line) = Some (Line place line)
item_in place taken.NotYet = None
item_in place (taken.Ended end.End) = None
item_in place (taken.Ended end.Fault) = Some (Fault place)
item_in place (taken.Ended end.TooLong) = Some (TooLong place)

-- the fetch of one line that a try is
abbrev pub fetched_by : Taken → Fetched
fetched_by (taken.Line line) = fetched.Records (line ∷ [])
fetched_by taken.NotYet = fetched.NotYet
fetched_by (taken.Ended end) = answer_of end

-- the source is open after it
abbrev pub leaves_open : Taken → Bool
leaves_open (taken.Ended end.End) = false
leaves_open _ = true

-- the line of a try
abbrev pub line_of : Taken → List (List ℕ)
line_of (taken.Line line) = line ∷ []
line_of _ = []

abbrev pub line_in : {E : Type 0} → Result Taken E → List (List ℕ)
line_in (Ok t) = line_of t
line_in (Err _) = []

-- ---- the lines given, each with its place

abbrev pub given_of : MergeItem → List (ℕ × List ℕ)
given_of (Line place line) = (place, line) ∷ []
given_of _ = []

abbrev pub given_by : {E : Type 0} → Result MergeItem E → List (ℕ × List ℕ)
given_by (Ok item) = given_of item
given_by (Err _) = []

abbrev pub given_in : {E : Type 0} → Result (Option MergeItem) E → List (ℕ × List ℕ)
given_in (Ok (Some item)) = given_of item
given_in _ = []

-- the lines that were given from a place
abbrev pub lines_from : (place : ℕ) → (given : List (ℕ × List ℕ)) → List (List ℕ)
lines_from place given = map (λ d. d.1) (filter (λ d. d.0 == place) given)

-- the places of the lines
abbrev pub places_in : (given : List (ℕ × List ℕ)) → List ℕ
places_in given = map (λ d. d.0) given

-- ---- the order

abbrev pub behind : Option ℕ → ℕ
behind None = 0
behind (Some place) = place + 1

-- the place after the last line's, 0 before the first line
abbrev pub next_place : (places : List ℕ) → ℕ
next_place places = behind (slice_get places (length places - 1))
