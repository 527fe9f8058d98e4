-- What a merge shows.
use Rattle.std.specs.Prelude.{ℕ, Bool, List, map, slice_get, Option, Some, None}
use Rattle.pipe_edges.specs.LineSource.{line_source}
use Rattle.pipe_edges.specs.declared.lines.LineSource.{LineSource}
use Rattle.line_merge.specs.declared.stream.Stream.{Stream}
use Rattle.line_merge.specs.declared.merge.LineMerge.{LineMerge}
use Rattle.line_merge.specs.declared.item.MergeEnd.{MergeEnd}

-- both are there and so related, or none is there
abbrev pub Both : {A B : Type 0} → (A → B → Type 0) → Option A → Option B → Type 0
Both R (Some a) (Some b) = R a b
Both R None None = Unit {0}
Both R _ _ = ⊥

-- both are there, and so related
abbrev pub There : {A B : Type 0} → (A → B → Type 0) → Option A → Option B → Type 0
There R (Some a) (Some b) = R a b
There R _ _ = ⊥

-- a source with its lines
abbrev pub lines_of : {B : Type 0} → Stream B → LineSource B
lines_of s = s.lines

-- it has not answered its end
abbrev pub is_open_in : {B : Type 0} → Stream B → Bool
is_open_in s = s.is_open

-- the source of a place, if there is one
abbrev pub stream_at : {B : Type 0} → LineMerge B → ℕ → Option (Stream B)
stream_at m k = slice_get m.streams.items k

-- the sources, as they are given back
abbrev pub sources_of : {B : Type 0} → LineMerge B → List B
sources_of m = map (λ s. line_source s.lines) m.streams.items

-- the places of the lines that were given, in order
abbrev pub places_of : {B : Type 0} → LineMerge B → List ℕ
places_of m = m.order.items

-- why no more lines come, once that is known
abbrev pub merge_end_of : {B : Type 0} → LineMerge B → Option MergeEnd
merge_end_of m = m.end
