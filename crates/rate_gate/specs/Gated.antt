-- What a source behind a gate shows.
use Rattle.std.specs.Prelude.{ℕ, Bool, List, ◌++◌, Option, None, Some, IfSome}
use Rattle.pipe_edges.specs.Paces.{PaceSeen}
use Rattle.rate_gate.specs.Front.{FrontSeen, taken_before, HoldsLast, paced_with, waits_with}

-- the source, and what stands before it
pub record GatedSeen (B : Type 0) : Type 0 where
  pub inner : B
  pub front : Option FrontSeen

abbrev pub taken_by : Option FrontSeen → List ℕ → List ℕ
taken_by None taken = taken
taken_by (Some front) taken = taken_before front.held taken

abbrev pub left_by : Option FrontSeen → List ℕ → List ℕ
left_by None left = left
left_by (Some front) left = front.held ++ left

abbrev pub waits_by : Option FrontSeen → ℕ → ℕ
waits_by None waits = waits
waits_by (Some front) waits = waits_with front.stops waits

-- with a gate how often the source itself had nothing ready is what it counts
abbrev pub paced_by : Option FrontSeen → (waits : ℕ) → PaceSeen → PaceSeen
paced_by None waits paced = paced
paced_by (Some front) waits paced = paced_with waits front

-- the last bytes that were read are those that are held
abbrev pub HoldsLastBy : Option FrontSeen → (told : Bool) → (taken : List ℕ) → Type 0
HoldsLastBy front told taken = IfSome front (λ f. HoldsLast told f.held taken)
