-- Rows of quiet answers.
use Rattle.std.specs.Prelude.{◌≤◌, ◌<◌, ℕ, [], ◌∷◌, IsSome, Option}
use Rattle.pipe_model.specs.History.{History}
use Rattle.pipe_model.specs.Legal.{quiet_row}

-- nowhere in the journal do more quiet answers stand in a row than so many
abbrev pub RowsWithin : (limit : ℕ) → History → Type 0
RowsWithin limit [] = Unit {0}
RowsWithin limit (step ∷ before) = RowsWithin limit before × (quiet_row (step ∷ before) ≤ limit)

-- that stays so, where an answer that is brought finds a shorter row
abbrev pub KeepsRows : {H : Type 0} → (limit : ℕ) → (brought : Option H) → (old new : History) → Type 0
KeepsRows limit brought old new = 1 ≤ limit → (IsSome brought → quiet_row old < limit) → RowsWithin limit old → RowsWithin limit new
