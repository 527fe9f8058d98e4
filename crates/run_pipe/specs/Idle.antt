-- Rows of quiet answers in the journal of a pipe, with any number of workers.
use Rattle.std.specs.Prelude.{◌≡◌, ◌≤◌, ◌<◌, ℕ, [], ◌∷◌, false}
use Rattle.pipe_model.specs.History.{History}
use Rattle.pipe_model.specs.Legal.{happened, is_drain, is_halt, quiet_row}

-- nowhere before the drain and before a halt do more quiet answers stand in a row than so many
abbrev pub HasIdleRows : (limit : ℕ) → History → Type 0
HasIdleRows limit [] = Unit {0}
HasIdleRows limit (step ∷ before) = HasIdleRows limit before × (happened is_drain before ≡ false → happened is_halt before ≡ false → quiet_row (step ∷ before) ≤ limit)

-- and until then fewer stand at its end
pub record IsIdle (limit : ℕ) (steps : History) : Type 0 where
  pub rows : HasIdleRows limit steps
  pub below : happened is_drain steps ≡ false → happened is_halt steps ≡ false → quiet_row steps < limit
