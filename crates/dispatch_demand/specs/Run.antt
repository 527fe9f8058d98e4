-- Consecutive units on one subscription.
use Rattle.std.specs.Prelude.{ℕ, ◌+◌, suc, zero, List, [], ◌∷◌, ◌++◌}
use Rattle.pipe_types.specs.declared.numbers.SubNo.{SubNo}
use Rattle.pipe_types.specs.declared.room.Sent.{Sent}

-- so many units from the first on
abbrev pub run : (first count : ℕ) → SubNo → List Sent
run first zero sub = []
run first (suc n) sub = run first n sub ++ record { unit = first + n; sub = sub } ∷ []
