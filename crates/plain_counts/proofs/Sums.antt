-- Sums over lists with one more at the end.
use Rattle.std.proofs.Common.{◌≡◌, ℕ, ◌+◌, List, [], ◌∷◌, ◌++◌, length, arith}
use Rattle.pipe_model.specs.History.{bytes_in}

pub bytes_more : (records : List (List ℕ)) (r : List ℕ) → bytes_in (records ++ r ∷ []) ≡ bytes_in records + length r
bytes_more [] r = omega arith
bytes_more (q ∷ records) r = omega (arith, bytes_more records r)
