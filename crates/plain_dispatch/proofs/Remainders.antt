-- Division by zero.
use Rattle.std.proofs.Common.{◌≡◌, ℕ, ◌%◌, ap, ◌∙◌}
use Rattle.std.proofs.Math.Nat.{mod-zero}

pub by_zero : (a b : ℕ) → b ≡ 0 → a % b ≡ a
by_zero a b none = ap (λ n. a % n) none ∙ mod-zero a
