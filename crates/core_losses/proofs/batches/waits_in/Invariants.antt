use Rattle.std.proofs.Common.{◌≡◌, ℕ, drop, map}
use Rattle.pipe_model.specs.Flow.{among}
use Rattle.core_losses.proofs.batches.waits_in.Given as goal

abbrev pub invariant-loop-k : goal.invariant-loop-k
invariant-loop-k l = record { left : among (map {A = ℕ × ℕ} {B = ℕ} (λ unit. unit.1) (drop l.k l.queue.items)) l.unit ≡ among (map {A = ℕ × ℕ} {B = ℕ} (λ unit. unit.1) l.queue.items) l.unit }
