use Rattle.std.proofs.Common.{◌≡◌, take, drop, None, All}
use Rattle.batcher.specs.Batches.{trigger_of, first_of}
use Rattle.batcher.specs.Seen.{seen}
use Rattle.batcher.proofs.Batcher.closable_at.Given as goal

-- none of the batches so far begins with the message and has a trigger, and the others are left
abbrev pub invariant-loop-at : goal.invariant-loop-at
invariant-loop-at l = (seen l.entries ≡ drop l.at l.self.batches) × All (λ batch. first_of batch ≡ l.first.0 → trigger_of l.self l.now l.dry batch ≡ None) (take l.at l.self.batches)
