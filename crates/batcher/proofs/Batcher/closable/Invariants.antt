use Rattle.std.proofs.Common.{◌≡◌, take, drop, None, All}
use Rattle.batcher.specs.Batches.{trigger_of}
use Rattle.batcher.specs.Seen.{seen}
use Rattle.batcher.proofs.Batcher.closable.Given as goal

-- no trigger holds of the batches so far, and the others are left
abbrev pub invariant-loop-at : goal.invariant-loop-at
invariant-loop-at l = (seen l.entries ≡ drop l.at l.self.batches) × All (λ batch. trigger_of l.self l.now l.dry batch ≡ None) (take l.at l.self.batches)
