use Rattle.std.proofs.Common.{◌≡◌, take}
use Rattle.journal_reading.proofs.copies.copy_stages.Given as goal

-- the copies so far
abbrev pub invariant-loop-spec : goal.invariant-loop-spec
invariant-loop-spec l = l.copied.items ≡ take l.spec-index l.stages
