-- Counts that rose.
use Rattle.std.proofs.Common.{ℕ, ◌+◌, ◌≤◌, inl, inr, arith}
use Rattle.pipe_types.specs.Counts.{Rose}
use Rattle.stage_job.specs.Chunks.{RoseBy}

pub rise_none : (a : ℕ) → RoseBy 0 a a
rise_none a = inl (omega arith)

pub rise_stays : (n a b c : ℕ) → RoseBy n a b → b ≤ c → RoseBy n a c
rise_stays n a b c (inl low) le = inl (omega (arith, low, le))
rise_stays n a b c (inr full) le = inr (omega (arith, full, le))

pub rise_one : (m a b c : ℕ) → RoseBy m a b → Rose b c → b ≤ c → RoseBy (m + 1) a c
rise_one m a b c (inl low) (inl more) le = inl (omega (arith, low, more))
rise_one m a b c (inl low) (inr full) le = inr (omega (arith, full))
rise_one m a b c (inr full) r le = inr (omega (arith, full, le))
