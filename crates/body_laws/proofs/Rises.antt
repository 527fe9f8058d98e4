-- Counts that rose, and the count of a stage.
use Rattle.std.proofs.Common.{◌≡◌, ℕ, ◌+◌, ◌^◌, ◌≤◌, ◌<◌, List, [], ◌∷◌, length, Bool, true, false, refl, inl, inr, Some, None, Option, arith}
use Rattle.std.specs.Prelude.{if◌then◌else◌, count_by}
use Rattle.pipe_types.specs.declared.numbers.StageNo.{StageNo}
use Rattle.pipe_types.specs.declared.message.Reply.{Reply}
use Rattle.pipe_types.specs.declared.message.Reply.TheVariants.{Pass, Failed, Raised, Crashed}
use Rattle.pipe_types.specs.declared.message.BatchEnd.{BatchEnd}
use Rattle.pipe_types.specs.declared.step.Step.TheVariants.{Done, Wrote, Restart}
use Rattle.pipe_types.specs.declared.topology.StageSpec.{StageSpec}
use Rattle.pipe_types.specs.declared.topology.Topology.{Topology}
use Rattle.pipe_types.specs.Counts.{Rose}
use Rattle.pipe_types.specs.Handlers.{counted, count_after_batch, batch_replies}
use Rattle.pipe_types.specs.Numbers.{same_stage}
use Rattle.pipe_types.specs.Stages.{spec_of}
use Rattle.pipe_model.specs.History.{History}
use Rattle.pipe_model.specs.Work.{count, batch_of}
use Rattle.pipe_laws.proofs.Tests.{same_stage-self}
use Rattle.stage_callback.specs.Callbacks.{is_passed}
use Rattle.stage_job.specs.Chunks.{RoseBy}
pub use Rattle.pace_laws.proofs.Rises.{rise_none, rise_one, rise_stays}
use Rattle.body_laws.specs.Counts.{one_more}

pub rise_more : (m n a b c : ℕ) → RoseBy m a b → RoseBy n b c → b ≤ c → RoseBy (m + n) a c
rise_more m n a b c (inl low) (inl more) le = inl (omega (arith, low, more))
rise_more m n a b c (inl low) (inr full) le = inr full
rise_more m n a b c (inr full) r le = inr (omega (arith, full, le))

pub rise_if : (t : Bool) (m a b c : ℕ) → RoseBy m a b → (t ≡ true → Rose b c) → b ≤ c → RoseBy (one_more t m) a c
rise_if true m a b c r rose le = rise_one m a b c r (rose refl) le
rise_if false m a b c r rose le = rise_stays m a b c r le

-- ---- counts of messages

counted_small : (n k : ℕ) → counted n k < 2 ^ 64
counted_small n k = grind arith

small_if : (t : Bool) (n old : ℕ) → n < 2 ^ 64 → old < 2 ^ 64 → (if t then n else old) < 2 ^ 64
small_if true n old low least = low
small_if false n old low least = least

pub count_wrote : (topology : Topology) (before : History) (s : StageNo) (bytes : ℕ) (end : BatchEnd) (spec : StageSpec) → spec_of topology s ≡ Some spec
    → count topology (Wrote s bytes end ∷ before) s ≡ count_after_batch spec (count topology before s) (batch_of topology before s)
count_wrote topology before s bytes end spec e = rw (same_stage-self s, e) refl

pub count_done : (topology : Topology) (before : History) (s : StageNo) (replies : List Reply) → count topology (Done s replies ∷ before) s ≡ counted (count topology before s) (length replies)
count_done topology before s replies = rw (same_stage-self s) refl

pub count_small : (topology : Topology) (before : History) (s : StageNo) → count topology before s < 2 ^ 64
count_small topology [] s = omega arith
count_small topology (Restart t ∷ before) s = small_if (same_stage s t) 0 (count topology before s) (omega arith) (count_small topology before s)
count_small topology (Done t replies ∷ before) s =
    small_if (same_stage s t) (counted (count topology before s) (length replies)) (count topology before s) (counted_small (count topology before s) (length replies)) (count_small topology before s)
count_small topology (Wrote t bytes end ∷ before) s = by_spec (spec_of topology s) refl (count_small topology before s)
  where
    by_spec : (o : Option StageSpec) → spec_of topology s ≡ o → count topology before s < 2 ^ 64 → count topology (Wrote t bytes end ∷ before) s < 2 ^ 64
    by_spec None e low = rw e (small_if (same_stage s t) (count topology before s) (count topology before s) low low)
    by_spec (Some spec) e low =
        rw e (small_if (same_stage s t) (count_after_batch spec (count topology before s) (batch_of topology before s)) (count topology before s) (counted_small (count topology before s) (length (batch_replies spec (count topology before s) (batch_of topology before s)))) low)
count_small topology (step ∷ before) s = count_small topology before s

-- ---- one reply

pub one_passed : (reply : Reply) (n : ℕ) → n + count_by is_passed (reply ∷ []) ≡ one_more (is_passed reply) n
one_passed (Pass m) n = omega arith
one_passed (Failed why) n = omega arith
one_passed (Raised why) n = omega arith
one_passed Crashed n = omega arith
