-- The steps of an answer.
use Rattle.std.proofs.Common.{◌≡◌, ℕ, ◌+◌, ◌≤◌, List, ◌∷◌, Bool, true, false, refl, arith}
use Rattle.std.specs.Prelude.{◌==◌, if◌then◌else◌, IsSome}
use Rattle.pipe_types.specs.declared.numbers.StageNo.{StageNo}
use Rattle.pipe_types.specs.declared.numbers.Post.{Post}
use Rattle.pipe_types.specs.declared.message.Why.TheVariants.{Crash}
use Rattle.pipe_types.specs.declared.step.Step.TheVariants.{Accept, Done, Wrote, Dispatch, Kill}
use Rattle.pipe_types.specs.declared.topology.Topology.{Topology}
use Rattle.pipe_model.specs.History.{History, now}
use Rattle.pipe_model.specs.Content.{has_crash}
use Rattle.pipe_model.specs.Legal.{is_legal, owed, may_dispatch}
use Rattle.pipe_laws.proofs.Allowed.{legal_before}
use Rattle.pipe_laws.specs.Followed.{IsNextMove}
use Rattle.stage_bodies.specs.Posts.{step_of, is_crashed_end}
use Rattle.stage_bodies.specs.declared.job.Outcome.{Outcome as Came}
use Rattle.stage_bodies.specs.declared.job.Outcome.TheVariants as came
use Rattle.core_jobs.specs.Recorded.{with_answer}
use Rattle.control_lines.specs.Steps.{jobs_begun, still_ticks}
use Rattle.stage_moves.proofs.Controls.{IsOther}

pub with_cases : (topology : Topology) (before : History) (p : Post) (o : Came) (P : History → Type 0) → is_legal topology (with_answer topology before p o) ≡ true
    → (is_legal topology (step_of p o ∷ before) ≡ true → P (step_of p o ∷ before))
    → ((s : StageNo) (h : History) → is_legal topology (Dispatch s ∷ h) ≡ true → IsSome (owed topology h) → P h → P (Dispatch s ∷ h))
    → ((s : StageNo) (h : History) → is_legal topology (Kill s Crash ∷ h) ≡ true → P h → P (Kill s Crash ∷ h)) → P (with_answer topology before p o)
with_cases topology before p o P legal first more kill = by_outcome o legal first
  where
    by_may : (h : History) (b : Bool) → may_dispatch topology h p.stage ≡ b → (may_dispatch topology h p.stage ≡ true → IsSome (owed topology h)) → is_legal topology (if b then Dispatch p.stage ∷ h else h) ≡ true → (is_legal topology h ≡ true → P h)
        → P (if b then Dispatch p.stage ∷ h else h)
    by_may h true e owes l at = more p.stage h l (owes e) (at (legal_before topology h (Dispatch p.stage) l))
    by_may h false e owes l at = at l

    by_crash : (h : History) (b : Bool) → is_legal topology (if b then Kill p.stage Crash ∷ h else h) ≡ true → (is_legal topology h ≡ true → P h) → P (if b then Kill p.stage Crash ∷ h else h)
    by_crash h true l at = kill p.stage h l (at (legal_before topology h (Kill p.stage Crash) l))
    by_crash h false l at = at l

    owes : (records : List (List ℕ)) → may_dispatch topology (Accept p.stage records ∷ before) p.stage ≡ true → IsSome (owed topology (Accept p.stage records ∷ before))
    owes records k = rw k refl

    by_outcome : (o : Came) → is_legal topology (with_answer topology before p o) ≡ true → (is_legal topology (step_of p o ∷ before) ≡ true → P (step_of p o ∷ before)) → P (with_answer topology before p o)
    by_outcome (came.Records records) l at = by_may (Accept p.stage records ∷ before) (may_dispatch topology (Accept p.stage records ∷ before) p.stage) refl (owes records) l at
    by_outcome came.NotYet l at = at l
    by_outcome (came.Ended how) l at = at l
    by_outcome (came.Replies replies) l at = by_crash (Done p.stage replies ∷ before) (has_crash replies) l at
    by_outcome (came.Wrote bytes end) l at = by_crash (Wrote p.stage bytes end ∷ before) (is_crashed_end end) l at
    by_outcome (came.Reply reply) l at = at l

pub answer_next : (topology : Topology) (before : History) (p : Post) (o : Came) → IsNextMove topology before (step_of p o)
answer_next topology before p (came.Records records) = tt
answer_next topology before p came.NotYet = tt
answer_next topology before p (came.Ended how) = tt
answer_next topology before p (came.Replies replies) = tt
answer_next topology before p (came.Wrote bytes end) = tt
answer_next topology before p (came.Reply reply) = tt

pub none_more : (n : ℕ) → 0 + n ≡ n
none_more n = omega arith

pub answer_begins : (before : History) (p : Post) (o : Came) → jobs_begun (step_of p o ∷ before) ≡ jobs_begun before
answer_begins before p (came.Records records) = none_more (jobs_begun before)
answer_begins before p came.NotYet = none_more (jobs_begun before)
answer_begins before p (came.Ended how) = none_more (jobs_begun before)
answer_begins before p (came.Replies replies) = none_more (jobs_begun before)
answer_begins before p (came.Wrote bytes end) = none_more (jobs_begun before)
answer_begins before p (came.Reply reply) = none_more (jobs_begun before)

answer_clock : (before : History) (p : Post) (o : Came) → (now (step_of p o ∷ before) ≡ now before) × (still_ticks (step_of p o ∷ before) ≡ still_ticks before)
answer_clock before p (came.Records records) = (refl, refl)
answer_clock before p came.NotYet = (refl, refl)
answer_clock before p (came.Ended how) = (refl, refl)
answer_clock before p (came.Replies replies) = (refl, refl)
answer_clock before p (came.Wrote bytes end) = (refl, refl)
answer_clock before p (came.Reply reply) = (refl, refl)

pub answer_time : (before : History) (p : Post) (o : Came) → now (step_of p o ∷ before) ≡ now before
answer_time before p o = (answer_clock before p o).0

pub answer_still : (before : History) (p : Post) (o : Came) → still_ticks (step_of p o ∷ before) ≡ still_ticks before
answer_still before p o = (answer_clock before p o).1

pub answer_other : (p : Post) (o : Came) → 1 ≤ p.stage.0 → IsOther (step_of p o)
answer_other p (came.Records records) low = record { control = refl; ends = refl; jobless = refl }
answer_other p came.NotYet low = record { control = refl; ends = refl; jobless = refl }
answer_other p (came.Ended how) low = record { control = refl; ends = other p.stage.0 low; jobless = refl }
  where
    other : (n : ℕ) → 1 ≤ n → (0 == n) ≡ false
    other n low = grind arith
answer_other p (came.Replies replies) low = record { control = refl; ends = refl; jobless = refl }
answer_other p (came.Wrote bytes end) low = record { control = refl; ends = refl; jobless = refl }
answer_other p (came.Reply reply) low = record { control = refl; ends = refl; jobless = refl }
