-- A step of the pipeline's own.
use Rattle.std.proofs.Common.{◌≡◌, ℕ, ◌+◌, ◌∷◌, true, false, refl, inr, arith}
use Rattle.std.specs.Prelude.{◌≢◌}
use Rattle.pipe_types.specs.declared.numbers.StageNo.{StageNo}
use Rattle.pipe_types.specs.declared.numbers.Post.{Post}
use Rattle.pipe_types.specs.declared.topology.Topology.{Topology}
use Rattle.pipe_types.specs.declared.step.DrainCause.TheVariants.{Sources, Limit, Idle}
use Rattle.pipe_types.specs.declared.step.Step.{Step}
use Rattle.pipe_types.specs.declared.step.Step.TheVariants.{Ask, Dispatch, Gather, Close, Restart, Drain, Halt}
use Rattle.pipe_model.specs.History.{History, now}
use Rattle.pipe_model.specs.Posts.{puts_out, answers}
use Rattle.pipe_model.specs.Moves.{StepMove, move, jobs_out}
use Rattle.pipe_laws.specs.Followed.{IsNextMove}
use Rattle.work_laws.specs.Work.{is_work}
use Rattle.body_laws.specs.Keeps.{is_silent}
use Rattle.core_jobs.specs.Steps.{is_own_step}
use Rattle.control_lines.specs.Steps.{jobs_begun, still_ticks}
use Rattle.stage_moves.proofs.Moves.{is_named}
use Rattle.stage_moves.proofs.Controls.{IsOther}

named_both : (step : Step) → is_named step ≡ true → (is_own_step step ≡ true) × (is_work step ≡ true)
named_both (Ask u n) h = (refl, refl)
named_both (Dispatch s) h = (refl, refl)
named_both (Gather s m) h = (refl, refl)
named_both (Close s first trigger) h = (refl, refl)
named_both (Restart s) h = (refl, refl)
named_both (Drain Sources) h = (refl, refl)
named_both (Drain Limit) h = (refl, refl)
named_both (Drain Idle) h = (refl, refl)
named_both Halt h = (refl, refl)
named_both step h = (cc, cc)

pub named_own : (step : Step) → is_named step ≡ true → is_own_step step ≡ true
named_own step h = (named_both step h).0

pub named_work : (step : Step) → is_named step ≡ true → is_work step ≡ true
named_work step h = (named_both step h).1

pub named_next : (topology : Topology) (before : History) (step : Step) → is_named step ≡ true → move topology before ≡ StepMove step → IsNextMove topology before step
named_next topology before (Ask u n) h e = e
named_next topology before (Dispatch s) h e = inr e
named_next topology before (Gather s m) h e = e
named_next topology before (Close s first trigger) h e = e
named_next topology before (Restart s) h e = e
named_next topology before (Drain Sources) h e = e
named_next topology before (Drain Limit) h e = e
named_next topology before (Drain Idle) h e = e
named_next topology before Halt h e = e
named_next topology before step h e = cc

-- a restart is the only one that touches bodies
pub named_silent : (step : Step) → is_named step ≡ true → ((s : StageNo) → step ≢ Restart s) → is_silent step ≡ true
named_silent (Ask u n) h never = refl
named_silent (Dispatch s) h never = refl
named_silent (Gather s m) h never = refl
named_silent (Close s first trigger) h never = refl
named_silent (Restart s) h never = absurd (never s refl)
named_silent (Drain Sources) h never = refl
named_silent (Drain Limit) h never = refl
named_silent (Drain Idle) h never = refl
named_silent Halt h never = refl
named_silent step h never = cc

pub named_other : (step : Step) → is_named step ≡ true → IsOther step
named_other (Ask u n) h = record { control = refl; ends = refl; jobless = refl }
named_other (Dispatch s) h = record { control = refl; ends = refl; jobless = refl }
named_other (Gather s m) h = record { control = refl; ends = refl; jobless = refl }
named_other (Close s first trigger) h = record { control = refl; ends = refl; jobless = refl }
named_other (Restart s) h = record { control = refl; ends = refl; jobless = refl }
named_other (Drain Sources) h = record { control = refl; ends = refl; jobless = refl }
named_other (Drain Limit) h = record { control = refl; ends = refl; jobless = refl }
named_other (Drain Idle) h = record { control = refl; ends = refl; jobless = refl }
named_other Halt h = record { control = refl; ends = refl; jobless = refl }
named_other step h = cc

none_more : (n : ℕ) → 0 + n ≡ n
none_more n = omega arith

pub named_time : (before : History) (step : Step) → is_named step ≡ true → (now (step ∷ before) ≡ now before) × (jobs_begun (step ∷ before) ≡ jobs_begun before) × (still_ticks (step ∷ before) ≡ still_ticks before)
named_time before (Ask u n) h = (refl, none_more (jobs_begun before), refl)
named_time before (Dispatch s) h = (refl, none_more (jobs_begun before), refl)
named_time before (Gather s m) h = (refl, none_more (jobs_begun before), refl)
named_time before (Close s first trigger) h = (refl, none_more (jobs_begun before), refl)
named_time before (Restart s) h = (refl, none_more (jobs_begun before), refl)
named_time before (Drain Sources) h = (refl, none_more (jobs_begun before), refl)
named_time before (Drain Limit) h = (refl, none_more (jobs_begun before), refl)
named_time before (Drain Idle) h = (refl, none_more (jobs_begun before), refl)
named_time before Halt h = (refl, none_more (jobs_begun before), refl)
named_time before step h = cc

pub named_out : (topology : Topology) (before : History) (step : Step) → is_named step ≡ true → jobs_out topology (step ∷ before) ≡ jobs_out topology before
named_out topology before (Ask u n) h = refl
named_out topology before (Dispatch s) h = refl
named_out topology before (Gather s m) h = refl
named_out topology before (Close s first trigger) h = refl
named_out topology before (Restart s) h = refl
named_out topology before (Drain Sources) h = refl
named_out topology before (Drain Limit) h = refl
named_out topology before (Drain Idle) h = refl
named_out topology before Halt h = refl
named_out topology before step h = cc

-- none puts a post out or answers one
pub named_posts : (step : Step) (p : Post) → is_named step ≡ true → (puts_out step p ≡ false) × (answers step p ≡ false)
named_posts (Ask u n) p h = (refl, refl)
named_posts (Dispatch s) p h = (refl, refl)
named_posts (Gather s m) p h = (refl, refl)
named_posts (Close s first trigger) p h = (refl, refl)
named_posts (Restart s) p h = (refl, refl)
named_posts (Drain Sources) p h = (refl, refl)
named_posts (Drain Limit) p h = (refl, refl)
named_posts (Drain Idle) p h = (refl, refl)
named_posts Halt p h = (refl, refl)
named_posts step p h = cc
