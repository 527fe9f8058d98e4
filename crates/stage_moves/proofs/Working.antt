-- A job from its begin to its answer.
use Rattle.std.proofs.Common.{◌≡◌, ℕ, ◌+◌, ◌≤◌, ◌<◌, ◌∷◌, true, false, refl, ap, sym, ◌∙◌, subst, None, arith}
use Rattle.std.specs.Prelude.{not}
use Rattle.pipe_types.specs.declared.numbers.StageNo.{StageNo}
use Rattle.pipe_types.specs.declared.numbers.Post.{Post}
use Rattle.pipe_types.specs.declared.step.Step.{Step}
use Rattle.pipe_types.specs.declared.step.Step.TheVariants.{Fetch, Take, Child}
use Rattle.pipe_types.specs.declared.topology.Topology.{Topology}
use Rattle.pipe_types.specs.Numbers.{post, same_post, message_no}
use Rattle.pipe_types.specs.Sound.{IsSound}
use Rattle.pipe_model.specs.History.{History, now}
use Rattle.pipe_model.specs.Lives.{is_live}
use Rattle.pipe_model.specs.Posts.{puts_out, is_out}
use Rattle.pipe_model.specs.Legal.{is_legal, allows, owed, happened, is_drain, has_role, is_producer_role, has_ended, rests, bound, quiet_row}
use Rattle.pipe_model.specs.Moves.{move, Job as JobMove, next_in_slot}
use Rattle.pipe_laws.proofs.Tests.{and_left, and_right, not_true}
use Rattle.pipe_laws.proofs.Allowed.{legal_step, unowed}
use Rattle.pipe_laws.specs.Followed.{IsNextMove}
use Rattle.work_laws.specs.Left.{work_left}
use Rattle.work_laws.proofs.Leaving.{work_lowers, fetch_keeps}
use Rattle.move_laws.proofs.Laws.{idle_law}
use Rattle.stage_bodies.specs.declared.job.Job.{Job}
use Rattle.body_laws.specs.Keeps.{is_silent}
use Rattle.body_laws.proofs.Posts.{same_post-self, same_post-true}
use Rattle.core_jobs.specs.Begun.{IsBegun, fetched, taken, started}
use Rattle.control_lines.specs.Steps.{begins, jobs_begun, still_ticks}

-- the step that began the job of a post
pub record Began (topology : Topology) (before after : History) (p : Post) : Type 0 where
  pub step : Step
  pub is : after ≡ step ∷ before
  pub puts : puts_out step p ≡ true
  pub next : IsNextMove topology before step
  pub silent : is_silent step ≡ true
  pub same_time : now (step ∷ before) ≡ now before
  pub same_still : still_ticks (step ∷ before) ≡ still_ticks before
  pub begun : jobs_begun (step ∷ before) ≡ 1 + jobs_begun before
  pub job : begins step ≡ true
  pub left : work_left topology (step ∷ before) ≤ work_left topology before
  pub row : 1 ≤ topology.idle_limit → quiet_row (step ∷ before) < topology.idle_limit

fetch_undrained : (topology : Topology) (before : History) (s : StageNo) (n : ℕ) → allows topology before (Fetch s n) ≡ true → happened is_drain before ≡ false
fetch_undrained topology before s n h =
    let one = and_right (is_live topology before s) _ (unowed topology before (Fetch s n) (λ x. refl) (λ x. refl) h) in
    let two = and_right (has_role topology s is_producer_role) _ one in
    let three = and_right (not (has_ended before s)) _ two in
    let four = and_right (not (is_out before (post s 0))) _ three in
    let five = and_right (not (rests before s)) _ four in
    not_true (happened is_drain before) (and_left (not (happened is_drain before)) _ five)

posts_itself : (p : Post) (s : StageNo) (slot : ℕ) → p ≡ post s slot → same_post p (post s slot) ≡ true
posts_itself p s slot e = ap (λ q. same_post q (post s slot)) e ∙ same_post-self (post s slot)

-- it begins by this step
began_by : (topology : Topology) (before after : History) (p : Post) (step : Step) → after ≡ step ∷ before → puts_out step p ≡ true → IsNextMove topology before step → is_silent step ≡ true
    → now (step ∷ before) ≡ now before → still_ticks (step ∷ before) ≡ still_ticks before → jobs_begun (step ∷ before) ≡ 1 + jobs_begun before → begins step ≡ true
    → work_left topology (step ∷ before) ≤ work_left topology before → (1 ≤ topology.idle_limit → quiet_row (step ∷ before) < topology.idle_limit) → Began topology before after p
began_by topology before after p step is puts next silent same_time same_still begun job left row = record {
  step = step;
  is = is;
  puts = puts;
  next = next;
  silent = silent;
  same_time = same_time;
  same_still = same_still;
  begun = begun;
  job = job;
  left = left;
  row = row;
}

below : {a b : ℕ} → a < b → a ≤ b
below h = omega (arith, h)

pub began : (topology : Topology) (before after : History) (s : StageNo) (job : Job) → IsSound topology → is_legal topology after ≡ true → owed topology before ≡ None → move topology before ≡ JobMove s
    → IsBegun topology before s after job → Began topology before after job.post
began topology before after s job sound legal free first (fetched p e) =
    let step = Fetch s (bound topology before s) in
    let fetch_legal = legal_step topology before step (subst (λ h. is_legal topology h ≡ true) e legal) in
    began_by topology before after job.post step e (posts_itself job.post s 0 p) first refl refl refl refl refl (same_left (fetch_keeps topology before s (bound topology before s)))
    (λ limit. idle_law topology before s free (fetch_undrained topology before s (bound topology before s) fetch_legal) first limit)
  where
    same_left : work_left topology (Fetch s (bound topology before s) ∷ before) ≡ work_left topology before → work_left topology (Fetch s (bound topology before s) ∷ before) ≤ work_left topology before
    same_left h = omega (arith, h)
began topology before after s job sound legal free first (taken u k p t e) =
    let step = Take s u k in
    began_by topology before after job.post step e (posts_itself job.post s 0 p) first refl refl refl refl refl (below (work_lowers topology before step sound (subst (λ h. is_legal topology h ≡ true) e legal) refl)) (λ limit. limit)
began topology before after s job sound legal free first (started slot p e) =
    let step = Child s (message_no (next_in_slot topology before s slot)) slot in
    began_by topology before after job.post step e (posts_itself job.post s slot p) first refl refl refl refl refl (below (work_lowers topology before step sound (subst (λ h. is_legal topology h ≡ true) e legal) refl)) (λ limit. limit)

-- one post alone is put out
pub put_only : (p q : Post) (begin : Step) → puts_out begin p ≡ true → puts_out begin q ≡ true → q ≡ p
put_only p q (Fetch s n) h k = same_post-true q (post s 0) k ∙ sym (same_post-true p (post s 0) h)
put_only p q (Take s u k') h k = same_post-true q (post s 0) k ∙ sym (same_post-true p (post s 0) h)
put_only p q (Child s m slot) h k = same_post-true q (post s slot) k ∙ sym (same_post-true p (post s slot) h)
put_only p q step h k = cc
