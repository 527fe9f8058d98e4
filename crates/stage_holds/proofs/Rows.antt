-- Rows of quiet answers, as steps are added.
use Rattle.std.proofs.Common.{◌≡◌, ◌≤◌, ◌<◌, ◌+◌, ℕ, [], ◌∷◌, ◌++◌, Bool, true, false, refl, sym, ◌∙◌, subst, arith}
use Rattle.std.specs.Prelude.{All, if◌then◌else◌, Result, Ok, Err, IfOk, IsErr}
use Rattle.std.proofs.lemmas.List.Elements.{All-head, All-tail}
use Rattle.pipe_types.specs.declared.numbers.StageNo.{StageNo}
use Rattle.pipe_types.specs.declared.numbers.Post.{Post}
use Rattle.pipe_types.specs.declared.step.Step.{Step}
use Rattle.pipe_types.specs.declared.step.Step.TheVariants.{Accept, Dispatch, Fetch, Quiet, Tick}
use Rattle.pipe_types.specs.declared.topology.Topology.{Topology}
use Rattle.pipe_types.specs.Numbers.{post}
use Rattle.pipe_model.specs.History.{History}
use Rattle.pipe_model.specs.Legal.{quiet_row, may_dispatch}
use Rattle.pipe_model.specs.Posts.{puts_out, answers}
use Rattle.stage_bodies.specs.Posts.{step_of, is_crash}
use Rattle.stage_bodies.specs.declared.job.Answer.{Answer}
use Rattle.stage_bodies.specs.declared.job.Outcome.{Outcome as Came}
use Rattle.stage_bodies.specs.declared.job.Outcome.TheVariants as came
use Rattle.body_laws.specs.Lates.{late_step}
use Rattle.body_laws.proofs.Posts.{same_post-self}
use Rattle.stage_moves.specs.Recorded.{and_kill, with_answer}
use Rattle.stage_moves.specs.Going.{AddsSilently}
use Rattle.stage_holds.specs.Answers.{is_in_time, with_answered}
use Rattle.stage_holds.specs.Rows.{RowsWithin}

abbrev Silent : Step → Type 0
Silent step = (p : Post) → (puts_out step p ≡ false) × (answers step p ≡ false)

row_within : (limit : ℕ) (h : History) → RowsWithin limit h → quiet_row h ≤ limit
row_within limit [] r = omega arith
row_within limit (step ∷ before) r = r.1

-- ---- steps that answer no post

no_longer : (step : Step) (h : History) → Silent step → quiet_row (step ∷ h) ≤ quiet_row h
no_longer (Quiet s) h silent = let x : true ≡ false = sym (same_post-self (post s 0)) ∙ (silent (post s 0)).1 in cc
no_longer (Fetch s n) h silent = omega arith
no_longer (Tick t) h silent = omega arith
no_longer _ h silent = omega arith

silent_rows : (limit : ℕ) (old later : History) → All Silent later → RowsWithin limit old → RowsWithin limit (later ++ old)
silent_rows limit old [] silent r = r
silent_rows limit old (step ∷ later) silent r =
    let rest : RowsWithin limit (later ++ old) = silent_rows limit old later (All-tail Silent step later silent) r in
    let shorter = no_longer step (later ++ old) (All-head Silent step later silent) in
    let below = row_within limit (later ++ old) rest in
    (rest, omega (arith, shorter, below))

pub silently_rows : (limit : ℕ) (old new : History) → AddsSilently old new → RowsWithin limit old → RowsWithin limit new
silently_rows limit old new s r = subst (λ (h : History). RowsWithin limit h) (sym s.is) (silent_rows limit old s.later s.silent r)

-- ---- answers

one_longer : (step : Step) (h : History) → quiet_row (step ∷ h) ≤ quiet_row h + 1
one_longer (Quiet s) h = omega arith
one_longer (Fetch s n) h = omega arith
one_longer (Tick t) h = omega arith
one_longer _ h = omega arith

one_rows : (limit : ℕ) (step : Step) (h : History) → quiet_row h < limit → RowsWithin limit h → RowsWithin limit (step ∷ h)
one_rows limit step h low r = let longer = one_longer step h in (r, omega (arith, longer, low))

killed_rows : (limit : ℕ) (b : Bool) (s : StageNo) (h : History) → RowsWithin limit h → RowsWithin limit (and_kill b s h)
killed_rows limit true s h r = (r, omega arith)
killed_rows limit false s h r = r

dispatched_rows : (limit : ℕ) (b : Bool) (s : StageNo) (h : History) → RowsWithin limit h → RowsWithin limit (if b then Dispatch s ∷ h else h)
dispatched_rows limit true s h r = (r, omega arith)
dispatched_rows limit false s h r = r

live_rows : (topology : Topology) (h : History) (p : Post) (o : Came) (limit : ℕ) → quiet_row h < limit → RowsWithin limit h → RowsWithin limit (with_answer topology h p o)
live_rows topology h p (came.Records records) limit low r =
    dispatched_rows limit (may_dispatch topology (Accept p.stage records ∷ h) p.stage) p.stage (Accept p.stage records ∷ h) (one_rows limit (Accept p.stage records) h low r)
live_rows topology h p came.NotYet limit low r = killed_rows limit (is_crash came.NotYet) p.stage (step_of p came.NotYet ∷ h) (one_rows limit (step_of p came.NotYet) h low r)
live_rows topology h p (came.Ended how) limit low r = killed_rows limit (is_crash (came.Ended how)) p.stage (step_of p (came.Ended how) ∷ h) (one_rows limit (step_of p (came.Ended how)) h low r)
live_rows topology h p (came.Replies replies) limit low r = killed_rows limit (is_crash (came.Replies replies)) p.stage (step_of p (came.Replies replies) ∷ h) (one_rows limit (step_of p (came.Replies replies)) h low r)
live_rows topology h p (came.Wrote bytes end) limit low r = killed_rows limit (is_crash (came.Wrote bytes end)) p.stage (step_of p (came.Wrote bytes end) ∷ h) (one_rows limit (step_of p (came.Wrote bytes end)) h low r)
live_rows topology h p (came.Reply reply) limit low r = killed_rows limit (is_crash (came.Reply reply)) p.stage (step_of p (came.Reply reply) ∷ h) (one_rows limit (step_of p (came.Reply reply)) h low r)

answered_rows : (topology : Topology) (h : History) (answer : Answer) (limit : ℕ) → quiet_row h < limit → RowsWithin limit h → RowsWithin limit (with_answered topology h answer)
answered_rows topology h answer limit low r = by_time (is_in_time topology h answer)
  where
    by_time : (b : Bool) → RowsWithin limit (if b then with_answer topology h answer.post answer.outcome else late_step answer.post answer.incarnation answer.outcome ∷ h)
    by_time true = live_rows topology h answer.post answer.outcome limit low r
    by_time false = one_rows limit (late_step answer.post answer.incarnation answer.outcome) h low r

-- the answer that came home
pub came_rows : {T E : Type 0} (F : Type 0) (topology : Topology) (h mid : History) (t : T) (answer : Result Answer E) (limit : ℕ) → IfOk answer (λ given. mid ≡ with_answered topology h given) → (IsErr answer → IsErr {E = F} (Ok t))
    → quiet_row h < limit → RowsWithin limit h → RowsWithin limit mid
came_rows F topology h mid t (Ok given) limit is cut low r = subst (λ (x : History). RowsWithin limit x) (sym is) (answered_rows topology h given limit low r)
came_rows F topology h mid t (Err e) limit is cut low r = let y : false ≡ true = cut refl in cc
