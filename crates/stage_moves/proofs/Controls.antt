-- The control source along a round.
use Rattle.std.proofs.Common.{◌≡◌, ℕ, ◌+◌, ◌≤◌, ◌∷◌, Bool, true, false, refl, inl, inr, Option, arith}
use Rattle.std.specs.Prelude.{Result, Ok, Err}
use Rattle.std.specs.Result.{IsErr}
use Rattle.pipe_types.specs.declared.step.Step.{Step}
use Rattle.pipe_types.specs.declared.topology.Topology.{Topology}
use Rattle.pipe_types.specs.Numbers.{stage}
use Rattle.pipe_model.specs.History.{History, controls, controls_after}
use Rattle.pipe_model.specs.Legal.{ends_source}
use Rattle.pipe_model.specs.Outside.{is_control}
use Rattle.stage_bodies.specs.Seen.{LineSeen}
use Rattle.control_lines.specs.Steps.{begins, AddsControl}
use Rattle.control_lines.specs.Keeping.{KeepsControl, KeepsControlPartly, KeepsControlOn}
use Rattle.control_lines.proofs.Steps.{other_controls, one_control, job_is_no_control}
use Rattle.control_lines.proofs.Kept.{other_keeps, other_keeps_partly, jobless_keeps, kept_partly}

-- a step that does not come from the control source and begins no job
pub record IsOther (step : Step) : Type 0 where
  pub control : is_control step ≡ false
  pub ends : ends_source (stage 0) step ≡ false
  pub jobless : begins step ≡ false

pub other_step : (topology : Topology) (before : History) (step : Step) (jobs : ℕ) (opened lines : Option LineSeen) → IsOther step → KeepsControl topology before jobs opened lines → KeepsControl topology (step ∷ before) jobs opened lines
other_step topology before step jobs opened lines other k = other_keeps topology before step jobs opened lines other.control other.ends other.jobless k

pub other_step_partly : (topology : Topology) (before : History) (step : Step) (opened lines : Option LineSeen) → IsOther step → KeepsControlPartly topology before opened lines → KeepsControlPartly topology (step ∷ before) opened lines
other_step_partly topology before step opened lines other k = other_keeps_partly topology before step opened lines other.control other.ends other.jobless k

-- ---- how many control steps there are

pub other_count : (before : History) (step : Step) → IsOther step → controls (step ∷ before) ≡ controls before
other_count before step other = other_controls step (controls before) other.control

pub job_count : (before : History) (step : Step) → begins step ≡ true → controls (step ∷ before) ≡ controls before
job_count before step job = other_controls step (controls before) (job_is_no_control step job)

one_at_most : (step : Step) (n : ℕ) → controls_after step n ≤ n + 1
one_at_most step n = by_control (is_control step) refl
  where
    same : (m : ℕ) → m ≡ n → m ≤ n + 1
    same m e = omega (arith, e)

    more : (m : ℕ) → m ≡ n + 1 → m ≤ n + 1
    more m e = omega (arith, e)

    by_control : (b : Bool) → is_control step ≡ b → controls_after step n ≤ n + 1
    by_control true e = more (controls_after step n) (one_control step n e)
    by_control false e = same (controls_after step n) (other_controls step n e)

-- a reading adds one control step at most
pub one_read : (old new : History) → AddsControl old new → controls new ≤ controls old + 1
one_read old new (inl e) = rw e (omega arith)
one_read old new (inr (step, e, from)) = rw e (one_at_most step (controls old))

pub none_read : (old new : History) → controls new ≡ controls old → controls new ≤ controls old + 1
none_read old new same = few (controls old) (controls new) same
  where
    few : (x y : ℕ) → y ≡ x → y ≤ x + 1
    few x y e = omega (arith, e)

-- what comes before it and behind it adds none
pub one_line : (a m n b : History) → controls m ≡ controls a → controls n ≤ controls m + 1 → controls b ≡ controls n → controls b ≤ controls a + 1
one_line a m n b clock read on = few (controls a) (controls m) (controls n) (controls b) clock read on
  where
    few : (x y z w : ℕ) → y ≡ x → z ≤ y + 1 → w ≡ z → w ≤ x + 1
    few x y z w e h f = omega (arith, e, h, f)

pub no_more_lines : (a b d : History) → controls b ≤ controls a + 1 → controls d ≡ controls b → controls d ≤ controls a + 1
no_more_lines a b d read on = few (controls a) (controls b) (controls d) read on
  where
    few : (x y z : ℕ) → y ≤ x + 1 → z ≡ y → z ≤ x + 1
    few x y z h e = omega (arith, h, e)

-- ---- whatever a call came to

-- no job was begun yet
pub ahead_on : {T E : Type 0} (r : Result T E) (topology : Topology) (before : History) (opened lines : Option LineSeen) → KeepsControl topology before 1 opened lines → KeepsControlOn r topology before 1 opened lines
ahead_on (Ok x) topology before opened lines k = k
ahead_on (Err e) topology before opened lines k = kept_partly topology before opened lines (jobless_keeps topology before opened lines k)

-- the round is over
pub over_on : {T E : Type 0} (r : Result T E) (topology : Topology) (before : History) (opened lines : Option LineSeen) → KeepsControl topology before 0 opened lines → KeepsControlOn r topology before 0 opened lines
over_on (Ok x) topology before opened lines k = k
over_on (Err e) topology before opened lines k = kept_partly topology before opened lines k

-- memory was wanting
pub partly_on : {T E : Type 0} (r : Result T E) (topology : Topology) (before : History) (jobs : ℕ) (opened lines : Option LineSeen) → IsErr r → KeepsControlPartly topology before opened lines → KeepsControlOn r topology before jobs opened lines
partly_on (Ok x) topology before jobs opened lines fails k = let x : false ≡ true = fails in cc
partly_on (Err e) topology before jobs opened lines fails k = k
