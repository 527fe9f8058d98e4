-- What single steps change of what a journal says of its control source.
use Rattle.std.proofs.Common.{◌≡◌, ℕ, ◌+◌, ◌∷◌, Bool, true, false, arith, refl, ap, sym, ◌∙◌, Some, Option}
use Rattle.std.specs.Prelude.{not, ◌||◌, ◌==◌, if◌then◌else◌}
use Rattle.std.proofs.lemmas.Bool.{eqb-true}
use Rattle.pipe_types.specs.declared.numbers.StageNo.{StageNo}
use Rattle.pipe_types.specs.declared.message.Why.TheVariants.{Crash, Kill as KillWhy, Stop, Cancelled, Limit as LimitWhy}
use Rattle.pipe_types.specs.declared.step.DrainCause.TheVariants.{Sources, Control, Limit as LimitCause, Idle}
use Rattle.pipe_types.specs.declared.step.LateAnswer.TheVariants as late
use Rattle.pipe_types.specs.declared.step.SourceHow.{SourceHow}
use Rattle.pipe_types.specs.declared.step.Step.{Step}
use Rattle.pipe_types.specs.declared.step.Step.TheVariants.{Fetch, Take, Child, SourceEnd, Kill, Late, Drain, Refuse}
use Rattle.pipe_types.specs.Numbers.{stage, same_stage}
use Rattle.pipe_model.specs.History.{History, controls, controls_after}
use Rattle.pipe_model.specs.Legal.{has_ended, ends_source}
use Rattle.pipe_model.specs.Outside.{is_control, end_by_step, source_end}
use Rattle.pipe_model.specs.Counting.{as_number}
use Rattle.pipe_laws.proofs.Tests.{same_stage-flip}
use Rattle.control_lines.specs.Steps.{begins, jobs_begun, ends_control, is_from_control}
use Rattle.control_lines.specs.Keeping.{is_open}

-- ---- counts of control steps

pub other_controls : (step : Step) (n : ℕ) → is_control step ≡ false → controls_after step n ≡ n
other_controls (Kill s KillWhy) n h = cc
other_controls (Kill s Stop) n h = cc
other_controls (Kill s Crash) n h = refl
other_controls (Kill s (Cancelled u)) n h = refl
other_controls (Kill s LimitWhy) n h = refl
other_controls (Drain Control) n h = cc
other_controls (Drain Sources) n h = refl
other_controls (Drain LimitCause) n h = refl
other_controls (Drain Idle) n h = refl
other_controls (Refuse line) n h = cc
other_controls _ n h = refl

pub one_control : (step : Step) (n : ℕ) → is_control step ≡ true → controls_after step n ≡ n + 1
one_control (Kill s KillWhy) n h = refl
one_control (Kill s Stop) n h = refl
one_control (Drain Control) n h = refl
one_control (Refuse line) n h = refl
one_control _ n h = cc

-- ---- jobs

pub no_job : (step : Step) (before : History) → begins step ≡ false → jobs_begun (step ∷ before) ≡ jobs_begun before
no_job step before h = by (begins step) h
  where
    by : (b : Bool) → b ≡ false → as_number b + jobs_begun before ≡ jobs_begun before
    by true e = cc
    by false e = omega arith

pub one_job : (step : Step) (before : History) → begins step ≡ true → jobs_begun (step ∷ before) ≡ jobs_begun before + 1
one_job step before h = by (begins step) h
  where
    by : (b : Bool) → b ≡ true → as_number b + jobs_begun before ≡ jobs_begun before + 1
    by true e = omega arith
    by false e = cc

job_is_neither : (step : Step) → begins step ≡ true → (is_control step ≡ false) × (ends_source (stage 0) step ≡ false)
job_is_neither (Fetch s n) h = (refl, refl)
job_is_neither (Take s u k) h = (refl, refl)
job_is_neither (Child s m slot) h = (refl, refl)
job_is_neither _ h = (cc, cc)

pub job_is_no_control : (step : Step) → begins step ≡ true → is_control step ≡ false
job_is_no_control step h = (job_is_neither step h).0

pub job_is_no_end : (step : Step) → begins step ≡ true → ends_source (stage 0) step ≡ false
job_is_no_end step h = (job_is_neither step h).1

pub control_is_no_job : (step : Step) → is_control step ≡ true → begins step ≡ false
control_is_no_job (Fetch s n) h = cc
control_is_no_job (Take s u k) h = cc
control_is_no_job (Child s m slot) h = cc
control_is_no_job _ h = refl

pub control_is_no_end : (step : Step) → is_control step ≡ true → ends_source (stage 0) step ≡ false
control_is_no_end (SourceEnd s how) h = cc
control_is_no_end (Late s slot i answer) h = cc
control_is_no_end _ h = refl

-- ---- ends

pub stays_open : (step : Step) (before : History) → ends_source (stage 0) step ≡ false → is_open (step ∷ before) ≡ is_open before
stays_open step before h = by (ends_source (stage 0) step) h
  where
    by : (b : Bool) → b ≡ false → not (b || has_ended before (stage 0)) ≡ not (has_ended before (stage 0))
    by true e = cc
    by false e = refl

not_flipped : (s : StageNo) (b : Bool) → same_stage (stage 0) s ≡ false → same_stage s (stage 0) ≡ b → b ≡ false
not_flipped s true other e = let back : same_stage (stage 0) s ≡ true = same_stage-flip s (stage 0) e in cc
not_flipped s false other e = refl

end_before : (s : StageNo) (h : SourceHow) (old : Option SourceHow) → same_stage (stage 0) s ≡ false → (if same_stage s (stage 0) then Some h else old) ≡ old
end_before s h old other = ap (λ b. if b then Some h else old) (not_flipped s (same_stage s (stage 0)) other refl)

pub other_end : (step : Step) (old : Option SourceHow) → ends_source (stage 0) step ≡ false → end_by_step step (stage 0) old ≡ old
other_end (SourceEnd s how) old h = end_before s how old h
other_end (Late s slot i (late.Source how)) old h = end_before s how old h
other_end (Late s slot i (late.Records records)) old h = refl
other_end (Late s slot i late.Quiet) old h = refl
other_end (Late s slot i (late.Wrote bytes end)) old h = refl
other_end (Late s slot i late.Nothing) old h = refl
other_end _ old h = refl
