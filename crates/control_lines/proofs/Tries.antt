-- How often a control source is read in vain.
use Rattle.std.proofs.Common.{◌≡◌, ℕ, ◌+◌, ◌-◌, ◌≤◌, ◌<◌, List, [], ◌∷◌, ◌++◌, Bool, true, false, arith, refl, ap, sym, ◌∙◌, subst, inl, inr}
use Rattle.std.specs.Prelude.{not, ◌⊎◌, ◌||◌, max}
use Rattle.std.proofs.Math.Nat.{le-max_left, le-max_right, max-le}
use Rattle.pipe_types.specs.declared.step.Step.{Step}
use Rattle.pipe_types.specs.Numbers.{stage}
use Rattle.pipe_model.specs.History.{History, controls}
use Rattle.pipe_model.specs.Legal.{has_ended}
use Rattle.stage_job.specs.Chunks.{RoseBy}
use Rattle.control_lines.specs.Steps.{jobs_begun}
use Rattle.control_lines.specs.Keeping.{is_open, tries_by, vain_tries, vain_tries_for}

-- ---- numbers

pub rise_fewer : (m n a b : ℕ) → RoseBy m a b → n ≤ m → RoseBy n a b
rise_fewer m n a b (inl low) le = inl (omega (arith, low, le))
rise_fewer m n a b (inr full) le = inr full

-- no fewer tries than before
pub tries_stay : (still : Bool) (j c v : ℕ) → v ≤ tries_by still j c v
tries_stay true j c v = le-max_left v (j - c)
tries_stay false j c v = omega arith

-- enough for the jobs
pub tries_count : (j c v : ℕ) → j ≤ c + tries_by true j c v
tries_count j c v = omega (arith, le-max_right v (j - c))

-- more jobs, more tries
pub tries_more : (still : Bool) (i j c v : ℕ) → i ≤ j → tries_by still i c v ≤ tries_by still j c v
tries_more true i j c v le = max-le (le-max_left v (j - c)) (omega (arith, le, le-max_right v (j - c)))
tries_more false i j c v le = omega arith

-- one job, one try
pub tries_one : (still : Bool) (j c v : ℕ) → tries_by still (j + 1) c v ≤ tries_by still j c v + 1
tries_one true j c v = max-le (omega (arith, le-max_left v (j - c))) (omega (arith, le-max_right v (j - c)))
tries_one false j c v = omega arith

-- a control step is one try less
pub tries_obeyed : (still : Bool) (j c v : ℕ) → tries_by still (j + 1) (c + 1) v ≤ tries_by still j c v
tries_obeyed true j c v = max-le (le-max_left v (j - c)) (omega (arith, le-max_right v (j - c)))
tries_obeyed false j c v = omega arith

-- counted twice is counted once
pub tries_twice : (still : Bool) (i j c v : ℕ) → i ≤ j → tries_by still j c (tries_by still i c v) ≤ tries_by still j c v
tries_twice true i j c v le = max-le (tries_more true i j c v le) (le-max_right v (j - c))
tries_twice false i j c v le = omega arith

-- ---- journals

-- what is needed before more jobs
pub fewer_jobs : (before : History) (m n : ℕ) → m ≤ n → vain_tries_for m before ≤ vain_tries_for n before
fewer_jobs before m n le = tries_more (is_open before) (jobs_begun before + m) (jobs_begun before + n) (controls before) (vain_tries before) (omega (arith, le))

-- a try in vain
pub tried_once : (before : History) → vain_tries_for 1 before ≤ vain_tries_for 0 before + 1
tried_once before = by (tries_one (is_open before) (jobs_begun before + 0) (controls before) (vain_tries before))
  where
    by : tries_by (is_open before) (jobs_begun before + 0 + 1) (controls before) (vain_tries before) ≤ vain_tries_for 0 before + 1 → vain_tries_for 1 before ≤ vain_tries_for 0 before + 1
    by h = subst (λ n. tries_by (is_open before) n (controls before) (vain_tries before) ≤ vain_tries_for 0 before + 1) (zero_one (jobs_begun before)) h
      where
        zero_one : (n : ℕ) → n + 0 + 1 ≡ n + 1
        zero_one n = omega arith

-- a source that has ended is not read
pub ended_tries : (before : History) (jobs : ℕ) → has_ended before (stage 0) ≡ true → vain_tries_for jobs before ≤ vain_tries_for 0 before
ended_tries before jobs e = by (has_ended before (stage 0)) e
  where
    by : (b : Bool) → b ≡ true → tries_by (not b) (jobs_begun before + jobs) (controls before) (vain_tries before) ≤ tries_by (not b) (jobs_begun before + 0) (controls before) (vain_tries before)
    by true e = omega arith
    by false e = cc

-- the same source is open, and so many jobs and control steps came
pub step_tries : (step : Step) (before : History) (i j c m n : ℕ) → is_open (step ∷ before) ≡ is_open before → jobs_begun (step ∷ before) ≡ i → controls (step ∷ before) ≡ c → m + i ≤ j
    → tries_by (is_open before) j c (vain_tries before) ≤ vain_tries_for n before → vain_tries_for m (step ∷ before) ≤ vain_tries_for n before
step_tries step before i j c m n same jobs read less le =
    let v = vain_tries before in
    let still = is_open before in
    let by = λ (s : Bool) (a b : ℕ). tries_by s (a + m) b (tries_by s a b v) in
    let now : vain_tries_for m (step ∷ before) ≡ tries_by still (i + m) c (tries_by still i c v) =
    ap (λ s. by s (jobs_begun (step ∷ before)) (controls (step ∷ before))) same ∙ (ap (λ a. by still a (controls (step ∷ before))) jobs ∙ ap (λ b. by still i b) read) in
    let twice = tries_twice still i (i + m) c v (omega arith) in
    let more = tries_more still (i + m) j c v (omega (arith, less)) in
    omega (arith, now, twice, more, le)

-- a step that comes neither from the control source nor begins a job
pub other_tries : (step : Step) (before : History) (jobs : ℕ) → is_open (step ∷ before) ≡ is_open before → jobs_begun (step ∷ before) ≡ jobs_begun before → controls (step ∷ before) ≡ controls before
    → vain_tries_for jobs (step ∷ before) ≤ vain_tries_for jobs before
other_tries step before jobs same begun read =
    step_tries step before (jobs_begun before) (jobs_begun before + jobs) (controls before) jobs jobs same begun read (omega arith) (omega arith)

-- a job after a reading
pub job_tries : (step : Step) (before : History) → is_open (step ∷ before) ≡ is_open before → jobs_begun (step ∷ before) ≡ jobs_begun before + 1 → controls (step ∷ before) ≡ controls before
    → vain_tries_for 0 (step ∷ before) ≤ vain_tries_for 1 before
job_tries step before same begun read =
    step_tries step before (jobs_begun before + 1) (jobs_begun before + 1) (controls before) 0 1 same begun read (omega arith) (omega arith)

-- a control step, before one more job
pub control_tries : (step : Step) (before : History) → is_open (step ∷ before) ≡ is_open before → jobs_begun (step ∷ before) ≡ jobs_begun before → controls (step ∷ before) ≡ controls before + 1
    → vain_tries_for 1 (step ∷ before) ≤ vain_tries_for 0 before
control_tries step before same begun read =
    step_tries step before (jobs_begun before) (jobs_begun before + 0 + 1) (controls before + 1) 1 0 same begun read (omega arith) (tries_obeyed (is_open before) (jobs_begun before + 0) (controls before) (vain_tries before))

-- the end of the control source
pub end_tries : (step : Step) (before : History) → is_open (step ∷ before) ≡ false → vain_tries_for 1 (step ∷ before) ≤ vain_tries_for 0 before
end_tries step before closed =
    let now : vain_tries_for 1 (step ∷ before) ≡ vain_tries before =
    ap (λ s. tries_by s (jobs_begun (step ∷ before) + 1) (controls (step ∷ before)) (tries_by s (jobs_begun (step ∷ before)) (controls (step ∷ before)) (vain_tries before))) closed in
    omega (arith, now, tries_stay (is_open before) (jobs_begun before + 0) (controls before) (vain_tries before))

-- ---- earlier journals

tries_grow : (step : Step) (before : History) → vain_tries before ≤ vain_tries (step ∷ before)
tries_grow step before = tries_stay (is_open (step ∷ before)) (jobs_begun (step ∷ before)) (controls (step ∷ before)) (vain_tries before)

pub earlier_tries : (later earlier : History) → vain_tries earlier ≤ vain_tries (later ++ earlier)
earlier_tries [] earlier = omega arith
earlier_tries (step ∷ later) earlier = omega (arith, earlier_tries later earlier, tries_grow step (later ++ earlier))

-- until the source ended, the tries in vain are enough for the jobs
pub enough_tries : (before : History) → has_ended before (stage 0) ≡ false → jobs_begun before ≤ controls before + vain_tries before
enough_tries [] e = omega arith
enough_tries (step ∷ before) e = by (has_ended (step ∷ before) (stage 0)) e
  where
    by : (b : Bool) → b ≡ false → jobs_begun (step ∷ before) ≤ controls (step ∷ before) + tries_by (not b) (jobs_begun (step ∷ before)) (controls (step ∷ before)) (vain_tries before)
    by true e = cc
    by false e = tries_count (jobs_begun (step ∷ before)) (controls (step ∷ before)) (vain_tries before)

pub tries_until_now : (before : History) → vain_tries before ≤ vain_tries_for 0 before
tries_until_now before = tries_stay (is_open before) (jobs_begun before + 0) (controls before) (vain_tries before)
