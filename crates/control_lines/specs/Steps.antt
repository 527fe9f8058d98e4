-- Steps that begin jobs, steps that come from a control source, and ticks that move no time.
use Rattle.std.specs.Prelude.{◌≡◌, ◌⊎◌, ◌+◌, [], ◌∷◌, ℕ, Bool, true, false, ◌||◌, nat_le, if◌then◌else◌, IsTrue}
use Rattle.pipe_types.specs.declared.step.Step.{Step}
use Rattle.pipe_types.specs.declared.step.Step.TheVariants.{Fetch, Take, Child, Kill, SourceEnd, Tick}
use Rattle.pipe_types.specs.Numbers.{stage, same_stage}
use Rattle.pipe_model.specs.History.{History, now}
use Rattle.pipe_model.specs.Outside.{is_control}
use Rattle.work_laws.specs.Work.{how_many}

-- the step begins a job
abbrev pub begins : Step → Bool
begins (Fetch s n) = true
begins (Take s u k) = true
begins (Child s m slot) = true
begins _ = false

-- how many jobs were begun
abbrev pub jobs_begun : History → ℕ
jobs_begun before = how_many begins before

abbrev pub still_after : Step → (now old : ℕ) → ℕ
still_after (Tick t) now old = if nat_le t now then old + 1 else old
still_after _ now old = old

-- how many ticks stand still: they have the time of the one before
abbrev pub still_ticks : History → ℕ
still_ticks [] = 0
still_ticks (step ∷ before) = still_after step (now before) (still_ticks before)

-- the step kills a stage
abbrev pub is_kill : Step → Bool
is_kill (Kill s why) = true
is_kill _ = false

-- the step ends the control source
abbrev pub ends_control : Step → Bool
ends_control (SourceEnd s how) = same_stage s (stage 0)
ends_control _ = false

-- the step is that of a control line, or the end of the control source
abbrev pub is_from_control : Step → Bool
is_from_control step = is_control step || ends_control step

-- one step came from the control source, or none
abbrev pub AddsControl : (old new : History) → Type 0
AddsControl old new = (new ≡ old) ⊎ ((step : Step) × (new ≡ step ∷ old) × IsTrue (is_from_control step))
