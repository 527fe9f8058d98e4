-- What a journal has to do with the clock.
use Rattle.std.specs.Prelude.{◌≡◌, ◌≤◌, ◌<◌, ◌⊎◌, ◌∷◌, ◌+◌, ℕ, max, Result, Ok, Err}
use Rattle.pipe_types.specs.Counts.{Rose}
use Rattle.pipe_types.specs.declared.step.Step.TheVariants.{Tick}
use Rattle.pipe_model.specs.History.{History, now}
use Rattle.stage_job.specs.Chunks.{RoseBy}
use Rattle.control_lines.specs.Steps.{jobs_begun, still_ticks}

-- a clock: the greatest reading that it has answered, how often it was read, and how often it paused
pub record ClockSeen : Type 0 where
  pub latest : ℕ
  pub readings : ℕ
  pub pauses : ℕ

abbrev pub clock_seen : {C : Type 0} → (latest readings pauses : C → ℕ) → C → ClockSeen
clock_seen latest readings pauses clock = record { latest = latest clock; readings = readings clock; pauses = pauses clock }

-- the last tick is the greatest reading of the run, and the clock was read for each job; behind a tick it is later than before it,
-- or the clock paused for it
pub record KeepsClock (before : History) (opened clock : ClockSeen) : Type 0 where
  pub latest : clock.latest ≡ max opened.latest (now before)
  pub readings : RoseBy (jobs_begun before) opened.readings clock.readings
  pub pauses : RoseBy (still_ticks before) opened.pauses clock.pauses

-- where memory was wanting, the greatest reading may have no tick
pub record KeepsClockPartly (before : History) (opened clock : ClockSeen) : Type 0 where
  pub latest : max opened.latest (now before) ≤ clock.latest
  pub readings : RoseBy (jobs_begun before) opened.readings clock.readings
  pub pauses : RoseBy (still_ticks before) opened.pauses clock.pauses

abbrev pub KeepsClockOn : {T E : Type 0} → Result T E → History → (opened clock : ClockSeen) → Type 0
KeepsClockOn (Ok done) before opened clock = KeepsClock before opened clock
KeepsClockOn (Err error) before opened clock = KeepsClockPartly before opened clock

-- the last tick is the greatest reading of the run, and the clock was read for each job, and once more
pub record KeepsClockAhead (before : History) (opened clock : ClockSeen) : Type 0 where
  pub latest : clock.latest ≡ max opened.latest (now before)
  pub readings : RoseBy (jobs_begun before + 1) opened.readings clock.readings
  pub pauses : RoseBy (still_ticks before) opened.pauses clock.pauses

abbrev pub KeepsClockAheadOn : {T E : Type 0} → Result T E → History → (opened clock : ClockSeen) → Type 0
KeepsClockAheadOn (Ok done) before opened clock = KeepsClockAhead before opened clock
KeepsClockAheadOn (Err error) before opened clock = KeepsClockPartly before opened clock

-- a tick was added where the reading is past the last one
abbrev pub TicksTo : (reading : ℕ) → (old new : History) → Type 0
TicksTo reading old new = ((now old < reading) × (new ≡ Tick reading ∷ old)) ⊎ ((reading ≤ now old) × (new ≡ old))

-- the clock was read, and a tick stands for a reading past the last tick
pub record HasRead (old new : History) (before after : ClockSeen) : Type 0 where
  pub rose : Rose before.readings after.readings
  pub reading : ℕ
  pub latest : after.latest ≡ max before.latest reading
  pub ticks : TicksTo reading old new
  pub no_pause : after.pauses ≡ before.pauses

-- the clock paused and was read, and a tick stands for the reading, or for the last tick where that is greater
pub record HasPaused (old new : History) (before after : ClockSeen) : Type 0 where
  pub rose : Rose before.readings after.readings
  pub reading : ℕ
  pub latest : after.latest ≡ max before.latest reading
  pub ticks : new ≡ Tick (max (now old) reading) ∷ old
  pub slept : Rose before.pauses after.pauses

-- the clock was read, behind a pause or without one, and memory was wanting for the tick
pub record HasReadInVain (old new : History) (before after : ClockSeen) : Type 0 where
  pub rose : Rose before.readings after.readings
  pub latest : before.latest ≤ after.latest
  pub unchanged : new ≡ old
  pub pauses : (after.pauses ≡ before.pauses) ⊎ Rose before.pauses after.pauses

abbrev pub IsRead : {T E : Type 0} → Result T E → (old new : History) → (before after : ClockSeen) → Type 0
IsRead (Ok done) old new before after = HasRead old new before after
IsRead (Err error) old new before after = HasReadInVain old new before after

abbrev pub IsPaused : {T E : Type 0} → Result T E → (old new : History) → (before after : ClockSeen) → Type 0
IsPaused (Ok done) old new before after = HasPaused old new before after
IsPaused (Err error) old new before after = HasReadInVain old new before after
