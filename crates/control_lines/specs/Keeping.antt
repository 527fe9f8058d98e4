-- What a journal has to do with what is seen of its control source.
use Rattle.std.specs.Prelude.{◌≡◌, ◌+◌, ◌-◌, ℕ, Bool, true, false, not, max, List, [], ◌∷◌, ◌++◌, length, IsSome, Option, Some, None, Result, Ok, Err}
use Rattle.pipe_types.specs.declared.step.SourceHow.{SourceHow}
use Rattle.pipe_types.specs.declared.step.SourceHow.TheVariants.{Limit}
use Rattle.pipe_types.specs.declared.topology.Topology.{Topology}
use Rattle.pipe_types.specs.Numbers.{stage}
use Rattle.pipe_model.specs.History.{History, controls}
use Rattle.pipe_model.specs.Legal.{has_ended}
use Rattle.pipe_model.specs.Outside.{source_end, AreReadings}
use Rattle.pipe_edges.specs.declared.reading.LineEnd.{LineEnd}
use Rattle.pipe_laws.specs.Read.{HasNoControl}
use Rattle.stage_job.specs.Chunks.{RoseBy}
use Rattle.stage_bodies.specs.Seen.{LineSeen}
use Rattle.stage_bodies.specs.Reads.{AreReadFrom}
use Rattle.body_laws.specs.Keeps.{IsKnownEnd}
use Rattle.control_lines.specs.Steps.{jobs_begun}

-- the control source has not ended
abbrev pub is_open : History → Bool
is_open before = not (has_ended before (stage 0))

abbrev pub tries_by : (still : Bool) → (jobs controls old : ℕ) → ℕ
tries_by true jobs controls old = max old (jobs - controls)
tries_by false jobs controls old = old

-- how often the control source was read in vain, at least: as long as it has not ended, it is read before each job, and a
-- reading gives a control step or nothing
abbrev pub vain_tries : History → ℕ
vain_tries [] = 0
vain_tries (step ∷ before) =
    tries_by (is_open (step ∷ before)) (jobs_begun (step ∷ before)) (controls (step ∷ before)) (vain_tries before)

-- the same, where so many more jobs may be begun before the next reading
abbrev pub vain_tries_for : (jobs : ℕ) → History → ℕ
vain_tries_for jobs before = tries_by (is_open before) (jobs_begun before + jobs) (controls before) (vain_tries before)

-- how the journal says that the control source ended is how it ended; by its limit after 10,000 lines
abbrev pub IsKnownControlEnd : (controls : ℕ) → Option SourceHow → Option LineEnd → Type 0
IsKnownControlEnd controls (Some Limit) now = controls ≡ 10000
IsKnownControlEnd controls how now = IsKnownEnd how now

-- the lines that were read are one for each control step, which is the reading of its line, and then what was lost; the end has
-- its cause in the source, and nothing is lost before one; the source waited for each try in vain, also where so many more jobs
-- may be begun before the next reading
pub record KeepsLines (topology : Topology) (before : History) (jobs : ℕ) (lost : List (List ℕ)) (opened now : LineSeen) : Type 0 where
  pub lines : List (List ℕ)
  pub read : AreReadFrom opened.source now (lines ++ lost)
  pub one_each : length lines ≡ controls before
  pub readings : AreReadings topology before lines
  pub known : IsKnownControlEnd (controls before) (source_end before (stage 0)) now.end
  pub none_lost : IsSome (source_end before (stage 0)) → lost ≡ []
  pub tries : RoseBy (vain_tries_for jobs before) opened.source.waits now.source.waits

-- the same, where memory was wanting: a line may be in no step
abbrev pub KeepsLinesPartly : Topology → History → (opened now : LineSeen) → Type 0
KeepsLinesPartly topology before opened now = (lost : List (List ℕ)) × KeepsLines topology before 0 lost opened now

abbrev pub KeepsLinesOn : {T E : Type 0} → Result T E → Topology → History → (jobs : ℕ) → (opened now : LineSeen) → Type 0
KeepsLinesOn (Ok done) topology before jobs opened now = KeepsLines topology before jobs [] opened now
KeepsLinesOn (Err error) topology before jobs opened now = KeepsLinesPartly topology before opened now

-- the journal keeps to its control source, and so many more jobs may be begun before the next reading; where there is none, no
-- step comes from one
abbrev pub KeepsControl : Topology → History → (jobs : ℕ) → (opened now : Option LineSeen) → Type 0
KeepsControl topology before jobs (Some opened) (Some now) = KeepsLines topology before jobs [] opened now
KeepsControl topology before jobs None None = HasNoControl before
KeepsControl topology before jobs _ _ = ⊥

-- the same, where memory was wanting
abbrev pub KeepsControlPartly : Topology → History → (opened now : Option LineSeen) → Type 0
KeepsControlPartly topology before (Some opened) (Some now) = KeepsLinesPartly topology before opened now
KeepsControlPartly topology before None None = HasNoControl before
KeepsControlPartly topology before _ _ = ⊥

abbrev pub KeepsControlOn : {T E : Type 0} → Result T E → Topology → History → (jobs : ℕ) → (opened now : Option LineSeen) → Type 0
KeepsControlOn (Ok done) topology before jobs opened now = KeepsControl topology before jobs opened now
KeepsControlOn (Err error) topology before jobs opened now = KeepsControlPartly topology before opened now

-- nothing was read of it
pub record IsFresh (lines : LineSeen) : Type 0 where
  pub waiting : lines.waiting ≡ []
  pub end : lines.end ≡ None
