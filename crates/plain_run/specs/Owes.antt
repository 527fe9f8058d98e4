-- What the last step owes.
use Rattle.std.specs.Prelude.{◌≡◌, Bool, true, false, if◌then◌else◌, Some, None}
use Rattle.pipe_types.specs.declared.numbers.StageNo.{StageNo}
use Rattle.pipe_types.specs.declared.topology.Topology.{Topology}
use Rattle.pipe_types.specs.declared.message.BatchEnd.{BatchEnd}
use Rattle.pipe_types.specs.declared.message.BatchEnd.TheVariants.{Crashed, Outcomes}
use Rattle.pipe_types.specs.Stages.{spec_of}
use Rattle.pipe_model.specs.History.{History}
use Rattle.pipe_model.specs.Lives.{is_live}
use Rattle.pipe_model.specs.Flow.{is_batcher}
use Rattle.pipe_model.specs.Legal.{owed, may_dispatch, is_dispatch_of, is_crash_of}
use Rattle.plain_run.specs.declared.after.After.{After}
use Rattle.plain_run.specs.declared.after.After.TheVariants.{Free, Accept, Crash}

-- the live producer brought records, and owes a dispatch where it may make one
pub record OwesDispatch (topology : Topology) (before : History) (s : StageNo) : Type 0 where
  pub owed : owed topology before ≡ (if may_dispatch topology before s then Some (is_dispatch_of s) else None)
  pub live : is_live topology before s ≡ true
  pub messages : is_batcher (spec_of topology s) ≡ false

abbrev pub Owes : Topology → History → After → Type 0
Owes topology before Free = owed topology before ≡ None
Owes topology before (Accept s) = OwesDispatch topology before s
Owes topology before (Crash s) = owed topology before ≡ Some (is_crash_of s)

-- the batch ended with a crash
abbrev pub is_crash : BatchEnd → Bool
is_crash Crashed = true
is_crash (Outcomes outcomes) = false
