-- How many rounds a run may still have, and how long it pauses.
use Rattle.std.specs.Prelude.{ℕ, ◌+◌, ◌*◌, ◌/◌, min, max, if◌then◌else◌, List, [], ◌∷◌, Option, None, Some}
use Rattle.pipe_types.specs.Sound.{is_batcher}
use Rattle.pipe_types.specs.declared.step.Step.TheVariants.{Tick}
use Rattle.pipe_types.specs.declared.topology.Rate.{Rate}
use Rattle.pipe_types.specs.declared.topology.StageSpec.{StageSpec}
use Rattle.pipe_types.specs.declared.topology.Topology.{Topology}
use Rattle.pipe_model.specs.History.{History}
use Rattle.stage_bodies.specs.Several.{has_several_sources}
use Rattle.work_laws.specs.Left.{work_left}

-- a pipeline may pause, which it does not right after a tick
abbrev pub may_pause : History → ℕ
may_pause (Tick t ∷ before) = 0
may_pause _ = 1

-- the work that is left, and a pause before each step of it
abbrev pub rounds_left : Topology → History → ℕ
rounds_left topology before = 2 * work_left topology before + may_pause before

-- the least of this time and the time limits of the batchers
abbrev pub least_time : ℕ → List StageSpec → ℕ
least_time time [] = time
least_time time (spec ∷ specs) = least_time (if is_batcher spec.role then min time spec.batch_timeout else time) specs

-- how long a pause is, in milliseconds: with a rate the 32nd part of the least of an interval and the time limits of batches; with
-- several sources a second, or the fourth part of the least of those time limits; but 1 at least and 1,000 at most
abbrev pub pause_of : Option Rate → List StageSpec → ℕ
pause_of None specs = if has_several_sources specs then min (max (least_time 4000 specs / 4) 1) 1000 else 1
pause_of (Some rate) specs = min (max (least_time rate.interval specs / 32) 1) 1000
