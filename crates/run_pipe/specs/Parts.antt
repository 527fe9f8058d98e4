-- What contracts see of a pipe that is made of these parts.
use Rattle.std.specs.Prelude.{List, length, Option, option_map, Result}
use Rattle.std.specs.declared.alloc.AllocError.{AllocError}
use Rattle.core_state.specs.declared.state.Core.{Core}
use Rattle.pipe_edges.specs.declared.lines.LineSource.{LineSource}
use Rattle.stage_bodies.specs.Seen.{BodySeen, LineSeen, body_at}
use Rattle.stage_holds.specs.Clocks.{ClockSeen}
use Rattle.run_pipe.specs.declared.ends.RunEnd.{RunEnd}
use Rattle.run_pipe.specs.Seen.{PipeState}
use Rattle.run_pipe.specs.Watches.{WatchSeen}

module _ {B S C W : Type 0} (look : B → BodySeen) (line : LineSource S → LineSeen) (time : C → ClockSeen) (view : W → WatchSeen) where
  abbrev pub state_by : Core → List (Option B) → Option (LineSource S) → C → W → Option (Result RunEnd AllocError) → PipeState
  state_by core bodies control clock watch end =
      record {
        topology = core.topology;
        steps = core.journal.steps;
        home = body_at look bodies;
        places = length bodies;
        control = option_map line control;
        clock = time clock;
        watch = view watch;
        end = end;
      }
