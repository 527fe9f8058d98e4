-- What contracts see of a pipe.
use Rattle.std.specs.Prelude.{ℕ, List, length, Option, Result}
use Rattle.std.specs.declared.alloc.AllocError.{AllocError}
use Rattle.pipe_types.specs.declared.numbers.Post.{Post}
use Rattle.pipe_types.specs.declared.topology.Topology.{Topology}
use Rattle.pipe_model.specs.History.{History}
use Rattle.stage_bodies.specs.Seen.{BodySeen, LineSeen, body_at}
use Rattle.stage_holds.specs.Clocks.{ClockSeen}
use Rattle.run_pipe.specs.declared.ends.RunEnd.{RunEnd}
use Rattle.run_pipe.specs.Away.{away_in}
use Rattle.run_pipe.specs.Watches.{WatchSeen}

-- its topology and its journal, the bodies by place, the control source, the clock, the watch, and how the run ended, if it has
pub record PipeSeen : Type 0 where
  pub topology : Topology
  pub steps : History
  pub bodies : List (Option BodySeen)
  pub control : Option LineSeen
  pub clock : ClockSeen
  pub watch : WatchSeen
  pub end : Option (Result RunEnd AllocError)

-- the same, with the bodies at home by place, and how many places they have
pub record PipeState : Type 0 where
  pub topology : Topology
  pub steps : History
  pub home : ℕ → Option BodySeen
  pub places : ℕ
  pub control : Option LineSeen
  pub clock : ClockSeen
  pub watch : WatchSeen
  pub end : Option (Result RunEnd AllocError)

abbrev pub state_of : PipeSeen → PipeState
state_of p =
    record {
      topology = p.topology;
      steps = p.steps;
      home = body_at (λ b. b) p.bodies;
      places = length p.bodies;
      control = p.control;
      clock = p.clock;
      watch = p.watch;
      end = p.end;
    }

-- the posts whose bodies are away
abbrev pub away_of : PipeState → List Post
away_of p = away_in p.topology p.home p.places
