-- What contracts see of what a hold works on.
use Rattle.std.specs.Prelude.{ℕ, List, length, Option, option_map}
use Rattle.core_state.specs.declared.state.Core.{Core}
use Rattle.pipe_edges.specs.declared.lines.LineSource.{LineSource}
use Rattle.pipe_types.specs.declared.topology.Topology.{Topology}
use Rattle.pipe_model.specs.History.{History}
use Rattle.stage_bodies.specs.Seen.{BodySeen, LineSeen, body_at}
use Rattle.stage_moves.specs.Clocks.{ClockSeen}

-- the topology and the journal, the bodies at home by place, how many places they have, the control source and the clock
pub record PartsSeen : Type 0 where
  pub topology : Topology
  pub steps : History
  pub home : ℕ → Option BodySeen
  pub places : ℕ
  pub control : Option LineSeen
  pub clock : ClockSeen

module _ {B S C : Type 0} (look : B → BodySeen) (line : LineSource S → LineSeen) (time : C → ClockSeen) where
  abbrev pub parts_by : Core → List (Option B) → Option (LineSource S) → C → PartsSeen
  parts_by core bodies control clock =
      record {
        topology = core.topology;
        steps = core.journal.steps;
        home = body_at look bodies;
        places = length bodies;
        control = option_map line control;
        clock = time clock;
      }
