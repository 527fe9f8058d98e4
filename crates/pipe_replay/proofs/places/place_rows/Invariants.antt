use Rattle.plain_queues.specs.Flows.{topology_of, history_of}
use Rattle.pipe_replay.specs.Rows.{ArePlacesUpto}
use Rattle.pipe_replay.proofs.places.place_rows.Given as goal

abbrev pub invariant-loop-i : goal.invariant-loop-i
invariant-loop-i l = ArePlacesUpto (topology_of l.flow) (history_of l.flow) l.i l.rows.items
