-- What flows before a step.
use Rattle.pipe_types.specs.declared.topology.Topology.{Topology}
use Rattle.pipe_model.specs.History.{History, history}
use Rattle.plain_queues.specs.declared.flow.Flow.{Flow}

abbrev pub topology_of : Flow → Topology
topology_of flow = flow.past.topology.now

-- the history of the steps so far
abbrev pub history_of : Flow → History
history_of flow = history flow.past.steps.now
