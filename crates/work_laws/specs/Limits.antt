-- How many steps of each kind a journal of a topology has at most.
use Rattle.std.specs.Prelude.{ℕ, ◌+◌, ◌*◌, List, [], ◌∷◌, length}
use Rattle.pipe_types.specs.declared.topology.Topology.{Topology}
use Rattle.pipe_types.specs.declared.topology.StageSpec.{StageSpec}

abbrev pub number_of_stages : Topology → ℕ
number_of_stages topology = length topology.stages

-- the greatest demands of all stages together
abbrev pub demands : List StageSpec → ℕ
demands [] = 0
demands (spec ∷ specs) = spec.max + demands specs

-- steps that take a record in or move a message on: each message moves at most 21 times
abbrev pub most_moves : Topology → ℕ
most_moves topology = 21 * topology.record_limit

-- units that are sent to one stage, and so its takes
abbrev pub most_units : Topology → ℕ
most_units topology = topology.record_limit + 1

abbrev pub most_takes : Topology → ℕ
most_takes topology = number_of_stages topology * most_units topology

-- those that send, and those that only lose what is over a buffer's size
abbrev pub most_dispatches : Topology → ℕ
most_dispatches topology = most_takes topology + most_moves topology

-- a message is started as a child at most 5 times
abbrev pub most_children : Topology → ℕ
most_children topology = 5 * (topology.record_limit + 1)

-- a stage has 16 slots for children
abbrev pub most_child_ends : Topology → ℕ
most_child_ends topology = number_of_stages topology * 16 * most_children topology

-- kills by control lines, those for a crash, each after a reply, and the halt
abbrev pub most_kills : Topology → ℕ
most_kills topology = 10000 + most_takes topology + 1

-- a stage lives once more for each kill
abbrev pub most_lives : Topology → ℕ
most_lives topology = 1 + most_kills topology

abbrev pub most_restarts : Topology → ℕ
most_restarts topology = number_of_stages topology * most_lives topology

-- a slot is answered late once in each life of its stage
abbrev pub most_late : Topology → ℕ
most_late topology = number_of_stages topology * 16 * most_lives topology

-- generations of a pair of stages
abbrev pub most_generations : Topology → ℕ
most_generations topology = most_lives topology + most_lives topology

-- each generation of each pair is asked for the units that may be sent, and for one full demand
abbrev pub most_asks : Topology → ℕ
most_asks topology =
    number_of_stages topology * (number_of_stages topology * most_generations topology) * (most_units topology + demands topology.stages)

-- the control source, and that of each stage
abbrev pub most_source_ends : Topology → ℕ
most_source_ends topology = 1 + number_of_stages topology

-- all work
abbrev pub most_work : Topology → ℕ
most_work topology =
    most_moves topology
    + most_asks topology
    + most_dispatches topology
    + most_takes topology
    + most_takes topology
    + most_children topology
    + most_child_ends topology
    + most_late topology
    + most_source_ends topology
    + most_kills topology
    + most_restarts topology
    + 10000
    + 1
