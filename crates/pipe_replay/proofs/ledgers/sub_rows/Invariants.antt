use Rattle.std.proofs.Common.{◌≡◌, ◌++◌, drop}
use Rattle.plain_legal.specs.Machines.{topology_of, history_of}
use Rattle.pipe_replay.specs.Rows.{rows_of_all}
use Rattle.pipe_replay.proofs.ledgers.sub_rows.Given as goal

abbrev pub invariant-loop-spec : goal.invariant-loop-spec
invariant-loop-spec l = l.rows.items ++ rows_of_all (topology_of l.machine) (history_of l.machine) (drop l.spec-index l.specs) ≡ rows_of_all (topology_of l.machine) (history_of l.machine) l.specs
