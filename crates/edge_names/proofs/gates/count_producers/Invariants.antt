use Rattle.std.proofs.Common.{◌≡◌, ◌≤◌, length, take}
use Rattle.pipe_types.specs.Sound.{producers}
use Rattle.edge_names.proofs.gates.count_producers.Given as goal

abbrev pub invariant-loop-spec : goal.invariant-loop-spec
invariant-loop-spec l = record {
  count : l.count ≡ length (producers (take l.spec-index l.fn.topology.stages));
  low : l.count ≤ l.spec-index;
}
