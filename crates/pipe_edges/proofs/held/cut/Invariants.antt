use Rattle.std.proofs.Common.{◌≡◌, length}
use Rattle.pipe_edges.specs.Cut.{CutsLines}
use Rattle.pipe_edges.proofs.held.cut.Given as goal

abbrev pub invariant-loop : goal.invariant-loop
invariant-loop l = record {
  cut : CutsLines l.bytes l.records.items l.used l.searched;
  counted : length l.records.items ≡ l.counter;
}
