use Rattle.std.proofs.Common.{ℕ, ◌+◌, ◌<◌, ◌≤◌, List, length}
use Rattle.pipe_edges.specs.declared.edges.EdgeKind.TheVariants.{Source}
use Rattle.mem_edges.specs.MemEdges.{IsNew}
use Rattle.program_checks.proofs.streams.add_streams.Given as goal

-- the names that were added are as long as places before this one
abbrev pub invariant-loop-at : goal.invariant-loop-at
invariant-loop-at l = record {
  short : (name : List ℕ) → length name < 6 → IsNew l.edges Source name;
  long : (name : List ℕ) → l.at + 6 ≤ length name → IsNew l.edges Source name;
}
