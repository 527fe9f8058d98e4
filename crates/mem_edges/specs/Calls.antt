-- The calls that opened or read.
use Rattle.std.specs.Prelude.{ℕ, List, map}
use Rattle.pipe_edges.specs.declared.edges.EdgeKind.{EdgeKind}
use Rattle.mem_edges.specs.declared.edges.Call.{Call}

abbrev pub calls_in : List Call → List (EdgeKind × List ℕ)
calls_in calls = map (λ (c : Call). (c.kind, c.name)) calls
