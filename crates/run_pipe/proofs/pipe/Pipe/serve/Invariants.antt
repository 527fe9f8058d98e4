use Rattle.run_pipe.specs.Seen.{state_of}
use Rattle.run_pipe.specs.Serves.{Serves}
use Rattle.run_pipe.proofs.pipe.Pipe.serve.Given as goal

abbrev pub invariant-loop : goal.invariant-loop
invariant-loop g l = Serves g.B.Works.look l.fn.brought l.round (state_of l.fn.self) (state_of l.self)
