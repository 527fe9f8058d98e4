use Rattle.std.proofs.Common.{◌≡◌, drop}
use Rattle.stage_moves.specs.Pauses.{least_time}
use Rattle.stage_moves.proofs.clocks.shortest.Given as goal

abbrev pub invariant-loop-spec : goal.invariant-loop-spec
invariant-loop-spec l = least_time l.least (drop l.spec-index l.stages) ≡ least_time l.fn.time l.stages
