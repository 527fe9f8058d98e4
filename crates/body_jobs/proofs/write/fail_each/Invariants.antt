use Rattle.std.proofs.Common.{◌≡◌, ◌++◌, map, take, drop}
use Rattle.body_jobs.specs.Batches.{by_sink}
use Rattle.body_jobs.proofs.write.fail_each.Given as goal

abbrev pub invariant-loop-at : goal.invariant-loop-at
invariant-loop-at l = l.outcomes ≡ map by_sink (take l.at l.fn.outcomes) ++ drop l.at l.fn.outcomes
