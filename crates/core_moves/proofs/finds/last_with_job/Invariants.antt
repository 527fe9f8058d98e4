use Rattle.std.proofs.Common.{◌≡◌, drop}
use Rattle.std.specs.Prelude.{find, reverse}
use Rattle.pipe_model.specs.Moves.{has_job}
use Rattle.core_moves.proofs.finds.last_with_job.Given as goal

abbrev pub invariant-loop-back : goal.invariant-loop-back
invariant-loop-back l =
    find (has_job l.core.topology l.core.journal.steps) (drop l.back (reverse l.core.topology.stages)) ≡ find (has_job l.core.topology l.core.journal.steps) (reverse l.core.topology.stages)
