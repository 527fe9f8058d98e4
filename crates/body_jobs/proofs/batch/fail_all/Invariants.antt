use Rattle.std.proofs.Common.{◌≡◌, replicate}
use Rattle.pipe_types.specs.declared.message.Outcome.TheVariants.{Failed}
use Rattle.body_jobs.proofs.batch.fail_all.Given as goal

abbrev pub invariant-loop-at : goal.invariant-loop-at
invariant-loop-at l = l.outcomes.items ≡ replicate l._at (Failed l.why)
