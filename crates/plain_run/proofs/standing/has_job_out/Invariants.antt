use Rattle.std.proofs.Common.{◌≡◌, drop}
use Rattle.std.specs.List.{list_any}
use Rattle.pipe_types.specs.Numbers.{post}
use Rattle.pipe_model.specs.Posts.{slots, is_out}
use Rattle.plain_run.proofs.standing.has_job_out.Given as goal

abbrev pub invariant-loop-slot : goal.invariant-loop-slot
invariant-loop-slot l = list_any (λ k. is_out l.core.journal.steps (post l.fn.stage k)) (drop l.slot slots) ≡ list_any (λ k. is_out l.core.journal.steps (post l.fn.stage k)) slots
