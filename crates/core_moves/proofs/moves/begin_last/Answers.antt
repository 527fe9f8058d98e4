use Rattle.std.proofs.Common.{◌∙◌, ap, Some, None}
use Rattle.std.specs.Prelude.{reverse}
use Rattle.pipe_model.specs.Moves.{or_else, if_so, move_or_pause, jobs_out, JobsOut, Job, has_job}
use Rattle.std.proofs.Common.{refl}
use Rattle.core_moves.proofs.Chain.{when_is}
use Rattle.core_moves.proofs.moves.begin_last.Goals as goal

pub returns-in-Some : goal.returns-in-Some
returns-in-Some c =
    let core = c.args.core.now in
    ap (λ o. move_or_pause (or_else o (if_so (jobs_out core.topology core.journal.steps) JobsOut))) (when_is Job (has_job core.topology core.journal.steps) (has_job core.topology core.journal.steps) (reverse core.topology.stages) (Some c.in-Some.stage) c.in-Some.ensures (λ spec. refl))

pub returns-in-None : goal.returns-in-None
returns-in-None c =
    let core = c.args.core.now in
    c.wait.ensures ∙ ap (λ o. move_or_pause (or_else o (if_so (jobs_out core.topology core.journal.steps) JobsOut))) (when_is Job (has_job core.topology core.journal.steps) (has_job core.topology core.journal.steps) (reverse core.topology.stages) None c.in-None.ensures (λ spec. refl))
