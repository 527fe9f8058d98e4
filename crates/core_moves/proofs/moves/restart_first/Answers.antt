use Rattle.std.proofs.Common.{◌∙◌, ap, Some, None}
use Rattle.std.specs.Prelude.{if◌then◌else◌, ◌&&◌}
use Rattle.pipe_model.specs.Moves.{StepMove, or_else, move_or_pause}
use Rattle.core_moves.specs.Moves.{from_drains}
use Rattle.std.proofs.Common.{refl}
use Rattle.pipe_types.specs.declared.step.Step.TheVariants.{Restart, Halt}
use Rattle.pipe_model.specs.Legal.{needs_restart, no_post_out, may_restart}
use Rattle.core_moves.proofs.Chain.{when_is}
use Rattle.core_moves.proofs.moves.restart_first.Goals as goal

pub returns-in-Some : goal.returns-in-Some
returns-in-Some c =
    let core = c.args.core.now in
    c.restart_or_halt.ensures ∙ ap (λ o. move_or_pause (or_else o (from_drains core.topology core.journal.steps))) (when_is (λ s. StepMove (if may_restart core.topology core.journal.steps s then Restart s else Halt)) (λ spec. needs_restart core.topology core.journal.steps spec.no && no_post_out core.topology core.journal.steps spec.no) (λ spec. needs_restart core.topology core.journal.steps spec.no && no_post_out core.topology core.journal.steps spec.no) core.topology.stages (Some c.in-Some.stage) c.in-Some.ensures (λ spec. refl))

pub returns-in-None : goal.returns-in-None
returns-in-None c =
    let core = c.args.core.now in
    c.drain_first.ensures ∙ ap (λ o. move_or_pause (or_else o (from_drains core.topology core.journal.steps))) (when_is (λ s. StepMove (if may_restart core.topology core.journal.steps s then Restart s else Halt)) (λ spec. needs_restart core.topology core.journal.steps spec.no && no_post_out core.topology core.journal.steps spec.no) (λ spec. needs_restart core.topology core.journal.steps spec.no && no_post_out core.topology core.journal.steps spec.no) core.topology.stages None c.in-None.ensures (λ spec. refl))
