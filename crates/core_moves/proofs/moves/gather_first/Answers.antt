use Rattle.std.proofs.Common.{◌∙◌, ap, Some, None}
use Rattle.pipe_model.specs.Moves.{StepMove, or_else, move_or_pause}
use Rattle.core_moves.specs.Moves.{from_jobs}
use Rattle.pipe_types.specs.declared.step.Step.TheVariants.{Gather}
use Rattle.pipe_types.specs.Numbers.{message_no}
use Rattle.pipe_model.specs.Flow.{inbox}
use Rattle.pipe_model.specs.Legal.{allows, may_gather, first_unit}
use Rattle.core_moves.proofs.Chain.{when_is, gather_allowed}
use Rattle.core_moves.proofs.moves.gather_first.Goals as goal

pub returns-in-Some : goal.returns-in-Some
returns-in-Some c =
    let core = c.args.core.now in
    ap (λ n. StepMove (Gather c.in-Some.stage (message_no n))) c.first_unit.ensures ∙ ap (λ o. move_or_pause (or_else o (from_jobs core.topology core.journal.steps))) (when_is (λ s. StepMove (Gather s (message_no (first_unit (inbox core.topology core.journal.steps s))))) (λ spec. may_gather core.topology core.journal.steps spec.no (first_unit (inbox core.topology core.journal.steps spec.no))) (λ spec. allows core.topology core.journal.steps (Gather spec.no (message_no (first_unit (inbox core.topology core.journal.steps spec.no))))) core.topology.stages (Some c.in-Some.stage) c.in-Some.ensures (gather_allowed core.topology core.journal.steps c.requires.stands.unowed c.requires.going))

pub returns-in-None : goal.returns-in-None
returns-in-None c =
    let core = c.args.core.now in
    c.begin_last.ensures ∙ ap (λ o. move_or_pause (or_else o (from_jobs core.topology core.journal.steps))) (when_is (λ s. StepMove (Gather s (message_no (first_unit (inbox core.topology core.journal.steps s))))) (λ spec. may_gather core.topology core.journal.steps spec.no (first_unit (inbox core.topology core.journal.steps spec.no))) (λ spec. allows core.topology core.journal.steps (Gather spec.no (message_no (first_unit (inbox core.topology core.journal.steps spec.no))))) core.topology.stages None c.in-None.ensures (gather_allowed core.topology core.journal.steps c.requires.stands.unowed c.requires.going))
