use Rattle.std.proofs.Common.{◌∙◌, ap, Some, None}
use Rattle.pipe_model.specs.Moves.{StepMove, or_else, move_or_pause}
use Rattle.core_moves.specs.Moves.{from_closes}
use Rattle.pipe_types.specs.declared.step.Step.TheVariants.{Dispatch}
use Rattle.pipe_model.specs.Legal.{allows, may_dispatch}
use Rattle.core_moves.proofs.Chain.{when_is, dispatch_allowed}
use Rattle.core_moves.proofs.moves.dispatch_first.Goals as goal

pub returns-in-Some : goal.returns-in-Some
returns-in-Some c =
    let core = c.args.core.now in
    ap (λ o. move_or_pause (or_else o (from_closes core.topology core.journal.steps))) (when_is (λ s. StepMove (Dispatch s)) (λ spec. may_dispatch core.topology core.journal.steps spec.no) (λ spec. allows core.topology core.journal.steps (Dispatch spec.no)) core.topology.stages (Some c.in-Some.stage) c.in-Some.ensures (dispatch_allowed core.topology core.journal.steps c.requires.stands.unowed c.requires.going))

pub returns-in-None : goal.returns-in-None
returns-in-None c =
    let core = c.args.core.now in
    c.close_first.ensures ∙ ap (λ o. move_or_pause (or_else o (from_closes core.topology core.journal.steps))) (when_is (λ s. StepMove (Dispatch s)) (λ spec. may_dispatch core.topology core.journal.steps spec.no) (λ spec. allows core.topology core.journal.steps (Dispatch spec.no)) core.topology.stages None c.in-None.ensures (dispatch_allowed core.topology core.journal.steps c.requires.stands.unowed c.requires.going))
