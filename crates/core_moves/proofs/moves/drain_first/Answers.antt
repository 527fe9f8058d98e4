use Rattle.std.proofs.Common.{◌∙◌, ap}
use Rattle.std.specs.Prelude.{option_map}
use Rattle.pipe_types.specs.declared.step.Step.TheVariants.{Drain}
use Rattle.pipe_model.specs.Moves.{StepMove, or_else, move_or_pause}
use Rattle.core_moves.specs.Moves.{from_asks}
use Rattle.core_moves.proofs.Chain.{causes}
use Rattle.core_moves.proofs.moves.drain_first.Goals as goal

pub returns-in-Some : goal.returns-in-Some
returns-in-Some c =
    let core = c.args.core.now in
    ap (λ o. move_or_pause (or_else (option_map (λ x. StepMove (Drain x)) o) (from_asks core.topology core.journal.steps))) c.in-Some.ensures
    ∙ ap move_or_pause (causes core.topology core.journal.steps (from_asks core.topology core.journal.steps) c.requires.stands.unowed c.requires.going)

pub returns-in-None : goal.returns-in-None
returns-in-None c =
    let core = c.args.core.now in
    c.ask_first.ensures
    ∙ (ap (λ o. move_or_pause (or_else (option_map (λ x. StepMove (Drain x)) o) (from_asks core.topology core.journal.steps))) c.in-None.ensures
    ∙ ap move_or_pause (causes core.topology core.journal.steps (from_asks core.topology core.journal.steps) c.requires.stands.unowed c.requires.going))
