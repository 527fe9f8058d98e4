use Rattle.std.proofs.Common.{◌∙◌, ap}
use Rattle.pipe_types.specs.declared.step.Step.TheVariants.{Ask}
use Rattle.pipe_model.specs.Moves.{StepMove}
use Rattle.core_moves.proofs.Chain.{due_by}
use Rattle.core_moves.proofs.moves.ask_on.Goals as goal

pub returns : goal.returns
returns c = ap (λ n. StepMove (Ask c.args.sub n)) (c.due-n.ensures ∙ due_by c.args.core.now c.args.sub c.requires.stands c.requires.due)
