-- Which batch closes next.
use Rattle.pipe_types.specs.declared.step.Step.TheVariants.{Close}
use Rattle.pipe_model.specs.Moves.{Move, StepMove}
use Rattle.core_moves.specs.declared.closes.Closing.{Closing}

-- the move that closes it
abbrev pub closing_move : Closing → Move
closing_move c = StepMove (Close c.stage c.first c.trigger)
