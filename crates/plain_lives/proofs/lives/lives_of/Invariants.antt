use Rattle.std.proofs.Common.{take}
use Rattle.pipe_model.specs.History.{history}
use Rattle.plain_lives.specs.Lives.{LivesStand}
use Rattle.plain_lives.proofs.lives.lives_of.Given as goal

abbrev pub invariant-loop-step : goal.invariant-loop-step
invariant-loop-step l = LivesStand l.topology (history (take l.step-index l.steps)) l.lives
