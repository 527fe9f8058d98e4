use Rattle.std.proofs.Common.{◌≡◌, drop}
use Rattle.pipe_model.specs.Lives.{reason_in}
use Rattle.plain_lives.proofs.deaths.reason.Given as goal

abbrev pub invariant-loop-death : goal.invariant-loop-death
invariant-loop-death l = reason_in (drop l.death-index l.deaths) l.stage ≡ reason_in l.deaths l.stage
