use Rattle.std.proofs.Common.{◌≡◌, drop}
use Rattle.plain_lives.specs.Lives.{is_among}
use Rattle.plain_lives.proofs.deaths.is_among.Given as goal

abbrev pub invariant-loop-one : goal.invariant-loop-one
invariant-loop-one l = is_among (drop l.one-index l.stages) l.stage ≡ is_among l.stages l.stage
