use Rattle.std.proofs.Common.{◌≡◌, drop}
use Rattle.pipe_model.specs.Flow.{among}
use Rattle.plain_places.proofs.moves.is_among.Given as goal

abbrev pub invariant-loop-m : goal.invariant-loop-m
invariant-loop-m l = among (drop l.m-index l.units) l.n ≡ among l.units l.n
