use Rattle.std.proofs.Common.{◌≡◌, take}
use Rattle.pipe_model.specs.Legal.{last_in}
use Rattle.plain_rows.proofs.gathers.last.Given as goal

abbrev pub invariant-loop-n : goal.invariant-loop-n
invariant-loop-n l = l.last ≡ last_in (take l.n-index l.numbers)
