use Rattle.std.proofs.Common.{ap}
use Rattle.core_moves.specs.Moves.{seen_as}
use Rattle.core_checks.proofs.drive.next.Goals as goal

pub returns-clause-going : goal.returns-clause-going
returns-clause-going c is = (c.next_move.ensures.pauses (ap seen_as is)).going
