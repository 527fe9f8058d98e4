use Rattle.body_laws.proofs.Laws.{away_keeps}
use Rattle.body_laws.proofs.bodies_may_leave.Goals as goal

pub returns : goal.returns
returns c = away_keeps
