use Rattle.body_laws.proofs.Laws.{away_ready}
use Rattle.body_laws.proofs.bodies_may_leave_others_ready.Goals as goal

pub returns : goal.returns
returns c = away_ready
