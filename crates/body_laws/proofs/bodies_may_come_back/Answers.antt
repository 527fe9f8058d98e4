use Rattle.body_laws.proofs.Laws.{back_ready}
use Rattle.body_laws.proofs.bodies_may_come_back.Goals as goal

pub returns : goal.returns
returns c = back_ready
