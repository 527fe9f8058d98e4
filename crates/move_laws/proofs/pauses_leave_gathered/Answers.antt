use Rattle.move_laws.proofs.pauses_leave_gathered.Goals as goal
use Rattle.move_laws.proofs.Laws.{rest_law}

pub returns : goal.returns
returns c = rest_law
