use Rattle.queue_laws.proofs.queues_hold_each_once.Goals as goal
use Rattle.queue_laws.proofs.Laws.{once_law}

pub returns : goal.returns
returns c = once_law
