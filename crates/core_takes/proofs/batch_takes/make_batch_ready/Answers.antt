use Rattle.core_state.proofs.Steps.{still_stands}
use Rattle.core_takes.proofs.batch_takes.make_batch_ready.Goals as goal

pub returns-clause-stands : goal.returns-clause-stands
returns-clause-stands c = still_stands c.make_ends_ready.new.core c.reserve.new.self c.make_ends_ready.ensures.stands c.reserve.ensures.same_steps c.reserve.ensures.spare c.reserve.ensures.same_acked

pub returns-clause-spare : goal.returns-clause-spare
returns-clause-spare c = c.reserve.ensures.room
