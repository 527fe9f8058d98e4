use Rattle.core_state.proofs.Steps.{still_stands}
use Rattle.core_children.proofs.children.make_ready.Goals as goal

pub returns-clause-stands : goal.returns-clause-stands
returns-clause-stands c = still_stands c.make_slot_ready.new.core c.reserve.new.self c.make_slot_ready.ensures.stands c.reserve.ensures.same_steps c.reserve.ensures.spare c.reserve.ensures.same_acked
