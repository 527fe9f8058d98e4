use Rattle.core_state.proofs.Steps.{still_stands}
use Rattle.core_children.proofs.Next.{own_accepted}
use Rattle.core_children.proofs.children.run_again.Goals as goal

pub message_of-requires-clause-least : goal.message_of-requires-clause-least
message_of-requires-clause-least c =
    (own_accepted c.args.core.now.topology c.args.core.now.journal.steps c.args.stage c.args.no c.args.slot c.requires.legal c.requires.again).0

pub message_of-requires-clause-accepted : goal.message_of-requires-clause-accepted
message_of-requires-clause-accepted c =
    (own_accepted c.args.core.now.topology c.args.core.now.journal.steps c.args.stage c.args.no c.args.slot c.requires.legal c.requires.again).1

pub returns-in_err-reserve-clause-stands : goal.returns-in_err-reserve-clause-stands
returns-in_err-reserve-clause-stands c = still_stands c.args.core.now c.reserve.new.self c.requires.stands c.reserve.ensures.same_steps c.reserve.ensures.spare c.reserve.ensures.same_acked

pub start_again-requires-clause-holds : goal.start_again-requires-clause-holds
start_again-requires-clause-holds c = (still_stands c.args.core.now c.reserve.new.self c.requires.stands c.reserve.ensures.same_steps c.reserve.ensures.spare c.reserve.ensures.same_acked).holds
