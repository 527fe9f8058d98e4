use Rattle.std.proofs.Common.{◌≡◌, ◌<◌, ◌∙◌, ap, arith, length, Some, None}
use Rattle.core_children.proofs.Next.{startable, found_read, first_read}
use Rattle.core_children.proofs.children.child_start.Goals as goal

pub slot_again-requires : goal.slot_again-requires
slot_again-requires c =
    let core = c.args.core.now in
    let x = c.requires.stands in
    let start = startable core.topology core.journal.steps c.args.stage x.holds.sound x.holds.legal c.requires.legal in
    omega (arith, start.within, x.holds.fields.sized.children, ap length c.deref.ensures.value)

pub run_again-requires-clause-legal : goal.run_again-requires-clause-legal
run_again-requires-clause-legal c = (found_read c.args.core.now c.args.stage c.deref.result.now c.deref-2.result.now c.in-Some.no c.in-Some.slot c.requires.stands c.requires.legal c.deref.ensures.value c.deref-2.ensures.value c.in-Some.ensures.some.0 c.in-Some.ensures.some.1).allowed

pub run_again-requires-clause-again : goal.run_again-requires-clause-again
run_again-requires-clause-again c = (found_read c.args.core.now c.args.stage c.deref.result.now c.deref-2.result.now c.in-Some.no c.in-Some.slot c.requires.stands c.requires.legal c.deref.ensures.value c.deref-2.ensures.value c.in-Some.ensures.some.0 c.in-Some.ensures.some.1).own.runs

pub run_first-requires-clause-within : goal.run_first-requires-clause-within
run_first-requires-clause-within c =
    let core = c.args.core.now in
    let x = c.requires.stands in
    (startable core.topology core.journal.steps c.args.stage x.holds.sound x.holds.legal c.requires.legal).within

pub run_first-requires-clause-free : goal.run_first-requires-clause-free
run_first-requires-clause-free c = (first_read c.args.core.now c.args.stage c.deref.result.now c.deref-2.result.now c.requires.stands c.requires.legal c.deref.ensures.value c.deref-2.ensures.value (c.slot_again.ensures.none c.in-None.is)).free

pub run_first-requires-clause-least : goal.run_first-requires-clause-least
run_first-requires-clause-least c = (first_read c.args.core.now c.args.stage c.deref.result.now c.deref-2.result.now c.requires.stands c.requires.legal c.deref.ensures.value c.deref-2.ensures.value (c.slot_again.ensures.none c.in-None.is)).least

pub run_first-requires-clause-accepted : goal.run_first-requires-clause-accepted
run_first-requires-clause-accepted c = (first_read c.args.core.now c.args.stage c.deref.result.now c.deref-2.result.now c.requires.stands c.requires.legal c.deref.ensures.value c.deref-2.ensures.value (c.slot_again.ensures.none c.in-None.is)).accepted

pub run_first-requires-clause-legal : goal.run_first-requires-clause-legal
run_first-requires-clause-legal c = (first_read c.args.core.now c.args.stage c.deref.result.now c.deref-2.result.now c.requires.stands c.requires.legal c.deref.ensures.value c.deref-2.ensures.value (c.slot_again.ensures.none c.in-None.is)).legal
