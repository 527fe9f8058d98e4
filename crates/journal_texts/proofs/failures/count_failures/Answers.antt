use Rattle.std.proofs.Common.{arith}
use Rattle.journal_texts.proofs.Tallies.{failures_next, failed_few, reason_few}
use Rattle.journal_texts.proofs.failures.count_failures.Goals as goal

pub loop-at-preserved : goal.loop-at-preserved
loop-at-preserved c = failures_next c.args.places.now.items c.loop-at.at _ _ _ (omega (arith, c.loop-at-test.true, c.len-at-end.ensures)) c.reason.ensures c.loop-at.invariant c.in_ok-add.ensures

pub add-requires-clause-count : goal.add-requires-clause-count
add-requires-clause-count c =
    let few = failed_few c.args.places.now.items c.loop-at.at c.loop-at.failed (omega (arith, c.loop-at-test.true, c.len-at-end.ensures)) c.loop-at.invariant in
    omega (arith, few)

pub add-requires-clause-room : goal.add-requires-clause-room
add-requires-clause-room c = λ reason.
    let few = reason_few c.args.places.now.items c.loop-at.at c.loop-at.failed (omega (arith, c.loop-at-test.true, c.len-at-end.ensures)) c.loop-at.invariant reason in
    omega (arith, few)
