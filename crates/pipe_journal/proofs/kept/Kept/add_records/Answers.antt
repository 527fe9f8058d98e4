use Rattle.std.proofs.Common.{arith, rules}
use Rattle.pipe_journal.proofs.Extending.{more_taken, all_taken}
use Rattle.pipe_journal.proofs.kept.Kept.add_records.Goals as goal

pub loop-record-preserved : goal.loop-record-preserved
loop-record-preserved c = record {
  added = more_taken _ _ _ _ _ _ c.loop-record-test.true c.record-item.is c.loop-record.invariant.added c.in_ok-add_record.ensures.added;
  same = search rules;
}
