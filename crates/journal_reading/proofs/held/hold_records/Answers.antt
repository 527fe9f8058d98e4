use Rattle.std.proofs.Common.{arith}
use Rattle.pipe_journal.specs.Items.{records_seen}
use Rattle.reading_laws.specs.Fields.{AreBytes}
use Rattle.journal_reading.proofs.Fronts.{each_more, each_taken}
use Rattle.journal_reading.proofs.held.hold_records.Goals as goal

pub loop-at-preserved : goal.loop-at-preserved
loop-at-preserved c = each_more AreBytes (records_seen c.args.records) c.loop-at.at c.item.result.now c.item.ensures c.hold_bytes.ensures c.loop-at.invariant

pub returns : goal.returns
returns c = each_taken AreBytes (records_seen c.args.records) c.loop-at.at (omega (arith, c.len-at-end.ensures, c.loop-at-test.false)) c.loop-at.invariant
