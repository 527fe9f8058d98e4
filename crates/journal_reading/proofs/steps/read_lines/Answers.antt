use Rattle.std.proofs.Common.{arith}
use Rattle.journal_reading.specs.Reads.{steps_in}
use Rattle.journal_reading.proofs.Reading.{goes_from, done_from, same_on, done_on}
use Rattle.journal_reading.proofs.steps.read_lines.Goals as goal

pub loop-cut-preserved : goal.loop-cut-preserved
loop-cut-preserved c =
    let goes =
    goes_from c.args.topology.now (steps_in c.loop-cut.progress) c.in-Some.cut.front.now c.read_one.result c.in-Ok-More.field-0 c.in-Ok-More.next c.in-Ok-More.is c.in-Ok-More.field-0-is
    (c.read_one.ensures c.args.topology.now c.loop-cut.invariant.of) in
    record {
      of = goes.of;
      same = same_on c.args.topology.now (steps_in c.loop-cut.progress) c.in-Ok-More.next c.in-Some.cut.front.now c.loop-cut.rest.now c.in-Some.cut.rest.now c.args.text.now c.in-Some.ensures.some goes c.loop-cut.invariant.same;
      line = omega (arith, goes.more, c.loop-cut.invariant.line);
      room = omega (arith, c.in-Some.ensures.shorter, c.loop-cut.invariant.room);
    }

pub returns-in-Ok-Done : goal.returns-in-Ok-Done
returns-in-Ok-Done c =
    done_on c.args.topology.now (steps_in c.loop-cut.progress) c.in-Ok-Done.journal.steps c.in-Some.cut.front.now c.loop-cut.rest.now c.in-Some.cut.rest.now c.args.text.now c.in-Some.ensures.some
    (done_from c.args.topology.now (steps_in c.loop-cut.progress) c.in-Some.cut.front.now c.read_one.result c.in-Ok-Done.field-0 c.in-Ok-Done.journal c.in-Ok-Done.is c.in-Ok-Done.field-0-is
    (c.read_one.ensures c.args.topology.now c.loop-cut.invariant.of))
    c.loop-cut.invariant.same
