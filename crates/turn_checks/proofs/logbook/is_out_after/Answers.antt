use Rattle.std.proofs.Common.{arith}
use Rattle.pipe_journal.specs.Views.{step_seen}
use Rattle.turn_checks.proofs.Outs.{out_more, out_whole}
use Rattle.turn_checks.proofs.logbook.is_out_after.Goals as goal

pub loop-at-preserved : goal.loop-at-preserved
loop-at-preserved c =
    out_more c.args.journal.now.steps c.loop-at.at (step_seen c.view.result) c.args.post c.loop-at.out _ c.view.ensures c.loop-at.invariant c.is_out_next-out.ensures

pub returns : goal.returns
returns c = out_whole c.loop-at.at c.args.journal.now.steps c.args.post c.loop-at.out (omega arith) c.loop-at.invariant
