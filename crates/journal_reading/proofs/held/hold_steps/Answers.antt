use Rattle.std.proofs.Common.{arith}
use Rattle.pipe_journal.specs.Views.{step_seen}
use Rattle.reading_laws.specs.Fields.{IsHeld}
use Rattle.journal_reading.proofs.Fronts.{each_next, each_whole}
use Rattle.journal_reading.proofs.held.hold_steps.Goals as goal

pub loop-at-preserved : goal.loop-at-preserved
loop-at-preserved c = each_next IsHeld c.args.journal.now.steps c.loop-at.at (step_seen c.view.result) (omega arith) c.view.ensures c.hold_step.ensures c.loop-at.invariant

pub returns-clause-held : goal.returns-clause-held
returns-clause-held c = each_whole IsHeld c.args.journal.now.steps c.loop-at.at (omega (arith, c.len-count.ensures, c.loop-at-test.false)) c.loop-at.invariant

pub returns-clause-countable : goal.returns-clause-countable
returns-clause-countable c = omega (arith, c.len-count.ensures, c.len-count.type_inv)
