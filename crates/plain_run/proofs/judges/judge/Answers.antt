use Rattle.plain_run.proofs.Judging.{run_free}
use Rattle.plain_run.proofs.judges.judge.Goals as goal

pub judge_free-requires-clause-stands : goal.judge_free-requires-clause-stands
judge_free-requires-clause-stands c = run_free c.args.core.now c.args.works.now c.args.after c.requires.run c.in-Free.is
