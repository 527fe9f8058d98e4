use Rattle.pipe_top.proofs.Audits.{opened_back, opened_lost}
use Rattle.pipe_top.proofs.audit.judge_opened.Goals as goal

pub returns-in-Ok : goal.returns-in-Ok
returns-in-Ok g c = opened_back c.args.name.now c.args.topology.now _ _ _ _ c.judge_source-found.result _ c.judge_source-found.ensures c.in-Ok.ensures

pub returns-in-Err : goal.returns-in-Err
returns-in-Err g c = opened_lost c.args.name.now c.args.topology.now _ _ _ _ _ c.in-Err.ensures
