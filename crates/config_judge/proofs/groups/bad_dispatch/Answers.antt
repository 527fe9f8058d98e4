use Rattle.std.proofs.Common.{◌∙◌}
use Rattle.config_judge.proofs.Steps.{dispatch_step}
use Rattle.config_judge.proofs.groups.bad_dispatch.Goals as goal

pub loop-i-preserved : goal.loop-i-preserved
loop-i-preserved c =
    rw c.sooner-found.ensures
    (dispatch_step c.args.batchers.now c.loop-i.i c.index-batchers-i.result c.loop-i.found c.in_ok-fault.fault c.loop-i-test.true c.index-batchers-i.is c.in_ok-fault.ensures
    ∙ c.loop-i.invariant)
