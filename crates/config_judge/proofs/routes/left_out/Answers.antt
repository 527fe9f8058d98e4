use Rattle.std.proofs.Common.{◌∙◌, ap}
use Rattle.config_table.specs.Fault.{least}
use Rattle.config_judge.specs.Judge.{left_out_faults}
use Rattle.config_judge.proofs.Steps.{left_out_step}
use Rattle.config_judge.proofs.routes.left_out.Goals as goal

pub loop-i-preserved : goal.loop-i-preserved
loop-i-preserved c =
    rw c.sooner-found.ensures
    (left_out_step c.args.known.now c.args.steps.now c.args.batchers.now c.loop-i.i c.loop-i.found c.in_ok-fault.fault c.loop-i-test.true
    (c.in_ok-fault.ensures ∙ ap (λ is_out. least (left_out_faults c.loop-i.i is_out)) c.is_left_out.ensures)
    ∙ c.loop-i.invariant)
