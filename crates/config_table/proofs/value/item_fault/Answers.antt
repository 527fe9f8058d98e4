use Rattle.std.proofs.Common.{◌∙◌, ap}
use Rattle.config_table.specs.Fault.{least, at_place}
use Rattle.config_table.specs.Values.{flaw_faults}
use Rattle.config_table.proofs.Items.{item_step}
use Rattle.config_table.proofs.value.item_fault.Goals as goal

pub loop-i-preserved : goal.loop-i-preserved
loop-i-preserved c =
    rw c.sooner-found.ensures
    (item_step c.args.path.now c.args.shape c.loop-i.i c.args.items.now c.index-items-i.result c.loop-i.found c.in_ok-fault.fault
    c.loop-i-test.true c.index-items-i.is
    (c.in_ok-fault.ensures ∙ ap (λ flaw. least (flaw_faults (at_place c.args.path.now c.loop-i.i) flaw)) c.text_flaw.ensures)
    ∙ c.loop-i.invariant)
