use Rattle.std.proofs.Common.{◌∙◌, ap}
use Rattle.toml.specs.Data.{as_table}
use Rattle.toml.specs.View.{view}
use Rattle.config_table.specs.Fault.{least}
use Rattle.config_table.specs.Walk.{table_faults}
use Rattle.config_table.proofs.Items.{each_step}
use Rattle.config_table.proofs.walk.each_fault.Goals as goal

pub loop-i-preserved : goal.loop-i-preserved
loop-i-preserved c =
    rw c.sooner-found.ensures
    (each_step c.args.version c.args.section c.args.path.now c.loop-i.i c.args.items.now c.index-items-i.result c.loop-i.found c.in_ok-fault.fault
    c.loop-i-test.true c.index-items-i.is
    (c.in_ok-fault.ensures ∙ ap (λ path. least (table_faults c.args.version c.args.section path (as_table (view c.index-items-i.result)))) (c.as_str.ensures ∙ c.in_ok-place.ensures))
    ∙ c.loop-i.invariant)
