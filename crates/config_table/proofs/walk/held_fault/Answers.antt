use Rattle.std.proofs.Common.{◌∙◌}
use Rattle.toml.specs.View.{members_view}
use Rattle.config_table.proofs.Items.{row_step}
use Rattle.config_table.proofs.walk.held_fault.Goals as goal

pub loop-row-preserved : goal.loop-row-preserved
loop-row-preserved c =
    rw c.sooner-found.ensures
    (row_step c.args.version c.args.path.now (members_view c.args.table.now.entries) c.loop-row.row-index c.args.rows.now _ c.loop-row.found c.in_ok-fault.fault
    c.loop-row-test.true c.in_ok-fault.ensures
    ∙ c.loop-row.invariant)
