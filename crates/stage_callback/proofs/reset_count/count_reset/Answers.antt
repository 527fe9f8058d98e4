use Rattle.stage_callback.proofs.Resets.{counted_once}
use Rattle.stage_callback.proofs.reset_count.count_reset.Goals as goal

pub returns : goal.returns
returns c = counted_once c.args.resets.now c.saturating_add.result c.saturating_add.ensures
