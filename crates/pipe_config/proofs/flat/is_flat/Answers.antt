use Rattle.pipe_config.proofs.Leaves.{distinct_view}
use Rattle.pipe_config.proofs.flat.is_flat.Goals as goal

pub returns-clause-top : goal.returns-clause-top
returns-clause-top c = distinct_view c.args.table.now.entries c.iter-key-items.ensures.ordered
