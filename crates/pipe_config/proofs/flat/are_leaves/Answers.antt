use Rattle.pipe_config.proofs.Leaves.{distinct_view}
use Rattle.pipe_config.proofs.flat.are_leaves.Goals as goal

pub returns-then-not-is_leaf-clause-distinct : goal.returns-then-not-is_leaf-clause-distinct
returns-then-not-is_leaf-clause-distinct c = distinct_view c.args.table.now.entries c.iter-key-items.ensures.ordered

pub returns-clause-distinct : goal.returns-clause-distinct
returns-clause-distinct c = distinct_view c.args.table.now.entries c.iter-key-items.ensures.ordered
