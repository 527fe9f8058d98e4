use Rattle.edge_names.proofs.Openings.{here_at}
use Rattle.box_stock.proofs.Located.{home_here, home_on, no_home}
use Rattle.box_stock.proofs.homes.home_of.Goals as goal

pub returns-then-left-posts : goal.returns-then-left-posts
returns-then-left-posts c =
    let here = here_at c.args.topology.now.stages c.as_slice-spec-items.result.now c.loop-spec.spec-index c.spec-item.result c.as_slice-spec-items.ensures c.loop-spec-test.true c.spec-item.is in
    home_here c.args.kind c.args.topology.now c.loop-spec.spec-index c.loop-spec.left c.args.before c.posts_here-posts.result c.spec-item.result here c.posts_here-posts.ensures c.if-left-posts.true c.loop-spec.invariant

pub loop-spec-preserved : goal.loop-spec-preserved
loop-spec-preserved c =
    let here = here_at c.args.topology.now.stages c.as_slice-spec-items.result.now c.loop-spec.spec-index c.spec-item.result c.as_slice-spec-items.ensures c.loop-spec-test.true c.spec-item.is in
    home_on c.args.kind c.args.topology.now c.loop-spec.spec-index c.loop-spec.left c.args.before c.posts_here-posts.result c.spec-item.result here c.posts_here-posts.ensures c.if-left-posts.false c.loop-spec.invariant

pub returns : goal.returns
returns c =
    no_home c.args.kind c.args.topology.now c.loop-spec.spec-index c.loop-spec.left c.args.before (rw c.as_slice-spec-items.ensures at c.loop-spec-test.false) c.loop-spec.invariant
