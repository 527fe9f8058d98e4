use Rattle.topology_needs.proofs.Fits.{need_fits}
use Rattle.topology_needs.proofs.needs.need.Goals as goal

pub posts_of_kind-requires : goal.posts_of_kind-requires
posts_of_kind-requires c = rw c.as_slice.ensures (need_fits c.args.topology.now c.args.kind c.requires.sound)
