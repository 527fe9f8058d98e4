use Rattle.topology_needs.proofs.Fits.{subscriptions_fit}
use Rattle.topology_needs.proofs.feeding.subscriptions.Goals as goal

pub pairs-requires : goal.pairs-requires
pairs-requires c = rw c.as_slice.ensures (subscriptions_fit c.args.topology.now c.requires.sound)
