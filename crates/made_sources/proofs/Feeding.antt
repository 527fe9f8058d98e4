-- Every producer is fed.
use Rattle.std.proofs.Common.{ℕ, refl}
use Rattle.pipe_types.specs.declared.topology.Topology.{Topology}
use Rattle.edge_names.specs.Supplies.{FeedsProducers}
use Rattle.made_sources.specs.Feeds.{made_feeds}

pub all_fed : (seed count producers : ℕ) (topology : Topology) → FeedsProducers (made_feeds seed count producers) topology
all_fed seed count producers topology s spec found is = refl
