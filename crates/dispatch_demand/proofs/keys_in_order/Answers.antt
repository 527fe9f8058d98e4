use Rattle.std.proofs.Common.{List, subst}
use Rattle.std.specs.List.Sorted.{IsPermutation}
use Rattle.dispatch_demand.proofs.Places.{Key}
use Rattle.dispatch_demand.proofs.keys_in_order.Goals as goal

pub returns-clause-same : goal.returns-clause-same
returns-clause-same c = subst (λ (keys : List Key). IsPermutation keys c.sort_unstable.new.self.items) c.in_ok-keys.ensures c.sort_unstable.ensures.permutation
