use Rattle.std.specs.Prelude.{◌-◌}
use Rattle.core_state.proofs.FirstPairs.{demand_fits, stands_at}
use Rattle.stage_laws.proofs.Numbering.{numbered_topology}
use Rattle.core_restarts.proofs.Pairs.{pair_renewed}
use Rattle.core_restarts.proofs.renewing.renew_pair.Goals as goal

pub renew-requires-clause-min_below_max : goal.renew-requires-clause-min_below_max
renew-requires-clause-min_below_max c =
    let topology = c.args.topology.now in
    let consumer = c.args.consumer.now in
    (demand_fits topology (consumer.no.0 - 1) consumer c.args.producer c.requires.sound (stands_at topology consumer.no consumer (numbered_topology topology c.requires.sound) c.requires.there) c.requires.fed).0

pub renew-requires-clause-max_in_range : goal.renew-requires-clause-max_in_range
renew-requires-clause-max_in_range c =
    let topology = c.args.topology.now in
    let consumer = c.args.consumer.now in
    (demand_fits topology (consumer.no.0 - 1) consumer c.args.producer c.requires.sound (stands_at topology consumer.no consumer (numbered_topology topology c.requires.sound) c.requires.there) c.requires.fed).1

pub returns : goal.returns
returns c = pair_renewed c.args.topology.now c.args.subs.now c.renew.new.self c.args.consumer.now c.args.producer c.requires.there c.requires.closed.had c.renew.ensures.renewed
