use Rattle.std.proofs.Common.{◌≡◌, ap, sym, ◌∙◌, subst}
use Rattle.std.specs.Prelude.{IsSome, option_map}
use Rattle.stage_bodies.specs.Seen.{body_at}
use Rattle.rate_gate.specs.Gate.{pace_of}
use Rattle.edge_names.specs.Gates.{pace_by, pace_of_stage}
use Rattle.edge_names.specs.Opened.{OpensOne}
use Rattle.edge_names.specs.Supplies.{fed, supplied_by}
use Rattle.edge_names.proofs.Seeing.{seen_by}
use Rattle.edge_names.proofs.Supplying.{some_fed}
use Rattle.edge_names.proofs.opening.open_stage.Goals as goal

pub supply_into-requires-clause-home : goal.supply_into-requires-clause-home
supply_into-requires-clause-home g c κs within = λ some.
    let spec = c.args.spec.now in
    let feed = g.S.Supply.feeds c.args.supply.now spec in
    let pace = pace_of_stage c.args.topology.now spec in
    c.requires.home (subst (λ r. IsSome (supplied_by r pace feed spec.edge)) (sym c.in-Producer.is) (some_fed pace feed some))

pub returns-in-Producer-clause-opens : goal.returns-in-Producer-clause-opens
returns-in-Producer-clause-opens g c =
    let seen = seen_by g.E.Edges g.E.Source.ByteSource g.E.Sink.ByteSink in
    let look = g.B.Works.look in
    let old = seen c.args.edges.now in
    let new = seen c.supply_into.new.edges in
    let start = body_at look c.args.bodies.now.items in
    let now = body_at look c.supply_into.new.bodies.items in
    let topology = c.args.topology.now in
    let spec = c.args.spec.now in
    let feed = g.S.Supply.feeds c.args.supply.now spec in
    let same : option_map pace_of c.gate_at-gate.result ≡ pace_of_stage topology spec = c.gate_at-gate.ensures.pace ∙ ap (λ n. pace_by topology.rate n spec.index) c.requires.counted in
    let opens = subst (λ p. OpensOne (fed p feed) c.args.at c.supply_into.result old new start now) same c.supply_into.ensures.opens in
    subst (λ r. OpensOne (supplied_by r (pace_of_stage topology spec) feed spec.edge) c.args.at c.supply_into.result old new start now) (sym c.in-Producer.is) opens
