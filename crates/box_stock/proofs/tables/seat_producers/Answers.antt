use Rattle.std.proofs.Common.{◌∙◌, arith}
use Rattle.stage_bodies.specs.Seen.{body_at}
use Rattle.stage_laws.proofs.Numbering.{numbered_topology}
use Rattle.edge_names.proofs.Openings.{here_at}
use Rattle.box_stock.proofs.Lending.{seated_more, seats_others, seated_all}
use Rattle.box_stock.proofs.tables.seat_producers.Goals as goal

pub seat-requires : goal.seat-requires
seat-requires g c =
    let topology = c.args.topology.now in
    let n = c.loop-spec.spec-index in
    let spec = c.spec-item.result in
    let here = here_at topology.stages c.as_slice-spec-items.result.now n spec c.as_slice-spec-items.ensures c.loop-spec-test.true c.spec-item.is in
    let numbered = numbered_topology topology c.requires.sound in
    let most = (numbered.within spec.no spec (numbered.found n spec here)).1 in
    omega (arith, most, numbered.few, c.requires.len, c.loop-spec.invariant.len)

pub loop-spec-preserved : goal.loop-spec-preserved
loop-spec-preserved g c =
    let look = g.B.Works.look in
    let topology = c.args.topology.now in
    let x = c.loop-spec.invariant in
    let n = c.loop-spec.spec-index in
    let spec = c.spec-item.result in
    let here = here_at topology.stages c.as_slice-spec-items.result.now n spec c.as_slice-spec-items.ensures c.loop-spec-test.true c.spec-item.is in
    let now = body_at look c.loop-spec.bodies.items in
    let new = body_at look c.seat.new.bodies.items in
    record {
      len = c.seat.ensures.len ∙ x.len;
      seated = seated_more topology n spec now new here c.seat.ensures.table x.seated;
      others = seats_others topology n spec (body_at look c.args.bodies.now.items) now new (numbered_topology topology c.requires.sound) here c.seat.ensures.table x.others;
    }

pub returns-clause-seated : goal.returns-clause-seated
returns-clause-seated g c =
    let topology = c.args.topology.now in
    seated_all topology c.loop-spec.spec-index (body_at g.B.Works.look c.loop-spec.bodies.items) (rw c.as_slice-spec-items.ensures at c.loop-spec-test.false) c.loop-spec.invariant.seated
