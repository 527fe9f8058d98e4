use Rattle.std.proofs.Common.{◌∙◌, length, subst, sym}
use Rattle.pipe_types.specs.declared.topology.Topology.{Topology}
use Rattle.stage_bodies.specs.Seen.{body_at, source_seen, sink_seen}
use Rattle.edge_names.specs.Seen.{edges_seen}
use Rattle.edge_names.specs.Supplies.{at_paces, by_name}
use Rattle.edge_names.specs.Opened.{AreHome, AreOpened}
use Rattle.edge_names.proofs.Gating.{sound_paces}
use Rattle.box_stock.proofs.Filled.{filled, homes, names_feed}
use Rattle.program_checks.proofs.lengths.run_bodies.Goals as goal

pub open_or_give_back-requires-clause-home : goal.open_or_give_back-requires-clause-home
open_or_give_back-requires-clause-home g c κs within =
    let origin = by_name c.of_file-supply.result.splits in
    let topology = c.args.topology in
    let table = body_at g.B.Works.look c.args.bodies.items in
    subst (λ (t : Topology). AreHome (at_paces t origin) t table) (sym (c.topology-2.ensures ∙ c.in-Ok.ensures.topology)) (homes (at_paces topology origin) topology table c.requires.handed)

pub new-pipe-requires-clause-filled : goal.new-pipe-requires-clause-filled
new-pipe-requires-clause-filled g c =
    let splits = c.of_file-supply.result.splits in
    let origin = by_name splits in
    let e = g.E.Edges in
    let k = g.E.Sink.ByteSink in
    let seen = edges_seen e.told e.named e.asked e.faults e.sources_back e.sinks_back (source_seen g.E.Source.ByteSource) (sink_seen k.told k.held k.faults) in
    let topology = c.args.topology in
    let table = body_at g.B.Works.look c.args.bodies.items in
    let opened = body_at g.B.Works.look c.open_or_give_back.new.bodies.items in
    let same = c.topology-2.ensures ∙ c.in-Ok.ensures.topology in
    let opens = subst (λ (t : Topology). AreOpened (at_paces t origin) t (length t.stages) (seen c.args.edges.now) table opened) same c.in-Ok-open_or_give_back.ensures.opened in
    rw c.in-Ok.ensures.topology (filled (at_paces topology origin) topology (seen c.args.edges.now) table opened c.requires.sound (names_feed splits topology c.requires.sound) (sound_paces topology c.requires.sound) c.requires.handed opens)
