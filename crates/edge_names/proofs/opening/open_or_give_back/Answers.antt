use Rattle.std.proofs.Common.{suc, length}
use Rattle.std.specs.Prelude.{option_map}
use Rattle.stage_bodies.specs.Seen.{body_at, line_seen}
use Rattle.edge_names.specs.Supplies.{at_paces}
use Rattle.edge_names.specs.Controls.{control_call}
use Rattle.edge_names.specs.Opened.{one}
use Rattle.edge_names.proofs.Seeing.{seen_by}
use Rattle.edge_names.proofs.Undoes.{all_parts, opened_from, short_any, short_by, short_first_by, undone_by, undone_first}
use Rattle.edge_names.proofs.opening.open_or_give_back.Goals as goal

pub returns-in-Ok-open_stages-clause-opened : goal.returns-in-Ok-open_stages-clause-opened
returns-in-Ok-open_stages-clause-opened g c =
    let seen = seen_by g.E.Edges g.E.Source.ByteSource g.E.Sink.ByteSink in
    let topology = c.args.topology.now in
    opened_from (at_paces topology (g.S.Supply.feeds c.args.supply.now)) topology (length topology.stages) (one (control_call topology.control)) (seen c.args.edges.now) (seen c.open_control.new.edges)
    (body_at g.B.Works.look c.args.bodies.now.items) (body_at g.B.Works.look c.open_stages.new.bodies.items) c.in-Ok.ensures.opened.asks c.in-Ok-open_stages.ensures.opened

pub returns-in-Ok-give_back-clause-undone : goal.returns-in-Ok-give_back-clause-undone
returns-in-Ok-give_back-clause-undone g c =
    let seen = seen_by g.E.Edges g.E.Source.ByteSource g.E.Sink.ByteSink in
    undone_by (at_paces c.args.topology.now (g.S.Supply.feeds c.args.supply.now)) c.in-Err-open_stages.unopened c.args.topology.now (option_map (line_seen g.E.Source.ByteSource) c.in-Ok.control)
    (seen c.args.edges.now) (seen c.open_control.new.edges) (seen c.open_stages.new.edges) (seen c.give_back.new.edges) (body_at g.B.Works.look c.args.bodies.now.items)
    (body_at g.B.Works.look c.open_stages.new.bodies.items) c.in-Ok.ensures.opened c.in-Err-open_stages.ensures.failed c.in-Ok-give_back.ensures.back

pub returns-in-Ok-give_back-clause-in_part : goal.returns-in-Ok-give_back-clause-in_part
returns-in-Ok-give_back-clause-in_part g c =
    let feeds = at_paces c.args.topology.now (g.S.Supply.feeds c.args.supply.now) in
    let seen = seen_by g.E.Edges g.E.Source.ByteSource g.E.Sink.ByteSink in
    let topology = c.args.topology.now in
    let control = option_map (line_seen g.E.Source.ByteSource) c.in-Ok.control in
    let opened = body_at g.B.Works.look c.open_stages.new.bodies.items in
    let failed = seen c.open_stages.new.edges in
    let new = seen c.give_back.new.edges in
    short_by feeds c.in-Err-open_stages.unopened topology control (suc (length topology.stages)) 0 (seen c.args.edges.now) (seen c.open_control.new.edges) failed new
    (body_at g.B.Works.look c.args.bodies.now.items) opened c.in-Ok.ensures.opened c.in-Err-open_stages.ensures.cut_off (all_parts feeds topology control opened failed new c.in-Ok-give_back.ensures.back)

pub returns-in-Err-give_back-clause-in_part : goal.returns-in-Err-give_back-clause-in_part
returns-in-Err-give_back-clause-in_part g c =
    let seen = seen_by g.E.Edges g.E.Source.ByteSource g.E.Sink.ByteSink in
    let part = c.in-Err-give_back.ensures.in_part in
    short_any (at_paces c.args.topology.now (g.S.Supply.feeds c.args.supply.now)) c.in-Err-open_stages.unopened c.args.topology.now (option_map (line_seen g.E.Source.ByteSource) c.in-Ok.control) part.parts part.more
    (seen c.args.edges.now) (seen c.open_control.new.edges) (seen c.open_stages.new.edges) (seen c.give_back.new.edges) (body_at g.B.Works.look c.args.bodies.now.items)
    (body_at g.B.Works.look c.open_stages.new.bodies.items) c.in-Ok.ensures.opened c.in-Err-open_stages.ensures.failed c.in-Err-open_stages.ensures.cut_off part.some_left part.back

pub returns-in-Err-clause-undone : goal.returns-in-Err-clause-undone
returns-in-Err-clause-undone g c =
    let seen = seen_by g.E.Edges g.E.Source.ByteSource g.E.Sink.ByteSink in
    undone_first (at_paces c.args.topology.now (g.S.Supply.feeds c.args.supply.now)) c.in-Err.unopened c.args.topology.now (seen c.args.edges.now) (seen c.open_control.new.edges)
    (body_at g.B.Works.look c.args.bodies.now.items) c.in-Err.ensures.failed

pub returns-in-Err-clause-in_part : goal.returns-in-Err-clause-in_part
returns-in-Err-clause-in_part g c =
    let seen = seen_by g.E.Edges g.E.Source.ByteSource g.E.Sink.ByteSink in
    short_first_by (at_paces c.args.topology.now (g.S.Supply.feeds c.args.supply.now)) c.in-Err.unopened c.args.topology.now (seen c.args.edges.now) (seen c.open_control.new.edges)
    (body_at g.B.Works.look c.args.bodies.now.items) c.in-Err.ensures.cut_off
