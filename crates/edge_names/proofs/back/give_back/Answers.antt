use Rattle.std.specs.Prelude.{option_map}
use Rattle.stage_bodies.specs.Seen.{body_at, line_seen}
use Rattle.edge_names.specs.Supplies.{at_paces}
use Rattle.edge_names.proofs.Seeing.{seen_by}
use Rattle.edge_names.proofs.Returns.{back_first, none_back, none_first, part_back_on}
use Rattle.edge_names.proofs.back.give_back.Goals as goal

pub returns-in-Ok-clause-in_part : goal.returns-in-Ok-clause-in_part
returns-in-Ok-clause-in_part g c =
    let feeds = at_paces c.args.topology.now (g.S.Supply.feeds c.args.supply.now) in
    let seen = seen_by g.E.Edges g.E.Source.ByteSource g.E.Sink.ByteSink in
    let control = option_map (line_seen g.E.Source.ByteSource) c.args.control in
    part_back_on feeds (Unit {0}) _ c.give_back_stages.result c.args.topology.now control (body_at g.B.Works.look c.args.bodies.now.items) (seen c.args.edges.now) (seen c.back_control.new.edges) (seen c.give_back_stages.new.edges)
    c.in-Ok.ensures.back c.give_back_stages.ensures.in_part

pub returns-in-Err-clause-in_part : goal.returns-in-Err-clause-in_part
returns-in-Err-clause-in_part g c =
    let feeds = at_paces c.args.topology.now (g.S.Supply.feeds c.args.supply.now) in
    let seen = seen_by g.E.Edges g.E.Source.ByteSource g.E.Sink.ByteSink in
    let control = option_map (line_seen g.E.Source.ByteSource) c.args.control in
    none_back feeds c.args.topology.now control (body_at g.B.Works.look c.args.bodies.now.items) (seen c.args.edges.now) (seen c.back_control.new.edges) c.in-Err.ensures.nothing

pub returns-in-Ok-clause-first : goal.returns-in-Ok-clause-first
returns-in-Ok-clause-first g c =
    let feeds = at_paces c.args.topology.now (g.S.Supply.feeds c.args.supply.now) in
    let seen = seen_by g.E.Edges g.E.Source.ByteSource g.E.Sink.ByteSink in
    let control = option_map (line_seen g.E.Source.ByteSource) c.args.control in
    back_first c.give_back_stages.result feeds c.args.topology.now control (body_at g.B.Works.look c.args.bodies.now.items) _ _ (seen c.args.edges.now) (seen c.back_control.new.edges) (seen c.give_back_stages.new.edges)
    c.in-Ok.ensures.back c.give_back_stages.ensures.back c.give_back_stages.ensures.in_part

pub returns-in-Err-clause-first : goal.returns-in-Err-clause-first
returns-in-Err-clause-first g c =
    let seen = seen_by g.E.Edges g.E.Source.ByteSource g.E.Sink.ByteSink in
    none_first c.args.topology.now.control (option_map (line_seen g.E.Source.ByteSource) c.args.control) (seen c.args.edges.now) (seen c.back_control.new.edges) c.in-Err.ensures.nothing
