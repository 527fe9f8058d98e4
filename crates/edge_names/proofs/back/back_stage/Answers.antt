use Rattle.std.proofs.Common.{sym, subst}
use Rattle.std.specs.Prelude.{OnOk, OnErr}
use Rattle.rate_gate.specs.contracts.source.GatedSourceByteSource.TheImpl.{ghosts}
use Rattle.stage_bodies.specs.Seen.{body_at, sources_seen}
use Rattle.edge_names.specs.Supplies.{fed, supplied_by}
use Rattle.edge_names.specs.Returned.{GivesOff, IsBackUpTo, IsCalm, named_sink, named_source, source_in}
use Rattle.edge_names.proofs.Seeing.{seen_by}
use Rattle.edge_names.proofs.Returns.{calm_none}
use Rattle.edge_names.proofs.Supplying.{calm_fed, calm_sunk, none_stood, off_feed, off_none, off_written, up_to_feed, up_to_one}
use Rattle.edge_names.proofs.back.back_stage.Goals as goal

pub returns-in-Some-clause-back : goal.returns-in-Some-clause-back
returns-in-Some-clause-back g c = λ paces.
    let seen = seen_by g.E.Edges g.E.Source.ByteSource g.E.Sink.ByteSink in
    let spec = c.args.spec.now in
    let feed = g.S.Supply.feeds c.args.supply.now spec in
    let body = body_at g.B.Works.look c.args.bodies.now.items c.args.at in
    let out = sources_seen (ghosts g.row.S-Source g.S.Source.ByteSource g.S.Source.ByteSource-dict) c.in-Some.sources in
    let old = seen c.args.edges.now in
    let new = seen c.back_sources.new.edges in
    subst (λ r. OnOk c.back_sources.result (GivesOff (named_source (supplied_by r (paces spec) feed spec.edge) body) (named_sink (supplied_by r (paces spec) feed spec.edge) body) old new)) (sym c.in-Producer.is)
    (off_feed c.back_sources.result (paces spec) feed out body old new c.in-Some.ensures.out c.back_sources.ensures.back)

pub returns-in-Some-clause-in_part : goal.returns-in-Some-clause-in_part
returns-in-Some-clause-in_part g c = λ paces.
    let seen = seen_by g.E.Edges g.E.Source.ByteSource g.E.Sink.ByteSink in
    let spec = c.args.spec.now in
    let feed = g.S.Supply.feeds c.args.supply.now spec in
    let body = body_at g.B.Works.look c.args.bodies.now.items c.args.at in
    let out = sources_seen (ghosts g.row.S-Source g.S.Source.ByteSource g.S.Source.ByteSource-dict) c.in-Some.sources in
    let old = seen c.args.edges.now in
    let new = seen c.back_sources.new.edges in
    subst (λ r. OnErr c.back_sources.result (IsBackUpTo (named_source (supplied_by r (paces spec) feed spec.edge) body) old new)) (sym c.in-Producer.is)
    (up_to_feed c.back_sources.result (paces spec) feed out body old new c.in-Some.ensures.out c.back_sources.ensures.in_part)

pub returns-in-Some-clause-calm : goal.returns-in-Some-clause-calm
returns-in-Some-clause-calm g c = λ paces.
    let spec = c.args.spec.now in
    let feed = g.S.Supply.feeds c.args.supply.now spec in
    let body = body_at g.B.Works.look c.args.bodies.now.items c.args.at in
    let out = sources_seen (ghosts g.row.S-Source g.S.Source.ByteSource g.S.Source.ByteSource-dict) c.in-Some.sources in
    subst (λ r. OnOk c.back_sources.result (IsCalm (supplied_by r (paces spec) feed spec.edge) (source_in body))) (sym c.in-Producer.is)
    (calm_fed c.back_sources.result (paces spec) feed out body c.in-Some.ensures.out c.back_sources.ensures.calm)

pub returns-in-None-clause-back : goal.returns-in-None-clause-back
returns-in-None-clause-back g c = λ paces.
    let seen = seen_by g.E.Edges g.E.Source.ByteSource g.E.Sink.ByteSink in
    let spec = c.args.spec.now in
    let feed = g.S.Supply.feeds c.args.supply.now spec in
    let body = body_at g.B.Works.look c.args.bodies.now.items c.args.at in
    let old = seen c.args.edges.now in
    subst (λ r. GivesOff (named_source (supplied_by r (paces spec) feed spec.edge) body) (named_sink (supplied_by r (paces spec) feed spec.edge) body) old old) (sym c.in-Producer.is)
    (off_none (paces spec) feed body old c.in-None.ensures.out)

pub returns-in-None-clause-calm : goal.returns-in-None-clause-calm
returns-in-None-clause-calm g c = λ paces.
    let spec = c.args.spec.now in
    let feed = g.S.Supply.feeds c.args.supply.now spec in
    let body = body_at g.B.Works.look c.args.bodies.now.items c.args.at in
    subst (λ r. IsCalm (supplied_by r (paces spec) feed spec.edge) (source_in body)) (sym c.in-Producer.is) (calm_none (fed (paces spec) feed) (source_in body) (none_stood body c.in-None.ensures.out))

pub returns-in-BatchProcessor-clause-in_part : goal.returns-in-BatchProcessor-clause-in_part
returns-in-BatchProcessor-clause-in_part g c = λ paces. up_to_one c.back_sink_of.result _ _ _ c.back_sink_of.ensures.nothing

pub returns-in-BatchProcessor-clause-back : goal.returns-in-BatchProcessor-clause-back
returns-in-BatchProcessor-clause-back g c = λ paces.
    let seen = seen_by g.E.Edges g.E.Source.ByteSource g.E.Sink.ByteSink in
    let spec = c.args.spec.now in
    let feed = g.S.Supply.feeds c.args.supply.now spec in
    let body = body_at g.B.Works.look c.args.bodies.now.items c.args.at in
    let old = seen c.args.edges.now in
    let new = seen c.back_sink_of.new.edges in
    subst (λ r. OnOk c.back_sink_of.result (GivesOff (named_source (supplied_by r (paces spec) feed spec.edge) body) (named_sink (supplied_by r (paces spec) feed spec.edge) body) old new)) (sym c.in-BatchProcessor.is)
    (off_written c.back_sink_of.result spec.edge body old new c.back_sink_of.ensures.back)

pub returns-in-BatchProcessor-clause-calm : goal.returns-in-BatchProcessor-clause-calm
returns-in-BatchProcessor-clause-calm g c = λ paces.
    let spec = c.args.spec.now in
    let feed = g.S.Supply.feeds c.args.supply.now spec in
    let body = body_at g.B.Works.look c.args.bodies.now.items c.args.at in
    subst (λ r. OnOk c.back_sink_of.result (IsCalm (supplied_by r (paces spec) feed spec.edge) (source_in body))) (sym c.in-BatchProcessor.is) (calm_sunk c.back_sink_of.result spec.edge (source_in body))
