use Rattle.std.proofs.Common.{◌≡◌, ◌+◌, ◌++◌, ◌∷◌, [], Some, length, map, sym, subst, ap, ◌∙◌, arith}
use Rattle.std.specs.Prelude.{option_map}
use Rattle.std.proofs.lemmas.List.{length-append, map-append}
use Rattle.rate_gate.specs.contracts.source.GatedSourceByteSource.TheImpl.{ghosts}
use Rattle.stage_bodies.specs.Seen.{source_seen}
use Rattle.edge_names.specs.Supplies.{feed_at, feed_calls, merged_names}
use Rattle.edge_names.specs.Opened.{Asks, FailsToOpen, IfCutOff, IfFailed, IsOneCut, IsOneFailed, IsSupplied}
use Rattle.edge_names.proofs.Seeing.{seen_by}
use Rattle.edge_names.proofs.Cuts.{cut_uncalled}
use Rattle.edge_names.proofs.Merges.{AreOpenedUpTo, given_up_cut, given_up_failed, is_merge, name_at_place, opened_next}
use Rattle.edge_names.proofs.merging.open_streams.Given.{Over}
use Rattle.edge_names.proofs.merging.open_streams.Goals.{After-give_up}
use Rattle.edge_names.proofs.merging.open_streams.Goals as goal

pub returns-in_default-clause-cut_off : goal.returns-in_default-clause-cut_off
returns-in_default-clause-cut_off g c = cut_uncalled _ _

-- what came of giving up
given_up : (g : Over) (c : After-give_up g) →
    let calls = feed_calls (g.S.Supply.feeds c.args.supply.now c.args.spec.now) in
    let seen = seen_by g.E.Edges g.E.Source.ByteSource g.E.Sink.ByteSink in
    IfFailed c.give_up.result (λ n. IsOneFailed calls n (seen c.args.edges.now) (seen c.give_up.new.edges)) × IfCutOff c.give_up.result (IsOneCut calls (seen c.args.edges.now) (seen c.give_up.new.edges))
given_up g c =
    let gated = map (source_seen (ghosts g.row.S-Source g.S.Source.ByteSource g.S.Source.ByteSource-dict)) c.loop-place.sources.items in
    let seen = seen_by g.E.Edges g.E.Source.ByteSource g.E.Sink.ByteSink in
    let feed = g.S.Supply.feeds c.args.supply.now c.args.spec.now in
    let names = merged_names feed in
    let merge = is_merge feed c.args.count c.requires.merged in
    let place = c.loop-place.place in
    let name = name_at_place names place c.args.count merge.1 c.loop-place-test.true in
    let a = seen c.args.edges.now in
    let b = seen c.loop-place.edges in
    let after = seen c.supply.new.edges in
    let d = seen c.give_up.new.edges in
    let opened = c.loop-place.invariant.opened in
    let fails = subst (λ f. IfFailed c.in-Err.unopened (λ n. FailsToOpen (feed_at f place) n b after)) merge.0 c.in-Err.ensures.failed in
    subst (λ f. IfFailed c.give_up.result (λ n. IsOneFailed (feed_calls f) n a d) × IfCutOff c.give_up.result (IsOneCut (feed_calls f) a d)) (sym merge.0) (
      given_up_failed names place name.0 gated c.in-Err.unopened c.give_up.result a b after d name.1 opened fails c.give_up.ensures.failed,
      given_up_cut names place name.0 gated c.in-Err.unopened c.give_up.result a b after d name.1 opened fails c.in-Err.ensures.cut_off c.give_up.ensures.cut_off,
    )

pub returns-in-Err-clause-failed : goal.returns-in-Err-clause-failed
returns-in-Err-clause-failed g c = (given_up g (goal.at.returns-in-Err-clause-failed g c).After-give_up).0

pub returns-in-Err-clause-cut_off : goal.returns-in-Err-clause-cut_off
returns-in-Err-clause-cut_off g c = (given_up g (goal.at.returns-in-Err-clause-cut_off g c).After-give_up).1

pub loop-place-preserved : goal.loop-place-preserved
loop-place-preserved g c =
    let seen = seen_by g.E.Edges g.E.Source.ByteSource g.E.Sink.ByteSink in
    let gated = source_seen (ghosts g.row.S-Source g.S.Source.ByteSource g.S.Source.ByteSource-dict) in
    let source = source_seen g.S.Source.ByteSource in
    let feed = g.S.Supply.feeds c.args.supply.now c.args.spec.now in
    let names = merged_names feed in
    let merge = is_merge feed c.args.count c.requires.merged in
    let x = c.loop-place.invariant in
    let place = c.loop-place.place in
    let name = name_at_place names place c.args.count merge.1 c.loop-place-test.true in
    let a = seen c.args.edges.now in
    let b = seen c.loop-place.edges in
    let after = seen c.supply.new.edges in
    let before = c.loop-place.sources.items in
    let one = c.ungated.result in
    let asks = subst (λ f. Asks (feed_calls (feed_at f place)) b after) merge.0 c.in-Ok-Some.ensures.asks in
    let supplied = subst (λ o. IsSupplied b (feed_at feed place) (option_map source o)) c.in-Ok-Some.field-0-is c.in-Ok-Some.ensures.gives in
    let own = subst (λ y. IsSupplied b (feed_at feed place) (Some y)) (sym c.ungated.ensures) supplied in
    let gives = subst (λ f. IsSupplied b (feed_at f place) (Some (gated one))) merge.0 own in
    let opened = opened_next names place name.0 (map gated before) (gated one) a b after name.1 x.opened asks gives in
    let items : c.push_reserved.new.self.items ≡ before ++ one ∷ [] = c.push_reserved.ensures.items in
    let more = ap length items ∙ length-append before (one ∷ []) in
    let len = x.len in
    record {
      len = omega (arith, more, len);
      room = rw c.push_reserved.ensures.capacity x.room;
      opened = subst (λ sources. AreOpenedUpTo names (place + 1) sources a after) (sym (ap (map gated) items ∙ map-append gated before (one ∷ []))) opened;
    }
