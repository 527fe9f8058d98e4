use Rattle.std.proofs.Common.{◌≡◌, ◌+◌, ◌++◌, ◌∷◌, [], length, map, reverse, ap, ◌∙◌, arith, rules}
use Rattle.std.proofs.lemmas.List.{length-append}
use Rattle.rate_gate.specs.contracts.source.GatedSourceByteSource.TheImpl.{ghosts}
use Rattle.stage_bodies.specs.Seen.{source_seen}
use Rattle.edge_names.specs.Supplies.{merged_names}
use Rattle.edge_names.proofs.Seeing.{seen_by}
use Rattle.edge_names.proofs.Merges.{back_all, back_begin, back_turn, back_up_to, is_some_merge}
use Rattle.edge_names.proofs.merging.back_streams.Goals as goal

pub loop-gated-init : goal.loop-gated-init
loop-gated-init g c =
    let seen = seen_by g.E.Edges g.E.Source.ByteSource g.E.Sink.ByteSink in
    let names = merged_names (g.S.Supply.feeds c.args.supply.now c.args.spec.now) in
    let gated = source_seen (ghosts g.row.S-Source g.S.Source.ByteSource g.S.Source.ByteSource-dict) in
    let same = c.reverse.ensures.len in
    record {
      count = omega (arith, same);
      back = back_begin names gated c.args.sources.items c.reverse.new.self.items (seen c.args.edges.now) c.reverse.ensures.items;
    }

pub loop-gated-preserved : goal.loop-gated-preserved
loop-gated-preserved g c =
    let seen = seen_by g.E.Edges g.E.Source.ByteSource g.E.Sink.ByteSink in
    let feed = g.S.Supply.feeds c.args.supply.now c.args.spec.now in
    let gated = source_seen (ghosts g.row.S-Source g.S.Source.ByteSource g.S.Source.ByteSource-dict) in
    let x = c.loop-gated.invariant in
    let all = c.loop-gated.rest.items in
    let rest = c.pop.new.self.items in
    let o = c.in-Some.gated in
    let parts : all ≡ rest ++ o ∷ [] = rw c.in-Some.is at c.pop.ensures.items in
    let count : length all ≡ length rest + 1 = ap length parts ∙ length-append rest (o ∷ []) in
    let before = x.count in
    record {
      count = omega (arith, before, count);
      back = back_turn feed gated c.args.sources.items all rest o c.loop-gated.place _ (seen c.args.edges.now) (seen c.loop-gated.edges) (seen c.take_back.new.edges) (is_some_merge feed c.requires.merged) parts x.back c.take_off.ensures c.in-Ok.ensures.back;
    }

pub returns-in-Err-clause-in_part : goal.returns-in-Err-clause-in_part
returns-in-Err-clause-in_part g c =
    let seen = seen_by g.E.Edges g.E.Source.ByteSource g.E.Sink.ByteSink in
    let feed = g.S.Supply.feeds c.args.supply.now c.args.spec.now in
    let gated = source_seen (ghosts g.row.S-Source g.S.Source.ByteSource g.S.Source.ByteSource-dict) in
    let all = map gated c.args.sources.items in
    let left = map gated (reverse c.loop-gated.rest.items) in
    back_up_to (merged_names feed) all c.loop-gated.place left (seen c.args.edges.now) (seen c.loop-gated.edges) (seen c.take_back.new.edges) c.loop-gated.invariant.back c.in-Err.ensures.nothing

pub returns-clause-back : goal.returns-clause-back
returns-clause-back g c =
    let seen = seen_by g.E.Edges g.E.Source.ByteSource g.E.Sink.ByteSink in
    let feed = g.S.Supply.feeds c.args.supply.now c.args.spec.now in
    let gated = source_seen (ghosts g.row.S-Source g.S.Source.ByteSource g.S.Source.ByteSource-dict) in
    let all = map gated c.args.sources.items in
    let left = map gated (reverse c.loop-gated.rest.items) in
    let none : c.loop-gated.rest.items ≡ [] = search rules in
    back_all (merged_names feed) all c.loop-gated.place left (seen c.args.edges.now) (seen c.loop-gated.edges) c.loop-gated.invariant.back (ap (λ items. map gated (reverse items)) none)
