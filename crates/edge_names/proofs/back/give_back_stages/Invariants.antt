use Rattle.std.proofs.Common.{◌≡◌, ◌≤◌, ◌+◌, ◌*◌, ℕ, take, length}
use Rattle.stage_bodies.specs.Seen.{body_at}
use Rattle.edge_names.specs.Supplies.{at_paces}
use Rattle.edge_names.specs.Returned.{AreCalm, GivesOff, KeepsCallbacks, sources_of, sinks_of}
use Rattle.edge_names.proofs.Seeing.{seen_by}
use Rattle.edge_names.proofs.back.give_back_stages.Given as goal

abbrev pub invariant-loop-spec : goal.invariant-loop-spec
invariant-loop-spec g l =
    let feeds = at_paces l.fn.topology (g.S.Supply.feeds l.fn.supply) in
    let seen = seen_by g.E.Edges g.E.Source.ByteSource g.E.Sink.ByteSink in
    let was = body_at g.B.Works.look l.fn.bodies.items in
    let now = body_at g.B.Works.look l.bodies.items in
    let done = take l.spec-index l.fn.topology.stages in
    record {
      len : length l.bodies.items ≡ length l.fn.bodies.items;
      rest : (s : ℕ) → (l.spec-index + 1) * 16 ≤ s → now s ≡ was s;
      back : GivesOff (sources_of feeds done was) (sinks_of feeds done was) (seen l.fn.edges) (seen l.edges);
      calm : AreCalm feeds done was;
      callbacks : KeepsCallbacks was now;
    }
