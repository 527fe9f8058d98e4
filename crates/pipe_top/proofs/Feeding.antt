-- What the live sink has when its watch lets it go.
use Rattle.std.proofs.Common.{◌≡◌, ℕ, List, Bool, true, false, Some, None, refl, sym, ◌∙◌, ap}
use Rattle.std.specs.Prelude.{IsTrue, if◌then◌else◌}
use Rattle.pipe_types.specs.declared.topology.Topology.{Topology}
use Rattle.pipe_model.specs.Begins.{BeginsWith}
use Rattle.pipe_model.specs.History.{History}
use Rattle.journal_texts.specs.Acks.{ack_text}
use Rattle.stage_bodies.specs.Seen.{SinkSeen}
use Rattle.ack_feed.specs.Feeds.{AckFeed, Stands, begun_by, begun_in, feed_of, to_come, topology_of}
use Rattle.ack_feed.specs.Lines.{has_failed, sink_of}
use Rattle.ack_feed.proofs.Fronts.{front_of}
use Rattle.pipe_run.specs.Live.{IsFed, IsFedSince}

module _ {K : Type 0} (told : K → Bool) (held : K → List ℕ) (feed : AckFeed K) (topology : Topology) (steps : History) where
  -- all of the text, once all steps were seen and no write failed
  fed_whole : topology_of feed ≡ topology → IsTrue (told (sink_of (feed_of feed))) → has_failed (feed_of feed) ≡ false → Stands told held feed steps
      → IsFed (ack_text topology steps) true (begun_in held feed) (held (sink_of (feed_of feed)))
  fed_whole fits tells calm stands =
      let got = stands.fed tells in
      record {
        got = got.0;
        rest = to_come feed;
        holds = got.1;
        part = sym (got.2 ∙ ap (λ (t : Topology). ack_text t steps) fits);
        whole = λ all. stands.whole calm;
      }

  -- else a first part
  fed_part : (earlier : History) → topology_of feed ≡ topology → IsTrue (told (sink_of (feed_of feed))) → Stands told held feed earlier → BeginsWith steps earlier
      → IsFed (ack_text topology steps) false (begun_in held feed) (held (sink_of (feed_of feed)))
  fed_part earlier fits tells stands begins =
      let got = stands.fed tells in
      let more = front_of topology steps earlier got.0 (to_come feed) begins (got.2 ∙ ap (λ (t : Topology). ack_text t earlier) fits) in
      record {
        got = got.0;
        rest = more.0;
        holds = got.1;
        part = sym more.1;
        whole = λ all. let x : false ≡ true = all in cc;
      }

  fed_all : (all : Bool) → topology_of feed ≡ topology → IsTrue (told (sink_of (feed_of feed)))
      → (earlier : History) × Stands told held feed earlier × BeginsWith steps earlier → (IsTrue all → (has_failed (feed_of feed) ≡ false) × Stands told held feed steps)
      → IsFed (ack_text topology steps) all (begun_in held feed) (held (sink_of (feed_of feed)))
  fed_all true fits tells part whole = fed_whole fits tells (whole refl).0 (whole refl).1
  fed_all false fits tells part whole = fed_part part.0 fits tells part.1 part.2

  fed_by : (all : Bool) (sink : SinkSeen) → sink.told ≡ told (sink_of (feed_of feed)) → sink.held ≡ held (sink_of (feed_of feed)) → topology_of feed ≡ topology
      → (earlier : History) × Stands told held feed earlier × BeginsWith steps earlier → (IsTrue all → (has_failed (feed_of feed) ≡ false) × Stands told held feed steps)
      → IsFedSince (ack_text topology steps) all (begun_by told held feed) sink
  fed_by all sink tells holds fits part whole = by_telling (told (sink_of (feed_of feed))) refl
    where
      by_telling : (b : Bool) → told (sink_of (feed_of feed)) ≡ b → IsFedSince (ack_text topology steps) all (if b then Some (begun_in held feed) else None) sink
      by_telling true is = (tells ∙ is, rw holds (fed_all all fits is part whole))
      by_telling false is = tells ∙ is

-- the sink that the watch lets go was fed
pub fed_since : {K : Type 0} (told : K → Bool) (held : K → List ℕ) (feed : AckFeed K) (sink : SinkSeen) → sink.told ≡ told (sink_of (feed_of feed)) → sink.held ≡ held (sink_of (feed_of feed))
    → (topology : Topology) (steps : History) (all : Bool) → topology_of feed ≡ topology → (earlier : History) × Stands told held feed earlier × BeginsWith steps earlier
    → (IsTrue all → (has_failed (feed_of feed) ≡ false) × Stands told held feed steps) → IsFedSince (ack_text topology steps) all (begun_by told held feed) sink
fed_since {K} told held feed sink tells holds topology steps all fits part whole = fed_by told held feed topology steps all sink tells holds fits part whole
