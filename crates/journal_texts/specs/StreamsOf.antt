-- What a stream to a sink of bytes does.
use Rattle.std.specs.Prelude.{◌≡◌, ℕ, List, [], ◌++◌}
use Rattle.std.proofs.Common.{refl, ◌∙◌}
use Rattle.pipe_edges.specs.declared.sink.ByteSink.{Ghosts as SinkOf}
use Rattle.journal_texts.specs.Streams.{StreamSeen, Streams}
use Rattle.journal_texts.specs.StreamLaws.{streams_nothing, streams_both}
use Rattle.journal_texts.specs.declared.stream.TextStream.{TextStream}

abbrev pub stream_seen : {K : Type 0} → SinkOf K → TextStream K → StreamSeen
stream_seen sink s = record { told = sink.told s.sink.now; held = sink.held s.sink.now; faults = sink.faults s.sink.now; piece = s.piece.now.items; failed = s.failed }

-- the text went to the same sink
pub record PutsOn {K : Type 0} (sink : SinkOf K) (old new : TextStream K) (text : List ℕ) : Type 0 where
  pub same_reference : new.sink.ghost_name ≡ old.sink.ghost_name
  pub same_piece : new.piece.ghost_name ≡ old.piece.ghost_name
  pub streams : Streams (stream_seen sink old) (stream_seen sink new) text

pub puts_nothing : {K : Type 0} (sink : SinkOf K) (now : TextStream K) → PutsOn sink now now []
puts_nothing sink now = record { same_reference = refl; same_piece = refl; streams = streams_nothing (stream_seen sink now) }

pub puts_both : {K : Type 0} (sink : SinkOf K) (old mid new : TextStream K) (first second : List ℕ) → PutsOn sink old mid first → PutsOn sink mid new second → PutsOn sink old new (first ++ second)
puts_both sink old mid new first second one two = record {
  same_reference = two.same_reference ∙ one.same_reference;
  same_piece = two.same_piece ∙ one.same_piece;
  streams = streams_both (stream_seen sink old) (stream_seen sink mid) (stream_seen sink new) first second one.streams two.streams;
}
