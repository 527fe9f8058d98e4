use Rattle.std.proofs.Common.{◌∙◌}
use Rattle.journal_texts.specs.StreamsOf.{stream_seen}
use Rattle.journal_texts.proofs.Streaming.{streamed}
use Rattle.journal_texts.proofs.stream.stream_text.Goals as goal

pub returns-clause-same_reference : goal.returns-clause-same_reference
returns-clause-same_reference g c = c.flush.ensures.puts.same_reference ∙ c.put_on.ensures.same_reference

pub returns-clause-same_piece : goal.returns-clause-same_piece
returns-clause-same_piece g c = c.flush.ensures.puts.same_piece ∙ c.put_on.ensures.same_piece

pub returns-clause-streamed : goal.returns-clause-streamed
returns-clause-streamed g c =
    streamed (stream_seen g.K.ByteSink c.args.out.now) (stream_seen g.K.ByteSink c.put_on.new.out) (stream_seen g.K.ByteSink c.flush.new.self) (g.T.Streamed.text c.args.what.now)
    c.put_on.ensures.streams c.flush.ensures.puts.streams c.requires.fresh.0 c.requires.fresh.1 c.flush.ensures.empty
