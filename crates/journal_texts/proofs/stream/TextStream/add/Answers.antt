use Rattle.std.proofs.Common.{refl, []}
use Rattle.journal_texts.specs.StreamsOf.{puts_both, stream_seen}
use Rattle.journal_texts.proofs.Streaming.{added, extended, unextended, same_piece}
use Rattle.journal_texts.proofs.stream.TextStream.add.Goals as goal

pub returns-then-is_err : goal.returns-then-is_err
returns-then-is_err g c =
    let s = c.make_room.new.self in
    let same = unextended c.extend_from_slice.result c.is_err.result s.piece.now.items c.args.text.now c.extend_from_slice.new.self.items c.extend_from_slice.ensures.items c.is_err.ensures.value c.if-is_err.true in
    record {
      puts = puts_both g.K.ByteSink c.args.self.now s c.write.new.self [] c.args.text.now c.make_room.ensures.puts (record {
        same_reference = c.write.ensures.puts.same_reference;
        same_piece = c.write.ensures.puts.same_piece;
        streams = same_piece _ _ _ s.piece.now.items c.extend_from_slice.new.self.items s.failed (stream_seen g.K.ByteSink c.write.new.self) c.args.text.now same c.write.ensures.puts.streams;
      });
    }

pub returns-else-is_err : goal.returns-else-is_err
returns-else-is_err g c =
    let s = c.make_room.new.self in
    record {
      puts = puts_both g.K.ByteSink c.args.self.now s _ [] c.args.text.now c.make_room.ensures.puts (record {
        same_reference = refl;
        same_piece = refl;
        streams =
            added _ _ _ s.piece.now.items c.extend_from_slice.new.self.items c.args.text.now s.failed
            (extended c.extend_from_slice.result c.is_err.result s.piece.now.items c.args.text.now c.extend_from_slice.new.self.items c.extend_from_slice.ensures.items c.is_err.ensures.value c.if-is_err.false);
      });
    }
