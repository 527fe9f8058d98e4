use Rattle.std.proofs.Common.{refl, []}
use Rattle.journal_texts.specs.StreamsOf.{puts_both}
use Rattle.journal_texts.proofs.Streaming.{written}
use Rattle.journal_texts.proofs.stream.TextStream.write.Goals as goal

pub returns-then-not-self : goal.returns-then-not-self
returns-then-not-self g c =
    let w = c.write_bytes.ensures in
    record {
      puts = puts_both g.K.ByteSink c.args.self.now c.flush.new.self _ [] c.args.text.now c.flush.ensures.puts (record {
        same_reference = refl;
        same_piece = refl;
        streams = written _ _ _ _ _ _ c.flush.new.self.piece.now.items c.args.text.now c.flush.new.self.failed c.write_bytes.result c.if-not-self.true (c.flush.ensures.empty c.if-not-self.true) w.same_telling w.faults_stay w.whole w.begun;
      });
    }
