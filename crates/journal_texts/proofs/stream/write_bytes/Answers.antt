use Rattle.std.proofs.Common.{arith, ◌∙◌}
use Rattle.pipe_edges.proofs.PutLaws.{put_step}
use Rattle.journal_texts.proofs.stream.write_bytes.Goals as goal

pub loop-done-preserved : goal.loop-done-preserved
loop-done-preserved g c =
    let wrote = c.in-Took.ensures in
    let before = c.loop-done.invariant in
    record {
      within = omega (arith, wrote.counted);
      same_telling = wrote.same_telling ∙ before.same_telling;
      faults_stay = omega (arith, wrote.faults_stay, before.faults_stay);
      put = put_step _ _ _ _ _ c.args.bytes.now c.loop-done.done c.in-Took.n before.same_telling before.put wrote.bytes;
    }
