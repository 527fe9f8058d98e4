use Rattle.std.proofs.Common.{refl}
use Rattle.body_jobs.proofs.Ending.{ends_so, text_so, write_ends}
use Rattle.body_jobs.proofs.work.write_batch.Goals as goal

pub returns-in-Ok-clause-done : goal.returns-in-Ok-clause-done
returns-in-Ok-clause-done g c =
    let armed = (rw c.in-Some.is at c.requires).1 in
    let handled = c.in-Ok.ensures.done in
    let written = c.write_end-bytes.ensures.written in
    rw c.in-Some.is (
      (
        ends_so _ _ _ armed handled written,
        rw (text_so _ _ _ armed handled written) c.write_end-bytes.ensures.sink,
        rw (text_so _ _ _ armed handled written) (record { handled = c.in-Ok.end; lawful = c.in-Ok.ensures.lawful; written = write_ends _ _ _ _ _ handled.no_text written }),
        c.in-Ok.ensures.same_resets,
      ),
      refl,
    )
