use Rattle.std.proofs.Common.{refl, sym}
use Rattle.pipe_top.proofs.Reading.{came_to_nothing, came_to_usage}
use Rattle.pipe_top.proofs.program.run_words.Goals as goal

pub returns-in-Ok-None-clause-came : goal.returns-in-Ok-None-clause-came
returns-in-Ok-None-clause-came g c =
    let r = c.refused in
    rw (sym (rw c.as_slice.ensures.value at c.in-Ok-None.ensures)) (rw c.in-Ok-None.field-0-is (came_to_usage _ _ _ r.result.topology r.result.journal.steps r.result.verdict r.ensures.verdict r.ensures.no_run
    (record { sources = refl; sinks = refl; clock = rw r.ensures.same_clock refl; boxes = rw r.ensures.same_boxes refl }) refl refl))

pub returns-in-Err-clause-came : goal.returns-in-Err-clause-came
returns-in-Err-clause-came g c =
    let r = c.refused-in-Err in
    came_to_nothing _ _ _ _ r.result.topology r.result.journal.steps r.result.verdict r.ensures.verdict r.ensures.no_run
    (record { sources = refl; sinks = refl; clock = rw r.ensures.same_clock refl; boxes = rw r.ensures.same_boxes refl }) refl refl
