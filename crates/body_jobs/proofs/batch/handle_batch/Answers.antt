use Rattle.std.proofs.Common.{◌∙◌, ap}
use Rattle.stage_bodies.specs.Told.{raised_with}
use Rattle.body_jobs.proofs.Handling.{handles_answered, handles_raised, handles_crashed}
use Rattle.body_jobs.proofs.Lawful.{answered_lawfully, raised_lawfully, crashed_lawfully}
use Rattle.body_jobs.proofs.batch.handle_batch.Goals as goal

pub returns-in-Ok-clause-done : goal.returns-in-Ok-clause-done
returns-in-Ok-clause-done g c =
    handles_answered c.in_ok-outcomes.field-0 c.in-Answered.outcomes c.in-Ok.settled c.in-Answered.text c.in-Answered.is c.in_ok-outcomes.ensures.done
    (rw c.as_slice.ensures at c.in-Ok.ensures.done)

pub returns-in-Ok-settle_all-clause-done : goal.returns-in-Ok-settle_all-clause-done
returns-in-Ok-settle_all-clause-done g c =
    handles_raised c.in_ok-outcomes.field-0 c.in-Raised.why c.as_slice-in-Raised.result.now c.in-Ok-settle_all.settled c.from_vec.result c.in-Raised.is
    (c.as_slice-in-Raised.ensures.value ∙ (c.in_ok-outcomes-in-Raised.ensures ∙ ap (raised_with c.in-Raised.why) c.as_slice-messages.ensures))
    (c.from_vec.ensures ∙ c.new.ensures.items)
    c.in_ok-outcomes.ensures.done c.in-Ok-settle_all.ensures.done

pub returns-clause-done : goal.returns-clause-done
returns-clause-done g c = handles_crashed c.in_ok-outcomes.field-0 c.from_vec-in-Crashed.result c.in-Crashed.is (c.from_vec-in-Crashed.ensures ∙ c.new-in-Crashed.ensures.items) c.in_ok-outcomes.ensures.done

pub returns-in-Ok-clause-lawful : goal.returns-in-Ok-clause-lawful
returns-in-Ok-clause-lawful g c =
    let asked = c.in_ok-outcomes.ensures in
    answered_lawfully _ _ c.args.batch.now c.in_ok-outcomes.field-0 c.in-Answered.outcomes c.in-Ok.settled c.in-Answered.text asked.kept.law c.in-Answered.is asked.lawful
    (rw (c.as_slice.ensures, c.as_slice-messages.ensures) at c.in-Ok.ensures.lawful)

pub returns-in-Ok-settle_all-clause-lawful : goal.returns-in-Ok-settle_all-clause-lawful
returns-in-Ok-settle_all-clause-lawful g c =
    let asked = c.in_ok-outcomes.ensures in
    raised_lawfully _ _ c.args.batch.now c.in_ok-outcomes.field-0 c.in-Raised.why c.as_slice-in-Raised.result.now c.in-Ok-settle_all.settled c.from_vec.result asked.kept.law c.in-Raised.is
    (c.as_slice-in-Raised.ensures.value ∙ (c.in_ok-outcomes-in-Raised.ensures ∙ ap (raised_with c.in-Raised.why) c.as_slice-messages.ensures))
    (c.from_vec.ensures ∙ c.new.ensures.items) asked.lawful (rw c.as_slice-messages.ensures at c.in-Ok-settle_all.ensures.lawful)

pub returns-clause-lawful : goal.returns-clause-lawful
returns-clause-lawful g c =
    crashed_lawfully _ c.args.batch.now c.in_ok-outcomes.field-0 c.from_vec-in-Crashed.result c.in-Crashed.is
    (c.from_vec-in-Crashed.ensures ∙ c.new-in-Crashed.ensures.items) c.in_ok-outcomes.ensures.lawful
