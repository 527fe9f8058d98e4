use Rattle.std.proofs.Common.{◌∙◌, ap}
use Rattle.std.specs.Prelude.{slice_get}
use Rattle.pipe_model.specs.Flow.{is_empty}
use Rattle.pipe_model.specs.Standing.{gathered_in}
use Rattle.core_state.specs.Stands.{opens_in}
use Rattle.core_rows.proofs.Queues.{empty_opens}
use Rattle.core_rows.proofs.rests.is_gathered_empty.Goals as goal

pub returns : goal.returns
returns c =
    let s = c.args.stage in
    c.has_none_open.ensures
    ∙ (ap (λ xs. is_empty (opens_in (slice_get xs s.0))) c.deref.ensures.value
    ∙ (ap is_empty (c.requires.stands.holds.fields.opens s) ∙ empty_opens c.args.core.now.journal.steps (gathered_in c.args.core.now.topology c.args.core.now.journal.steps s)))
