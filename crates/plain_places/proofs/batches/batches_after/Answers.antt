use Rattle.std.proofs.Common.{map, ap, ◌∙◌}
use Rattle.std.proofs.lemmas.Result.{IfOk-weaker}
use Rattle.pipe_model.specs.History.{history}
use Rattle.plain_queues.specs.Views.{batch_of}
use Rattle.plain_places.specs.Rows.{batches_changed}
use Rattle.plain_places.specs.Changes.{row_change_of}
use Rattle.plain_places.proofs.Changed.{batches_next}
use Rattle.plain_places.proofs.batches.batches_after.Goals as goal

pub returns : goal.returns
returns c =
    let past = c.args.flow.now.past in
    let before = history past.steps.now in
    IfOk-weaker c.rows_by.result _ _
    (λ rows is.
    batches_next past.topology.now before c.args.flow.now.tables.now c.args.step.now rows.items c.requires.closed
    (is
    ∙ ap (λ rs. batches_changed before (row_change_of c.in_ok-change.change) (map batch_of rs)) c.as_slice.ensures.value
    ∙ ap (λ change. batches_changed before change (map batch_of c.args.flow.now.tables.now.batches.items)) c.in_ok-change.ensures))
    c.rows_by.ensures
