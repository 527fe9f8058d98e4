use Rattle.std.proofs.Common.{ap, ◌∙◌}
use Rattle.std.specs.Prelude.{◌==◌, position, unwrap_or}
use Rattle.pipe_model.specs.Batches as model
use Rattle.plain_queues.specs.Views.{batch_place_of}
use Rattle.plain_batches.proofs.settled.place_in_row.Goals as goal

pub returns : goal.returns
returns c =
    c.place_by_batch.ensures
    ∙ ap (model.place_by_batch c.args.batch (batch_place_of c.args.row.now.place))
    (c.position_of-at.ensures ∙ ap (λ xs. unwrap_or (position (λ m. m == c.args.n) xs) 0) c.as_slice.ensures.value)
