use Rattle.std.proofs.Common.{ap, ◌∙◌}
use Rattle.std.proofs.lemmas.Result.{IfOk-weaker}
use Rattle.pipe_model.specs.Flow.{chunk_by}
use Rattle.plain_places.proofs.queues.chunk_now.Goals as goal

pub returns : goal.returns
returns c =
    let past = c.args.flow.now.past in
    IfOk-weaker c.chunk.result _ _ (λ got is. is ∙ ap (λ v. chunk_by v c.args.stage) c.requires.view) c.chunk.ensures
