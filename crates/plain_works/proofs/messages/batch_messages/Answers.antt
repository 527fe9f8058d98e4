use Rattle.std.proofs.Common.{ap, ◌∙◌}
use Rattle.std.proofs.lemmas.Result.{IfOk-weaker}
use Rattle.pipe_model.specs.History.{history}
use Rattle.pipe_model.specs.Flow.{numbers_in}
use Rattle.pipe_model.specs.Work.{messages_of}
use Rattle.plain_works.proofs.Shown.{batch_same}
use Rattle.plain_works.proofs.messages.batch_messages.Goals as goal

pub returns : goal.returns
returns c =
    let past = c.args.flow.now.past in
    let before = history past.steps.now in
    IfOk-weaker c.messages_in.result _ _
    (λ messages is. is ∙ ap (λ row. messages_of before (numbers_in row)) (batch_same past.topology.now before c.args.flow.now.tables.now c.requires c.args.n))
    c.messages_in.ensures
