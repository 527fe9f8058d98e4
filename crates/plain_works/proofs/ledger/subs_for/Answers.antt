use Rattle.std.proofs.Common.{ap, ◌∙◌}
use Rattle.std.proofs.lemmas.Result.{IfOk-weaker}
use Rattle.pipe_model.specs.History.{history}
use Rattle.pipe_model.specs.Flow.{delivered_to}
use Rattle.plain_works.specs.Works.{subs_for}
use Rattle.plain_works.proofs.Shown.{sent_to_same}
use Rattle.plain_works.proofs.ledger.subs_for.Goals as goal

pub returns : goal.returns
returns c =
    let past = c.args.flow.now.past in
    IfOk-weaker c.subs_in.result _ _
    (λ subs is. is ∙ ap (λ sends. subs_for (delivered_to sends c.args.consumer) c.args.m) c.as_slice.ensures.value
    ∙ ap (λ units. subs_for units c.args.m) (sent_to_same past.topology.now (history past.steps.now) c.args.flow.now.tables.now c.requires c.args.consumer))
    c.subs_in.ensures
