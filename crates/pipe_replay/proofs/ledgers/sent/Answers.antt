use Rattle.std.proofs.Common.{ap, ◌∙◌}
use Rattle.std.proofs.lemmas.Result.{IfOk-weaker}
use Rattle.pipe_replay.proofs.ledgers.sent.Goals as goal

pub returns : goal.returns
returns c = IfOk-weaker c.sent_on.result _ _ (λ n is. is ∙ ap (λ v. v.sent c.args.sub) c.requires.tables.view) c.sent_on.ensures
