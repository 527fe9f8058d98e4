use Rattle.std.proofs.Common.{◌∙◌}
use Rattle.std.proofs.lemmas.Result.{IfOk-weaker}
use Rattle.pipe_model.specs.History.{history}
use Rattle.plain_lives.proofs.Standing.{killed_same}
use Rattle.plain_lives.proofs.past.Past.kill_set.Goals as goal

pub returns : goal.returns
returns c =
    let past = c.args.self.now in
    IfOk-weaker c.killed_by.result _ _ (λ set is. is ∙ killed_same past.topology.now (history past.steps.now) past.lives.now c.args.step.now c.requires) c.killed_by.ensures
