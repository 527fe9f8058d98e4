use Rattle.std.proofs.Common.{ap, ◌∙◌}
use Rattle.std.proofs.lemmas.Result.{IfOk-weaker}
use Rattle.pipe_model.specs.History.{history}
use Rattle.plain_legal.proofs.Owes.{dispatch_owed, owed_to_accept}
use Rattle.plain_legal.proofs.owed.owed_by.Goals as goal

pub returns-in-Accept : goal.returns-in-Accept
returns-in-Accept c =
    let topology = c.args.machine.now.flow.past.topology.now in
    let s = c.in-Accept.stage in
    IfOk-weaker c.owed_by_accept.result _ _
    (λ owed is. is ∙ ap (λ h. dispatch_owed topology h s) c.requires.newest ∙ owed_to_accept topology (history c.args.before.now) c.args.last.now s _ c.in-Accept.is)
    c.owed_by_accept.ensures
