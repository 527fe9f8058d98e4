use Rattle.std.proofs.Common.{◌∙◌, ap}
use Rattle.std.proofs.lemmas.Result.{IfOk-weaker}
use Rattle.pipe_types.specs.Restarts.{limit_allows}
use Rattle.pipe_model.specs.History.{history, now}
use Rattle.pipe_model.specs.Legal.{limit_open, restart_times}
use Rattle.plain_counts.proofs.sources.may_restart.Goals as goal

pub returns-in-Some : goal.returns-in-Some
returns-in-Some c =
    let t = c.args.topology.now in
    let h = history c.args.steps.now in
    let at = c.limit_of-at.result in
    IfOk-weaker c.is_open.result _ _ (λ may is. is ∙ (ap (λ o. limit_allows o (now h) (restart_times t h at)) c.in-Some.ensures ∙ ap (limit_open t h) c.limit_of-at.ensures)) c.is_open.ensures

pub returns-in-None : goal.returns-in-None
returns-in-None c =
    let t = c.args.topology.now in
    let h = history c.args.steps.now in
    ap (λ o. limit_allows o (now h) (restart_times t h c.limit_of-at.result)) c.in-None.ensures ∙ ap (limit_open t h) c.limit_of-at.ensures
