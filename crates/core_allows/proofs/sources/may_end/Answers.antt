use Rattle.std.proofs.Common.{◌≡◌, ◌∙◌, ap, sym}
use Rattle.pipe_types.specs.Numbers.{stage}
use Rattle.pipe_model.specs.Legal.{may_end}
use Rattle.core_allows.proofs.sources.may_end.Goals as goal

pub returns-then-stage-eq0 : goal.returns-then-stage-eq0
returns-then-stage-eq0 c =
    let core = c.args.core.now in
    let same : c.args.stage ≡ stage 0 = ap stage c.if-stage-eq0.true in
    c.may_control_end.ensures ∙ ap (λ t. may_end core.topology core.journal.steps t c.args.how) (sym same)
