use Rattle.std.proofs.Common.{◌∙◌, ap, length}
use Rattle.config_rule.specs.RuleText.{rule_of}
use Rattle.config_table.specs.Fault.{least}
use Rattle.config_judge.specs.Judge.{route_faults, is_astray}
use Rattle.config_judge.proofs.Steps.{route_step}
use Rattle.config_judge.proofs.routes.astray_route.Goals as goal

pub loop-i-preserved : goal.loop-i-preserved
loop-i-preserved c =
    rw c.sooner-found.ensures
    (route_step c.args.path.now c.args.known.now c.args.texts.now c.loop-i.i c.index-texts-i.result c.loop-i.found c.in_ok-fault.fault c.loop-i-test.true c.index-texts-i.is
    (c.in_ok-fault.ensures ∙ ap (λ astray. least (route_faults c.args.path.now c.loop-i.i astray)) (c.is_astray-astray.ensures ∙ ap (λ text. is_astray (length c.args.known.now) (rule_of c.args.known.now text)) c.as_str.ensures))
    ∙ c.loop-i.invariant)
