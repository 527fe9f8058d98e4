use Rattle.std.proofs.Common.{◌≡◌, ◌++◌, drop, filter_map}
use Rattle.config_rule.specs.RuleText.{rule_of}
use Rattle.config_build.proofs.stage.rules_of.Given as goal

abbrev pub invariant-loop-text : goal.invariant-loop-text
invariant-loop-text l = l.rules.items ++ filter_map (rule_of l.known) (drop l.text-index l.texts) ≡ filter_map (rule_of l.known) l.texts
