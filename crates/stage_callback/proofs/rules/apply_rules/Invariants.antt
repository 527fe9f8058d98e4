use Rattle.std.proofs.Common.{◌≡◌, drop, true}
use Rattle.std.specs.List.{list_all}
use Rattle.pipe_types.specs.Handlers.{rules_reply}
use Rattle.stage_callback.specs.Callbacks.{is_countable}
use Rattle.stage_callback.proofs.rules.apply_rules.Given as goal

abbrev pub invariant-loop-rule : goal.invariant-loop-rule
invariant-loop-rule l = record {
  same : rules_reply l.count (drop l.rule-index l.rules) l.message ≡ rules_reply l.count l.rules l.initial.message;
  countable : list_all is_countable (drop l.rule-index l.rules) ≡ true;
}
