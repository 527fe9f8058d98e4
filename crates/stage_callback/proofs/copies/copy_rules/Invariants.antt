use Rattle.std.proofs.Common.{◌≡◌, take}
use Rattle.stage_callback.proofs.copies.copy_rules.Given as goal

abbrev pub invariant-loop-rule : goal.invariant-loop-rule
invariant-loop-rule l = l.copied.items ≡ take l.rule-index l.rules
