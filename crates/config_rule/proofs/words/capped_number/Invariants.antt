use Rattle.std.proofs.Common.{◌≡◌, ◌-◌, ◌^◌, min, take}
use Rattle.config_rule.specs.RuleText.{digits_number}
use Rattle.config_rule.proofs.words.capped_number.Given as goal

abbrev pub invariant-loop-b : goal.invariant-loop-b
invariant-loop-b l = l.number ≡ min (digits_number (take l.b-index l.text)) (2 ^ 32 - 1)
