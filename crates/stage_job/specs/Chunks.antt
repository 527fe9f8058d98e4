-- What a chunk asks of rules and of counts.
use Rattle.std.specs.Prelude.{◌≤◌, ◌+◌, ◌^◌, ◌⊎◌, ℕ, Bool, true, false, not, List}
use Rattle.std.specs.List.{list_all}
use Rattle.pipe_types.specs.declared.topology.Rule.{Rule}
use Rattle.pipe_types.specs.declared.topology.Rule.TheVariants as rule

abbrev pub may_crash : Rule → Bool
may_crash (rule.Crash text) = true
may_crash _ = false

-- no rule is a crash
abbrev pub never_crashes : List Rule → Bool
never_crashes rules = list_all (λ rule. not (may_crash rule)) rules

-- a count is greater by at least so many, or its counter is full
abbrev pub RoseBy : (times : ℕ) → ℕ → ℕ → Type 0
RoseBy times before now = (before + times ≤ now) ⊎ (2 ^ 64 ≤ now + 1)
