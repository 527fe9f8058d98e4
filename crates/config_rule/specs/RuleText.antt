-- The texts of rules.
use Rattle.std.specs.Prelude.{codes, ℕ, ◌+◌, ◌-◌, ◌*◌, Bool, not, ◌&&◌, ◌||◌, ◌==◌, if◌then◌else◌, List, length, take, drop, slice_index, fold, position, Option, Some, None, option_map, option_and_then, unwrap_or, bytes_eq}
use Rattle.std.specs.List.{list_all}
use Rattle.pipe_types.specs.declared.topology.Rule.{Rule}
use Rattle.pipe_types.specs.declared.topology.Rule.TheVariants as rule
use Rattle.pipe_types.specs.Sound.{is_between}
use Rattle.config_rule.specs.declared.form.RuleForm.{RuleForm}
use Rattle.config_rule.specs.declared.form.RuleForm.TheVariants.{Pass, Prefix, Require, Route, Key, Flush, Raise, Crash, FailEvery}

-- what stands before the first space and what stands after it
abbrev pub at_space : List ℕ → Option (List ℕ × List ℕ)
at_space text = option_map (λ i. (take i text, drop (i + 1) text)) (position (λ b. b == 32) text)

-- the number that digits spell
abbrev pub digits_number : List ℕ → ℕ
digits_number text = fold (λ n b. n * 10 + (b - 48)) 0 text

-- digits without a leading zero
abbrev pub is_decimal : List ℕ → Bool
is_decimal text = (list_all (is_between 48 57) text && not (length text == 0)) && (length text == 1 || not (slice_index text 0 == 48))

-- a decimal number in a range
abbrev pub decimal_in : ℕ → ℕ → List ℕ → Option ℕ
decimal_in low high text = if is_decimal text && is_between low high (digits_number text) then Some (digits_number text) else None

-- a batcher's number, from its name; the number of names for an unknown one
abbrev pub number_of : List (List ℕ) → List ℕ → ℕ
number_of names name = unwrap_or (position (λ known. bytes_eq known name) names) (length names)

-- BATCHER and VALUE
abbrev pub route_to : List (List ℕ) → ℕ → Option (List ℕ × List ℕ) → Option Rule
route_to names field None = None
route_to names field (Some p) = Some (rule.Route field (number_of names p.0) p.1)

-- N, BATCHER and VALUE
abbrev pub route_by : List (List ℕ) → Option (List ℕ × List ℕ) → Option Rule
route_by names None = None
route_by names (Some p) = option_and_then (λ field. route_to names field (at_space p.1)) (decimal_in 0 255 p.0)

-- a rule of one word, and the rule of a word and the text after it
abbrev pub rule_from : List (List ℕ) → List ℕ → Option (List ℕ × List ℕ) → Option Rule
rule_from names text None = if bytes_eq text (codes "pass") then Some rule.Pass else None
rule_from names text (Some p) =
    if bytes_eq p.0 (codes "prefix") then Some (rule.Prefix p.1)
    else if bytes_eq p.0 (codes "require") then Some (rule.Require p.1)
    else if bytes_eq p.0 (codes "route") then route_by names (at_space p.1)
    else if bytes_eq p.0 (codes "key") then option_map rule.Key (decimal_in 0 255 p.1)
    else if bytes_eq p.0 (codes "flush") then Some (rule.Flush p.1)
    else if bytes_eq p.0 (codes "raise") then Some (rule.Raise p.1)
    else if bytes_eq p.0 (codes "crash") then Some (rule.Crash p.1)
    else if bytes_eq p.0 (codes "fail_every") then option_map rule.FailEvery (decimal_in 1 1000000 p.1)
    else None

-- the rule that a text spells, where these are the batchers' names; none where it spells none
abbrev pub rule_of : List (List ℕ) → List ℕ → Option Rule
rule_of names text = rule_from names text (at_space text)

-- a form as a rule
abbrev pub form_rule : List (List ℕ) → RuleForm → Rule
form_rule names Pass = rule.Pass
form_rule names (Prefix text) = rule.Prefix text.now
form_rule names (Require text) = rule.Require text.now
form_rule names (Route field batcher value) = rule.Route field (number_of names batcher.now) value.now
form_rule names (Key field) = rule.Key field
form_rule names (Flush text) = rule.Flush text.now
form_rule names (Raise text) = rule.Raise text.now
form_rule names (Crash text) = rule.Crash text.now
form_rule names (FailEvery n) = rule.FailEvery n
