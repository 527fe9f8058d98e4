-- The texts that a key may hold.
use Rattle.std.specs.Prelude.{codes, ℕ, Bool, true, List, [], ◌∷◌, length, Option, Some, is_some, position, bytes_eq, nat_le, ◌&&◌}
use Rattle.pipe_types.specs.Sound.{is_between, is_name, is_reason}
use Rattle.config_rule.specs.RuleText.{rule_of}
use Rattle.config_rule.specs.SourceText.{merged_in, may_be_source}
use Rattle.config_table.specs.declared.format.Shape.{Shape}
use Rattle.config_table.specs.declared.format.Shape.TheVariants.{Name, Edge, Source, Reason, Rule, Selector, Any, Mode, Keep, Cancel, Restart, Kind, BatchKind}

-- the words of a key that holds one of a few; the first is the default
abbrev pub words : Shape → List (List ℕ)
words Mode = codes "pull" ∷ codes "push" ∷ []
words Keep = codes "last" ∷ codes "first" ∷ []
words Cancel = codes "temporary" ∷ codes "transient" ∷ codes "permanent" ∷ []
words Restart = codes "temporary" ∷ codes "transient" ∷ []
words Kind = codes "steps" ∷ codes "own" ∷ []
words BatchKind = codes "lines" ∷ codes "steps" ∷ codes "own" ∷ []
words _ = []

-- the place of a word among them
abbrev pub word_place : Shape → List ℕ → Option ℕ
word_place shape text = position (λ word. bytes_eq word text) (words shape)

-- a name, a text of 1 to 4096 bytes, such a text that may be a source, a reason, a rule, a text of at most 4096 bytes, any text, or one of a few words
abbrev pub fits : Shape → List ℕ → Bool
fits Name text = is_name text
fits Edge text = is_between 1 4096 (length text)
fits Source text = is_between 1 4096 (length text) && may_be_source (merged_in text)
fits Reason text = is_reason (Some text)
fits Rule text = is_some (rule_of [] text)
fits Selector text = nat_le (length text) 4096
fits Any text = true
fits shape text = is_some (word_place shape text)
