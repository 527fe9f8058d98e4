-- The names of merged sources in their texts.
use Rattle.std.specs.Prelude.{ℕ, Bool, List, [], Option, Some, None}
use Rattle.config_rule.specs.SourceText.{parts}
use Rattle.edge_names.specs.declared.supply.ByName.{ByName}

-- the names behind a comma
abbrev pub parts_behind : Option (List ℕ) → List (List ℕ)
parts_behind None = []
parts_behind (Some names) = parts names

-- whether it splits the texts of sources
abbrev pub splits_in : ByName → Bool
splits_in supply = supply.splits
