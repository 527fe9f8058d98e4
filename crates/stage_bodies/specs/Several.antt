-- Topologies with several sources.
use Rattle.std.specs.Prelude.{ℕ, Bool, false, ◌&&◌, ◌||◌, List, [], ◌∷◌, Option, Some, None}
use Rattle.pipe_types.specs.Sound.{is_producer}
use Rattle.pipe_types.specs.declared.topology.StageSpec.{StageSpec}
use Rattle.config_rule.specs.SourceText.{is_merged}

-- the source that is named is a merge
abbrev pub is_merge : Option (List ℕ) → Bool
is_merge (Some text) = is_merged text
is_merge None = false

abbrev pub have_producer : List StageSpec → Bool
have_producer [] = false
have_producer (spec ∷ specs) = is_producer spec.role || have_producer specs

-- there is a producer whose source is a merge, or another one behind it
abbrev pub has_several_sources : List StageSpec → Bool
has_several_sources [] = false
has_several_sources (spec ∷ specs) = (is_producer spec.role && (is_merge spec.edge || have_producer specs)) || has_several_sources specs
