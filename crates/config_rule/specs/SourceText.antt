-- The text of a producer's source.
use Rattle.std.specs.Prelude.{codes, ℕ, Bool, true, not, ◌&&◌, ◌==◌, if◌then◌else◌, List, [], ◌∷◌, length, take, drop, position, option_map, ◌+◌, Option, Some, None, is_some}
use Rattle.std.specs.List.{list_all}
use Rattle.pipe_types.specs.Handlers.{begins_with}
use Rattle.pipe_types.specs.Sound.{is_between}

abbrev pub before_first : ℕ → List (List ℕ) → List (List ℕ)
before_first b [] = (b ∷ []) ∷ []
before_first b (p ∷ ps) = (b ∷ p) ∷ ps

-- what stands between the commas: one part more than there are commas
abbrev pub parts : List ℕ → List (List ℕ)
parts [] = [] ∷ []
parts (b ∷ bs) = if b == 44 then [] ∷ parts bs else before_first b (parts bs)

-- what stands before the first comma and what stands after it
abbrev pub at_comma : List ℕ → Option (List ℕ × List ℕ)
at_comma text = option_map (λ i. (take i text, drop (i + 1) text)) (position (λ b. b == 44) text)

-- what stands behind `many:`, if the text begins so
abbrev pub merged_in : List ℕ → Option (List ℕ)
merged_in text = if begins_with (codes "many:") text then Some (drop 5 text) else None

-- the source is a merge
abbrev pub is_merged : List ℕ → Bool
is_merged text = is_some (merged_in text)

abbrev pub is_name : List ℕ → Bool
is_name name = not (length name == 0)

-- 2 to 64 names, none of them empty
abbrev pub are_names : List (List ℕ) → Bool
are_names names = is_between 2 64 (length names) && list_all is_name names

-- the names of a merge are as many as may be
abbrev pub may_be_source : Option (List ℕ) → Bool
may_be_source None = true
may_be_source (Some names) = are_names (parts names)
