-- What stands under names, the newest first.
use Rattle.std.specs.Prelude.{ℕ, Bool, false, not, List, map, filter, find, reverse, Option}
use Rattle.std.specs.Option.{option_map_or}
use Rattle.std.specs.Str.{bytes_eq}
use Rattle.mem_edges.specs.declared.named.Named.{Named}

-- the newest under this name
abbrev pub under : {T : Type 0} → List ℕ → List (Named T) → Option (Named T)
under name shelf = find (λ (n : Named _). bytes_eq n.name name) shelf

-- something stands under this name and is not open
abbrev pub is_free : {T : Type 0} → List ℕ → List (Named T) → Bool
is_free name shelf = option_map_or (λ (n : Named _). not n.opened) (under name shelf) false

-- what stands under this name is open
abbrev pub is_open : {T : Type 0} → List ℕ → List (Named T) → Bool
is_open name shelf = option_map_or (λ (n : Named _). n.opened) (under name shelf) false

-- the names
abbrev pub names_on : {T : Type 0} → List (Named T) → List (List ℕ)
names_on shelf = map (λ (n : Named _). n.name) shelf

-- a thing with its name
abbrev pub with_name : {T : Type 0} → Named T → List ℕ × T
with_name n = (n.name, n.item)

-- what was given back, each with its name, in order
abbrev pub given_back : {T : Type 0} → List (Named T) → List (List ℕ × T)
given_back shelf = reverse (map with_name (filter (λ (n : Named _). n.returned) shelf))
