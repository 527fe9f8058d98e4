-- The walk of a topology file: keys in byte order, arrays by position, depth first.
use Rattle.std.specs.Prelude.{ℕ, ◌+◌, ◌==◌, Bool, false, ◌&&◌, ◌||◌, List, [], ◌∷◌, ◌++◌, Option, Some, None, if◌then◌else◌, flat_map, bytes_eq, ℤ, pos, option_and_then}
use Rattle.std.specs.List.{list_any}
use Rattle.toml.specs.Data.{Data, Items, no_items, item, Members, no_members, member, as_integer, as_str, as_array, as_table}
use Rattle.config_table.specs.declared.fault.ConfigFault.{ConfigFault}
use Rattle.config_table.specs.declared.fault.ConfigFault.TheVariants as fault
use Rattle.config_table.specs.declared.format.FileVersion.{FileVersion}
use Rattle.config_table.specs.declared.format.FileVersion.TheVariants.{One, Two}
use Rattle.config_table.specs.declared.format.Key.TheVariants as key
use Rattle.config_table.specs.declared.format.Row.{Row}
use Rattle.config_table.specs.declared.format.Section.{Section}
use Rattle.config_table.specs.declared.format.Section.TheVariants.{Pipeline, Producer, Processors, Supervisor, Batcher}
use Rattle.config_rule.specs.SourceText.{is_merged}
use Rattle.config_table.specs.Fault.{under, at_place}
use Rattle.config_table.specs.Format.{has, key_name, value_at, rows}
use Rattle.config_table.specs.Values.{value_faults, item_count}

-- the key of a row that a file of this version has
abbrev pub is_named : FileVersion → List ℕ → Row → Bool
is_named v key row = has v row.since && bytes_eq (key_name row.key) key

-- a key that has no row
abbrev pub is_known : FileVersion → List Row → List ℕ → Bool
is_known v rows key = list_any (is_named v key) rows

abbrev pub key_faults : FileVersion → List ℕ → List Row → List ℕ → List ConfigFault
key_faults v path rows key = if is_known v rows key then [] else fault.UnknownKey (under path key) ∷ []

abbrev pub unknown_keys : FileVersion → List ℕ → List Row → Members → List ConfigFault
unknown_keys v path rows no_members = []
unknown_keys v path rows (member key d ms) = key_faults v path rows key ++ unknown_keys v path rows ms

-- a row whose key is missing or holds another value
abbrev pub missing_faults : List ℕ → Bool → List ConfigFault
missing_faults path required = if required then fault.Missing path ∷ [] else []

abbrev pub held_faults : List ℕ → Row → Option Data → List ConfigFault
held_faults path row None = missing_faults path row.required
held_faults path row (Some d) = value_faults path row.form d

-- a row that the file's version does not have asks for nothing
abbrev pub row_faults : FileVersion → List ℕ → Members → Row → List ConfigFault
row_faults v path table row = if has v row.since then held_faults (under path (key_name row.key)) row (value_at row.key table) else []

-- a table with these rows
abbrev pub rows_faults : FileVersion → List ℕ → List Row → Members → List ConfigFault
rows_faults v path rows table = unknown_keys v path rows table ++ flat_map (row_faults v path table) rows

-- a table that stands where the format has one
abbrev pub table_faults : FileVersion → Section → List ℕ → Option Members → List ConfigFault
table_faults v section path None = fault.WrongType path ∷ []
table_faults v section path (Some table) = rows_faults v path (rows section table) table

-- the tables of an array, from a position on
abbrev pub each_faults : FileVersion → Section → List ℕ → ℕ → Items → List ConfigFault
each_faults v section path i no_items = []
each_faults v section path i (item d ds) = table_faults v section (at_place path i) (as_table d) ++ each_faults v section path (i + 1) ds

abbrev pub array_faults : FileVersion → Section → List ℕ → Option Items → List ConfigFault
array_faults v section path None = fault.WrongType path ∷ []
array_faults v section path (Some items) = each_faults v section path 0 items

-- a key at the top
abbrev pub top_faults : FileVersion → (producers : ℕ) → List ℕ → Data → List ConfigFault
top_faults v producers k d =
    if bytes_eq k (key_name key.Batcher) then array_faults v Batcher k (as_array d)
    else if bytes_eq k (key_name key.Pipeline) then table_faults v (Pipeline producers) k (as_table d)
    else if bytes_eq k (key_name key.Processors) then table_faults v Processors k (as_table d)
    else if bytes_eq k (key_name key.Producer) then array_faults v Producer k (as_array d)
    else if bytes_eq k (key_name key.Supervisor) then table_faults v Supervisor k (as_table d)
    else if bytes_eq k (key_name key.Version) then []
    else fault.UnknownKey k ∷ []

-- a producer's source is a merge
abbrev pub is_merged_text : Option (List ℕ) → Bool
is_merged_text None = false
is_merged_text (Some text) = is_merged text

abbrev pub is_merged_in : Option Members → Bool
is_merged_in None = false
is_merged_in (Some table) = is_merged_text (option_and_then as_str (value_at key.Source table))

abbrev pub any_merged : Items → Bool
any_merged no_items = false
any_merged (item d ds) = is_merged_in (as_table d) || any_merged ds

-- how many records a rate needs at least: one for each producer, as far as they stand in an array, and more than it may have
-- where the source of one is a merge
abbrev pub need_in : Option Items → ℕ
need_in None = 0
need_in (Some items) = if any_merged items then 1000001 else item_count items

abbrev pub rate_need : Members → ℕ
rate_need table = need_in (option_and_then as_array (value_at key.Producer table))

-- the faults of every place, in the order of the walk, where a rate needs so many records
abbrev pub faults_beside : FileVersion → (need : ℕ) → Members → List ConfigFault
faults_beside v need no_members = []
faults_beside v need (member k d ms) = top_faults v need k d ++ faults_beside v need ms

abbrev pub faults_of : FileVersion → Members → List ConfigFault
faults_of v table = faults_beside v (rate_need table) table

-- `version` is the whole number 1 or 2
abbrev pub version_in : Option ℤ → Option FileVersion
version_in (Some (pos n)) = if n == 1 then Some One else if n == 2 then Some Two else None
version_in _ = None

abbrev pub version_of : Members → Option FileVersion
version_of table = version_in (option_and_then as_integer (value_at key.Version table))
