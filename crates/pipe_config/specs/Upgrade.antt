-- What an upgrade to version 2 makes of a file.
use Rattle.std.specs.Prelude.{codes, ◌≡◌, ◌≢◌, ◌≤◌, ℕ, pos, true, List, length, Some, Result, Ok, Err}
use Rattle.std.specs.Ordering.{nat_cmp, match_ordering}
use Rattle.std.specs.Cmp.Lexicographic.{slice_cmp}
use Rattle.std.specs.Str.{is_utf8}
use Rattle.pipe_types.specs.declared.topology.Topology.{Topology}
use Rattle.toml.specs.Data.{Data, integer, Members, no_members, member}
use Rattle.toml.specs.Parse.{parse_document}
use Rattle.config_table.specs.declared.fault.ConfigFault.{ConfigFault}
use Rattle.config_table.specs.declared.fault.ConfigFault.TheVariants as fault
use Rattle.pipe_config.specs.declared.version2.UpgradeFault.{UpgradeFault}
use Rattle.pipe_config.specs.declared.version2.UpgradeFault.TheVariants.{Refused, OutOfMemory}
use Rattle.pipe_config.specs.File.{table_of, topology_of_file}

-- the members with this value at a key, in the order of their keys
abbrev pub set_member : List ℕ → Data → Members → Members
set_member k d no_members = member k d no_members
set_member k d (member l e ms) = match_ordering (slice_cmp nat_cmp k l) (member k d (member l e ms)) (member l d ms) (member l e (set_member k d ms))

-- the table with the whole number 2 under `version`
abbrev pub with_version_2 : Members → Members
with_version_2 = set_member (codes "version") (integer (pos 2))

-- the text reads as the table of the bytes with version 2; where it is no longer than a topology file may be, its topology is
-- that of the bytes
pub record IsUpgrade (bytes text : List ℕ) : Type 0 where
  pub table : Members
  pub topology : Topology
  pub read : table_of bytes ≡ Some table
  pub accepted : topology_of_file bytes ≡ Ok topology
  pub is_text : is_utf8 text ≡ true
  pub reads_as : parse_document text ≡ Some (with_version_2 table)
  pub same : length text ≤ 1048576 → topology_of_file text ≡ Ok topology

-- a fault of the file is a refusal, and want of memory is its own
abbrev pub refusal_of : ConfigFault → UpgradeFault
refusal_of fault.OutOfMemory = OutOfMemory
refusal_of why = Refused why

-- a fault is that of the bytes, and no want of memory
abbrev pub IsRefused : Result Topology ConfigFault → UpgradeFault → Type 0
IsRefused expected (Refused why) = (expected ≡ Err why) × (why ≢ fault.OutOfMemory)
IsRefused expected OutOfMemory = Unit {0}
