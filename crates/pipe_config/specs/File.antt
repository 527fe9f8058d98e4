-- The topology of a file, or the fault for which it is refused.
use Rattle.std.specs.Prelude.{codes, ◌≡◌, ◌≢◌, ℕ, nat_lt, if◌then◌else◌, List, length, Option, Some, None, Result, Ok, Err}
use Rattle.std.specs.Str.{is_utf8}
use Rattle.pipe_types.specs.declared.topology.Topology.{Topology}
use Rattle.toml.specs.Data.{Members}
use Rattle.toml.specs.Parse.{parse_document}
use Rattle.config_table.specs.declared.fault.ConfigFault.{ConfigFault}
use Rattle.config_table.specs.declared.fault.ConfigFault.TheVariants.{NotToml, Version, OutOfMemory}
use Rattle.config_table.specs.Fault.{least}
use Rattle.config_table.specs.declared.format.FileVersion.{FileVersion}
use Rattle.config_table.specs.Walk.{faults_of, version_of}
use Rattle.config_settings.specs.declared.settings.Settings.{Settings}
use Rattle.config_settings.specs.Settings.{settings_of}
use Rattle.config_judge.specs.Judge.{faults_in}
use Rattle.config_build.specs.Build.{topology_in}

-- refused for a fault, if there is one
abbrev pub unless : {T : Type 0} → Option ConfigFault → Result T ConfigFault → Result T ConfigFault
unless None answer = answer
unless (Some fault) answer = Err fault

-- the settings judged
abbrev pub judged : Settings → Result Topology ConfigFault
judged s = unless (least (faults_in s)) (Ok (topology_in s))

-- a table: its version, the values of its places, and what the values say together
abbrev pub topology_by : Option FileVersion → Members → Result Topology ConfigFault
topology_by None table = Err (Version (codes "version"))
topology_by (Some version) table = unless (least (faults_of version table)) (judged (settings_of table))

abbrev pub topology_of : Members → Result Topology ConfigFault
topology_of table = topology_by (version_of table) table

-- the table that the bytes are
abbrev pub table_of : List ℕ → Option Members
table_of bytes = if nat_lt 1048576 (length bytes) then None else if is_utf8 bytes then parse_document bytes else None

abbrev pub topology_of_table : Option Members → Result Topology ConfigFault
topology_of_table None = Err NotToml
topology_of_table (Some table) = topology_of table

-- the topology that a file of these bytes names, or its first fault
abbrev pub topology_of_file : List ℕ → Result Topology ConfigFault
topology_of_file bytes = topology_of_table (table_of bytes)

-- an answer is this one, or want of memory
abbrev pub Answers : Result Topology ConfigFault → Result Topology ConfigFault → Type 0
Answers expected (Ok topology) = expected ≡ Ok topology
Answers expected (Err fault) = fault ≢ OutOfMemory → expected ≡ Err fault

-- the table of a file that names a topology
abbrev pub IsAccepted : List ℕ → Members → Type 0
IsAccepted bytes table = (table_of bytes ≡ Some table) × ((topology : Topology) × (topology_of table ≡ Ok topology))
