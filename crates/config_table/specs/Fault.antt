-- The faults of a topology file: their numbers and paths, and which of several counts.
use Rattle.std.specs.Prelude.{codes, ℕ, List, [], ◌∷◌, ◌++◌, Option, Some, None, decimal, nat_lt, if◌then◌else◌}
use Rattle.config_table.specs.declared.fault.ConfigFault.{ConfigFault}
use Rattle.config_table.specs.declared.fault.ConfigFault.TheVariants.{NotToml, Version, UnknownKey, Missing, WrongType, OutOfRange, DuplicateName, UnknownBatcher, NoStage, TooManyStages, BadDispatch, Unreachable, OutOfMemory}

-- the faults are tried in the order of these numbers
abbrev pub number_of : ConfigFault → ℕ
number_of NotToml = 1
number_of (Version path) = 2
number_of (UnknownKey path) = 3
number_of (Missing path) = 4
number_of (WrongType path) = 5
number_of (OutOfRange path) = 6
number_of (DuplicateName path) = 7
number_of (UnknownBatcher path) = 8
number_of NoStage = 9
number_of TooManyStages = 10
number_of (BadDispatch path) = 11
number_of (Unreachable path) = 12
number_of OutOfMemory = 0

-- of two faults the one of the lower number, and of two of one number the first
abbrev pub sooner : Option ConfigFault → Option ConfigFault → Option ConfigFault
sooner None b = b
sooner (Some a) None = Some a
sooner (Some a) (Some b) = if nat_lt (number_of b) (number_of a) then Some b else Some a

-- of the faults of a walk the first of the lowest number
abbrev pub least : List ConfigFault → Option ConfigFault
least [] = None
least (fault ∷ faults) = sooner (Some fault) (least faults)

-- a path joins keys and positions by dots
abbrev pub under : List ℕ → List ℕ → List ℕ
under path key = path ++ (codes "." ++ key)

abbrev pub at_place : List ℕ → ℕ → List ℕ
at_place path i = under path (decimal i)
