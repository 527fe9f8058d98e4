-- The tables of a topology file: for each key its type, its range and its default. Rows stand in byte order of their keys.
use Rattle.std.specs.Prelude.{codes, ℕ, ◌-◌, ◌/◌, Bool, true, false, List, [], ◌∷◌, Option, Some, None, if◌then◌else◌, ℤ, pos, negsuc, option_and_then, bytes_eq, is_some, min, max}
use Rattle.pipe_types.specs.Sound.{is_between}
use Rattle.toml.specs.Data.{Data, Members, get_member, as_integer, as_str}
use Rattle.config_table.specs.declared.format.FileVersion.{FileVersion}
use Rattle.config_table.specs.declared.format.FileVersion.TheVariants as version
use Rattle.config_table.specs.declared.format.Key.{Key}
use Rattle.config_table.specs.declared.format.Key.TheVariants.{Version, Pipeline, Producer, Processors, Supervisor, Batcher, MaxRestarts, MaxSeconds, IdleLimit, RecordLimit, ByteLimit, Control, AllowedMessages, Interval, Name, Source, Mode, BufferSize, BufferKeep, Concurrency, MaxDemand, MinDemand, Cancel, PartitionBy, Kind, Steps, Failed, Restart, BatchSize, BatchTimeout, Dispatch, Select, Sinks}
use Rattle.config_table.specs.declared.format.Range.{Range}
use Rattle.config_table.specs.declared.format.Shape.TheVariants as shape
use Rattle.config_table.specs.declared.format.Form.{Form}
use Rattle.config_table.specs.declared.format.Form.TheVariants.{Whole, Text, RuleTexts, SinkTexts, SelectTexts}
use Rattle.config_table.specs.declared.format.Row.{Row}
use Rattle.config_table.specs.declared.format.Section.{Section}
use Rattle.config_table.specs.declared.format.Section.TheVariants as section

-- ---- the versions of the file

abbrev pub is_two : FileVersion → Bool
is_two version.One = false
is_two version.Two = true

-- a file of this version has the keys that came with that one
abbrev pub has : FileVersion → (since : FileVersion) → Bool
has v version.One = true
has v version.Two = is_two v

-- ---- keys

abbrev pub key_name : Key → List ℕ
key_name Version = codes "version"
key_name Pipeline = codes "pipeline"
key_name Producer = codes "producer"
key_name Processors = codes "processors"
key_name Supervisor = codes "supervisor"
key_name Batcher = codes "batcher"
key_name MaxRestarts = codes "max_restarts"
key_name MaxSeconds = codes "max_seconds"
key_name IdleLimit = codes "idle_limit"
key_name RecordLimit = codes "record_limit"
key_name ByteLimit = codes "byte_limit"
key_name Control = codes "control"
key_name AllowedMessages = codes "allowed_messages"
key_name Interval = codes "interval"
key_name Name = codes "name"
key_name Source = codes "source"
key_name Mode = codes "mode"
key_name BufferSize = codes "buffer_size"
key_name BufferKeep = codes "buffer_keep"
key_name Concurrency = codes "concurrency"
key_name MaxDemand = codes "max_demand"
key_name MinDemand = codes "min_demand"
key_name Cancel = codes "cancel"
key_name PartitionBy = codes "partition_by"
key_name Kind = codes "kind"
key_name Steps = codes "steps"
key_name Failed = codes "failed"
key_name Restart = codes "restart"
key_name BatchSize = codes "batch_size"
key_name BatchTimeout = codes "batch_timeout"
key_name Dispatch = codes "dispatch"
key_name Select = codes "select"
key_name Sinks = codes "sinks"

-- what a table holds at a key
abbrev pub value_at : Key → Members → Option Data
value_at key table = get_member (key_name key) table

-- ---- whole numbers

-- from low to high, and what stands for a number that is not given
abbrev pub range : ℕ → ℕ → ℕ → Range
range low high default = record { low = low; high = high; default = default }

abbrev pub is_in : Range → ℤ → Bool
is_in r (pos n) = is_between r.low r.high n
is_in r (negsuc n) = false

-- the number, where one in the range is given
abbrev pub given_number : Range → Option ℤ → Option ℕ
given_number r (Some (pos n)) = if is_between r.low r.high n then Some n else None
given_number r _ = None

abbrev pub given : Range → Key → Members → Option ℕ
given r key table = given_number r (option_and_then as_integer (value_at key table))

-- the number, or the default
abbrev pub or_default : Range → Option ℕ → ℕ
or_default r None = r.default
or_default r (Some n) = n

abbrev pub number : Range → Key → Members → ℕ
number r key table = or_default r (given r key table)

-- ---- ranges and defaults

abbrev pub max_restarts : Range
max_restarts = range 0 1000 3

abbrev pub max_seconds : Range
max_seconds = range 1 3600 5

abbrev pub idle_limit : Range
idle_limit = range 0 1000000 0

abbrev pub record_limit : Range
record_limit = range 1 2000000 200000

abbrev pub byte_limit : Range
byte_limit = range 1 536870912 67108864

-- at least one for each producer, with no default: where more than 1000000 would be needed, no number is in the range
abbrev pub allowed_messages : (producers : ℕ) → Range
allowed_messages producers = range (min (max producers 1) 1000001) 1000000 1

-- a length of time, which has no default
abbrev pub interval : Range
interval = range 1 3600000 1

abbrev pub buffer_size : Range
buffer_size = range 0 200000 10000

abbrev pub processors_concurrency : Range
processors_concurrency = range 1 32 2

abbrev pub processors_max : Range
processors_max = range 1 10000 10

-- a field number, which has no default
abbrev pub partition_by : Range
partition_by = range 0 255 0

abbrev pub supervisor_max : Range
supervisor_max = range 1 16 10

abbrev pub batcher_concurrency : Range
batcher_concurrency = range 1 16 1

abbrev pub batch_size : Range
batch_size = range 1 10000 100

abbrev pub batch_timeout : Range
batch_timeout = range 1 3600000 1000

-- a batcher asks for a batch at a time
abbrev pub batcher_max : Members → Range
batcher_max table = range 1 10000 (number batch_size BatchSize table)

-- below max_demand, and by default half of it
abbrev pub min_demand : (max : ℕ) → Range
min_demand max = range 0 (max - 1) (max / 2)

-- ---- the dispatcher

abbrev pub is_broadcast_word : Option (List ℕ) → Bool
is_broadcast_word None = false
is_broadcast_word (Some word) = bytes_eq word (codes "broadcast")

-- the dispatcher of the batcher's table is the one that broadcasts
abbrev pub does_broadcast : Members → Bool
does_broadcast table = is_broadcast_word (option_and_then as_str (value_at Dispatch table))

-- ---- the tables, with the keys of every version

abbrev pub row : Key → Form → Row
row key form = record { key = key; since = version.One; required = false; form = form }

-- a key that a file of version 1 does not have
abbrev pub later_row : Key → Form → Row
later_row key form = record { key = key; since = version.Two; required = false; form = form }

-- and one that stands where another does
abbrev pub paired_row : Key → (required : Bool) → Form → Row
paired_row key required form = record { key = key; since = version.Two; required = required; form = form }

abbrev pub required_row : Key → Form → Row
required_row key form = record { key = key; since = version.One; required = true; form = form }

-- the two keys of a rate stand together
abbrev pub pipeline_rows : (producers : ℕ) → (has_allowed has_interval : Bool) → List Row
pipeline_rows producers has_allowed has_interval =
    paired_row AllowedMessages has_interval (Whole (allowed_messages producers))
    ∷ later_row ByteLimit (Whole byte_limit)
    ∷ row Control (Text shape.Edge)
    ∷ row IdleLimit (Whole idle_limit)
    ∷ paired_row Interval has_allowed (Whole interval)
    ∷ row MaxRestarts (Whole max_restarts)
    ∷ row MaxSeconds (Whole max_seconds)
    ∷ later_row RecordLimit (Whole record_limit)
    ∷ []

abbrev pub producer_rows : List Row
producer_rows =
    row BufferKeep (Text shape.Keep)
    ∷ row BufferSize (Whole buffer_size)
    ∷ later_row MaxRestarts (Whole max_restarts)
    ∷ later_row MaxSeconds (Whole max_seconds)
    ∷ row Mode (Text shape.Mode)
    ∷ required_row Name (Text shape.Name)
    ∷ required_row Source (Text shape.Source)
    ∷ []

abbrev pub processors_rows : (max : ℕ) → List Row
processors_rows max =
    row Cancel (Text shape.Cancel)
    ∷ row Concurrency (Whole processors_concurrency)
    ∷ row Failed (Text shape.Reason)
    ∷ row Kind (Text shape.Kind)
    ∷ row MaxDemand (Whole processors_max)
    ∷ later_row MaxRestarts (Whole max_restarts)
    ∷ later_row MaxSeconds (Whole max_seconds)
    ∷ row MinDemand (Whole (min_demand max))
    ∷ row PartitionBy (Whole partition_by)
    ∷ row Steps RuleTexts
    ∷ []

abbrev pub supervisor_rows : (max : ℕ) → List Row
supervisor_rows max =
    row Cancel (Text shape.Cancel)
    ∷ row Failed (Text shape.Reason)
    ∷ row Kind (Text shape.Kind)
    ∷ row MaxDemand (Whole supervisor_max)
    ∷ later_row MaxRestarts (Whole max_restarts)
    ∷ later_row MaxSeconds (Whole max_seconds)
    ∷ row MinDemand (Whole (min_demand max))
    ∷ row Restart (Text shape.Restart)
    ∷ row Steps RuleTexts
    ∷ []

abbrev pub batcher_rows : (max_range : Range) → (max concurrency : ℕ) → (is_broadcast : Bool) → List Row
batcher_rows max_range max concurrency is_broadcast =
    row BatchSize (Whole batch_size)
    ∷ row BatchTimeout (Whole batch_timeout)
    ∷ row Cancel (Text shape.Cancel)
    ∷ row Concurrency (Whole batcher_concurrency)
    ∷ row Dispatch (Text shape.Any)
    ∷ row Failed (Text shape.Reason)
    ∷ row Kind (Text shape.BatchKind)
    ∷ row MaxDemand (Whole max_range)
    ∷ later_row MaxRestarts (Whole max_restarts)
    ∷ later_row MaxSeconds (Whole max_seconds)
    ∷ row MinDemand (Whole (min_demand max))
    ∷ required_row Name (Text shape.Name)
    ∷ row Select (SelectTexts concurrency is_broadcast)
    ∷ row Sinks (SinkTexts concurrency)
    ∷ row Steps RuleTexts
    ∷ []

abbrev pub rows : Section → Members → List Row
rows (section.Pipeline producers) table = pipeline_rows producers (is_some (value_at AllowedMessages table)) (is_some (value_at Interval table))
rows section.Producer table = producer_rows
rows section.Processors table = processors_rows (number processors_max MaxDemand table)
rows section.Supervisor table = supervisor_rows (number supervisor_max MaxDemand table)
rows section.Batcher table = batcher_rows (batcher_max table) (number (batcher_max table) MaxDemand table) (number batcher_concurrency Concurrency table) (does_broadcast table)
