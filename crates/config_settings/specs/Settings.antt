-- The values of a topology file, with the defaults.
use Rattle.std.specs.Prelude.{codes, ℕ, zero, suc, ◌==◌, not, List, [], ◌∷◌, Option, Some, None, option_map, option_and_then, unwrap_or, if◌then◌else◌, bytes_eq, length}
use Rattle.pipe_types.specs.Sound.{is_reason}
use Rattle.pipe_types.specs.declared.topology.CancelMode.{CancelMode}
use Rattle.pipe_types.specs.declared.topology.CancelMode.TheVariants as cancel
use Rattle.pipe_types.specs.declared.topology.ChildMode.{ChildMode}
use Rattle.pipe_types.specs.declared.topology.ChildMode.TheVariants as child
use Rattle.pipe_types.specs.declared.topology.Keep.{Keep}
use Rattle.pipe_types.specs.declared.topology.Keep.TheVariants as keep
use Rattle.pipe_types.specs.declared.topology.Kind.{Kind}
use Rattle.pipe_types.specs.declared.topology.Kind.TheVariants as kind
use Rattle.pipe_types.specs.declared.topology.Dispatch.{Dispatch}
use Rattle.pipe_types.specs.declared.topology.Dispatch.TheVariants as dispatch
use Rattle.pipe_types.specs.declared.topology.Rate.{Rate}
use Rattle.toml.specs.Data.{Items, no_items, item, Members, as_str, as_array, as_table}
use Rattle.config_table.specs.declared.format.Key.{Key}
use Rattle.config_table.specs.declared.format.Key.TheVariants.{Pipeline, Producer, Processors, Supervisor, Batcher, MaxRestarts, MaxSeconds, IdleLimit, RecordLimit, ByteLimit, Control, AllowedMessages, Interval, Name, Source, Mode, BufferSize, BufferKeep, Concurrency, MaxDemand, MinDemand, Cancel, PartitionBy, Kind as KindKey, Steps, Failed, Restart, BatchSize, BatchTimeout, Dispatch as DispatchKey, Select, Sinks}
use Rattle.config_table.specs.declared.format.Shape.{Shape}
use Rattle.config_table.specs.declared.format.Shape.TheVariants as shape
use Rattle.config_table.specs.declared.format.Range.{Range}
use Rattle.config_table.specs.Format as format
use Rattle.config_table.specs.Format.{value_at, number, given}
use Rattle.config_table.specs.Shape.{word_place}
use Rattle.config_settings.specs.declared.settings.Demand.{Demand}
use Rattle.config_settings.specs.declared.settings.OwnLimit.{OwnLimit}
use Rattle.config_settings.specs.declared.settings.Handler.{Handler}
use Rattle.config_settings.specs.declared.settings.ProducerSettings.{ProducerSettings}
use Rattle.config_settings.specs.declared.settings.ProcessorSettings.{ProcessorSettings}
use Rattle.config_settings.specs.declared.settings.SupervisorSettings.{SupervisorSettings}
use Rattle.config_settings.specs.declared.settings.BatcherSettings.{BatcherSettings}
use Rattle.config_settings.specs.declared.settings.Settings.{Settings}

-- ---- single values

abbrev pub text_at : Key → Members → Option (List ℕ)
text_at key table = option_and_then as_str (value_at key table)

-- a required text
abbrev pub text : Key → Members → List ℕ
text key table = unwrap_or (text_at key table) []

-- the place of a word among those of its key, and 0, the default, where none is given
abbrev pub word : Shape → Key → Members → ℕ
word shape key table = unwrap_or (option_and_then (word_place shape) (text_at key table)) 0

abbrev pub cancel_mode : ℕ → CancelMode
cancel_mode zero = cancel.Temporary
cancel_mode (suc zero) = cancel.Transient
cancel_mode (suc (suc n)) = cancel.Permanent

abbrev pub child_mode : ℕ → ChildMode
child_mode zero = child.Temporary
child_mode (suc n) = child.Transient

abbrev pub keep_end : ℕ → Keep
keep_end zero = keep.Last
keep_end (suc n) = keep.First

abbrev pub kind_of : ℕ → Kind
kind_of zero = kind.Steps
kind_of (suc n) = kind.Own

abbrev pub batch_kind : ℕ → Kind
batch_kind zero = kind.Lines
batch_kind (suc zero) = kind.Steps
batch_kind (suc (suc n)) = kind.Own

-- a dispatcher by its word; none for another word
abbrev pub dispatch_of : List ℕ → Option Dispatch
dispatch_of word =
    if bytes_eq word (codes "demand") then Some dispatch.Demand
    else if bytes_eq word (codes "broadcast") then Some dispatch.Broadcast
    else if bytes_eq word (codes "partition") then Some dispatch.Partition
    else None

abbrev pub given_dispatch : Option (List ℕ) → Option Dispatch
given_dispatch None = Some dispatch.Demand
given_dispatch (Some word) = dispatch_of word

abbrev pub reason_of : List ℕ → Option (List ℕ)
reason_of text = if is_reason (Some text) then Some text else None

-- the texts of an array
abbrev pub text_before : Option (List ℕ) → List (List ℕ) → List (List ℕ)
text_before None texts = texts
text_before (Some text) texts = text ∷ texts

abbrev pub texts_in : Items → List (List ℕ)
texts_in no_items = []
texts_in (item d ds) = text_before (as_str d) (texts_in ds)

abbrev pub texts_at : Key → Members → Option (List (List ℕ))
texts_at key table = option_map texts_in (option_and_then as_array (value_at key table))

-- ---- parts of tables

abbrev pub demand_of : Range → Members → Demand
demand_of max_range table =
    record {
      mode = cancel_mode (word shape.Cancel Cancel table);
      min = number (format.min_demand (number max_range MaxDemand table)) MinDemand table;
      max = number max_range MaxDemand table;
    }

-- the limit that a table gives its stages; none of version 1 has its keys
abbrev pub own_limit : Members → OwnLimit
own_limit table = record { max_restarts = given format.max_restarts MaxRestarts table; max_seconds = given format.max_seconds MaxSeconds table }

abbrev pub handler_of : Kind → Members → Handler
handler_of kind table =
    record {
      kind = kind;
      steps = unwrap_or (texts_at Steps table) [];
      failed = option_and_then reason_of (text_at Failed table);
    }

-- ---- tables

abbrev pub producer_of : Members → ProducerSettings
producer_of table =
    record {
      name = text Name table;
      source = text Source table;
      push = not (word shape.Mode Mode table == 0);
      buffer_size = number format.buffer_size BufferSize table;
      keep = keep_end (word shape.Keep BufferKeep table);
      limit = own_limit table;
    }

abbrev pub processors_of : Members → ProcessorSettings
processors_of table =
    record {
      concurrency = number format.processors_concurrency Concurrency table;
      partition_by = given format.partition_by PartitionBy table;
      demand = demand_of format.processors_max table;
      handler = handler_of (kind_of (word shape.Kind KindKey table)) table;
      limit = own_limit table;
    }

abbrev pub supervisor_of : Members → SupervisorSettings
supervisor_of table =
    record {
      restart = child_mode (word shape.Restart Restart table);
      demand = demand_of format.supervisor_max table;
      handler = handler_of (kind_of (word shape.Kind KindKey table)) table;
      limit = own_limit table;
    }

abbrev pub batcher_of : Members → BatcherSettings
batcher_of table =
    record {
      name = text Name table;
      concurrency = number format.batcher_concurrency Concurrency table;
      batch_size = number format.batch_size BatchSize table;
      batch_timeout = number format.batch_timeout BatchTimeout table;
      demand = demand_of (format.batcher_max table) table;
      dispatch = given_dispatch (text_at DispatchKey table);
      handler = handler_of (batch_kind (word shape.BatchKind KindKey table)) table;
      select = texts_at Select table;
      sinks = texts_at Sinks table;
      limit = own_limit table;
    }

-- the tables of an array
abbrev pub producer_before : Option Members → List ProducerSettings → List ProducerSettings
producer_before None producers = producers
producer_before (Some table) producers = producer_of table ∷ producers

abbrev pub producers_in : Items → List ProducerSettings
producers_in no_items = []
producers_in (item d ds) = producer_before (as_table d) (producers_in ds)

abbrev pub batcher_before : Option Members → List BatcherSettings → List BatcherSettings
batcher_before None batchers = batchers
batcher_before (Some table) batchers = batcher_of table ∷ batchers

abbrev pub batchers_in : Items → List BatcherSettings
batchers_in no_items = []
batchers_in (item d ds) = batcher_before (as_table d) (batchers_in ds)

abbrev pub producers_at : Option Items → List ProducerSettings
producers_at None = []
producers_at (Some items) = producers_in items

abbrev pub batchers_at : Option Items → List BatcherSettings
batchers_at None = []
batchers_at (Some items) = batchers_in items

-- ---- the file

-- a table of the file, empty where there is none
abbrev pub table_at : Key → Members → Option Members
table_at key table = option_and_then as_table (value_at key table)

abbrev pub array_at : Key → Members → Option Items
array_at key table = option_and_then as_array (value_at key table)

abbrev pub pipeline_number : Range → Key → Option Members → ℕ
pipeline_number range key None = range.default
pipeline_number range key (Some table) = number range key table

-- what is let in, where both the number of messages and the interval are given
abbrev pub rate_of : (allowed interval : Option ℕ) → Option Rate
rate_of (Some allowed) (Some interval) = Some (record { allowed = allowed; interval = interval })
rate_of _ _ = None

abbrev pub rate_in : (producers : ℕ) → Option Members → Option Rate
rate_in producers None = None
rate_in producers (Some table) = rate_of (given (format.allowed_messages producers) AllowedMessages table) (given format.interval Interval table)

abbrev pub settings_of : Members → Settings
settings_of table =
    record {
      max_restarts = pipeline_number format.max_restarts MaxRestarts (table_at Pipeline table);
      max_seconds = pipeline_number format.max_seconds MaxSeconds (table_at Pipeline table);
      idle_limit = pipeline_number format.idle_limit IdleLimit (table_at Pipeline table);
      record_limit = pipeline_number format.record_limit RecordLimit (table_at Pipeline table);
      byte_limit = pipeline_number format.byte_limit ByteLimit (table_at Pipeline table);
      control = option_and_then (text_at Control) (table_at Pipeline table);
      rate = rate_in (length (producers_at (array_at Producer table))) (table_at Pipeline table);
      producers = producers_at (array_at Producer table);
      processors = option_map processors_of (table_at Processors table);
      supervisor = option_map supervisor_of (table_at Supervisor table);
      batchers = batchers_at (array_at Batcher table);
    }
