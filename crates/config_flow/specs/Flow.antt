-- The topology of one pull producer and one processor that wants a prefix, and the table of a file that gives it.
use Rattle.std.specs.Prelude.{codes, ℕ, false, List, [], ◌∷◌, ◌++◌, Some, None, pos}
use Rattle.pipe_types.specs.declared.topology.Topology.{Topology}
use Rattle.pipe_types.specs.declared.topology.StageSpec.{StageSpec}
use Rattle.pipe_types.specs.declared.topology.Role.TheVariants.{Producer, Processor}
use Rattle.pipe_types.specs.declared.topology.Dispatch.TheVariants.{Demand}
use Rattle.pipe_types.specs.declared.topology.Keep.TheVariants.{Last}
use Rattle.pipe_types.specs.declared.topology.Kind.TheVariants.{Steps}
use Rattle.pipe_types.specs.declared.topology.CancelMode.TheVariants as cancel
use Rattle.pipe_types.specs.declared.topology.ChildMode.TheVariants as child
use Rattle.pipe_types.specs.declared.topology.Rule.TheVariants.{Require}
use Rattle.pipe_types.specs.Numbers.{stage}
use Rattle.config_settings.specs.declared.settings.OwnLimit.{OwnLimit}
use Rattle.config_settings.specs.declared.settings.ProducerSettings.{ProducerSettings}
use Rattle.config_settings.specs.declared.settings.ProcessorSettings.{ProcessorSettings}
use Rattle.config_settings.specs.declared.settings.Settings.{Settings}
use Rattle.toml.specs.Data.{Members, no_members, member, no_items, item, string, integer, array, table}

-- a pull producer named `source` that reads SOURCE
abbrev pub source_stage : (source : List ℕ) → StageSpec
source_stage source =
    record { no = stage 1; name = codes "source"; role = Producer; index = 0; batcher = 0; dispatch = Demand; parts = 0; field = 0; size = Some 10000; keep = Last; push = false; mode = cancel.Temporary; min = 0; max = 0; kind = Steps; rules = []; failed = None; edge = Some source; batch_size = 0; batch_timeout = 0; child = child.Temporary; batchers = 0; select = []; limit = 0 }

-- the only processor, which fails each message that does not begin with PREFIX
abbrev pub require_stage : (prefix : List ℕ) → StageSpec
require_stage prefix =
    record { no = stage 2; name = codes "processors.0"; role = Processor; index = 0; batcher = 0; dispatch = Demand; parts = 0; field = 0; size = None; keep = Last; push = false; mode = cancel.Temporary; min = 5; max = 10; kind = Steps; rules = Require prefix ∷ []; failed = None; edge = None; batch_size = 0; batch_timeout = 0; child = child.Temporary; batchers = 0; select = []; limit = 0 }

-- the two stages, with at most 3 restarts in 5 seconds and no control source
abbrev pub flow_topology_of : (source prefix : List ℕ) → Topology
flow_topology_of source prefix =
    record { stages = source_stage source ∷ require_stage prefix ∷ []; limits = record { max_restarts = 3; window_ms = 5000 } ∷ []; idle_limit = 0; record_limit = 200000; byte_limit = 67108864; control = None; rate = None }

-- ---- the file: `version = 1`, a producer and the processors

-- `name = "source"` and `source = "SOURCE"`
abbrev pub producer_table : (source : List ℕ) → Members
producer_table source = member (codes "name") (string (codes "source")) (member (codes "source") (string source) no_members)

-- `concurrency = 1` and `steps = ["require PREFIX"]`
abbrev pub processors_table : (prefix : List ℕ) → Members
processors_table prefix =
    member (codes "concurrency") (integer (pos 1))
    (member (codes "steps") (array (item (string (codes "require " ++ prefix)) no_items)) no_members)

-- the table of the file, its keys in byte order
abbrev pub flow_table : (source prefix : List ℕ) → Members
flow_table source prefix =
    member (codes "processors") (table (processors_table prefix))
    (member (codes "producer") (array (item (table (producer_table source)) no_items))
    (member (codes "version") (integer (pos 1)) no_members))

-- ---- the values that the file and the default give

-- the pipeline's limit on restarts
abbrev pub no_limit : OwnLimit
no_limit = record { max_restarts = None; max_seconds = None }

-- a pull producer with a buffer of the default size
abbrev pub source_settings : (source : List ℕ) → ProducerSettings
source_settings source = record { name = codes "source"; source = source; push = false; buffer_size = 10000; keep = Last; limit = no_limit }

-- one processor with the default demand and this one rule
abbrev pub require_settings : (prefix : List ℕ) → ProcessorSettings
require_settings prefix =
    record {
      concurrency = 1;
      partition_by = None;
      demand = record { mode = cancel.Temporary; min = 5; max = 10 };
      handler = record { kind = Steps; steps = (codes "require " ++ prefix) ∷ []; failed = None };
      limit = no_limit;
    }

-- one pull producer, one processor, and no batcher
abbrev pub flow_settings : (source prefix : List ℕ) → Settings
flow_settings source prefix =
    record {
      max_restarts = 3;
      max_seconds = 5;
      idle_limit = 0;
      record_limit = 200000;
      byte_limit = 67108864;
      control = None;
      rate = None;
      producers = source_settings source ∷ [];
      processors = Some (require_settings prefix);
      supervisor = None;
      batchers = [];
    }
