-- The topology of settings: producers, then processors or the supervisor, then batchers, then batch processors.
use Rattle.std.specs.Prelude.{codes, ℕ, zero, suc, ◌+◌, false, List, [], ◌∷◌, ◌++◌, length, map, Option, Some, None, unwrap_or, option_and_then, filter_map, slice_get}
use Rattle.pipe_types.specs.declared.topology.Topology.{Topology}
use Rattle.pipe_types.specs.declared.topology.StageSpec.{StageSpec}
use Rattle.pipe_types.specs.declared.topology.Role.{Role}
use Rattle.pipe_types.specs.declared.topology.Role.TheVariants as role
use Rattle.pipe_types.specs.declared.topology.Dispatch.{Dispatch}
use Rattle.pipe_types.specs.declared.topology.Dispatch.TheVariants.{Demand, Partition}
use Rattle.pipe_types.specs.declared.topology.Keep.TheVariants.{Last}
use Rattle.pipe_types.specs.declared.topology.Kind.TheVariants.{Steps}
use Rattle.pipe_types.specs.declared.topology.CancelMode.TheVariants as cancel
use Rattle.pipe_types.specs.declared.topology.ChildMode.TheVariants as child
use Rattle.pipe_types.specs.declared.topology.Rule.{Rule}
use Rattle.pipe_types.specs.Numbers.{stage}
use Rattle.pipe_types.specs.Sound.{numbered_name}
use Rattle.config_rule.specs.RuleText.{rule_of}
use Rattle.config_settings.specs.declared.settings.ProducerSettings.{ProducerSettings}
use Rattle.config_settings.specs.declared.settings.ProcessorSettings.{ProcessorSettings}
use Rattle.config_settings.specs.declared.settings.SupervisorSettings.{SupervisorSettings}
use Rattle.config_settings.specs.declared.settings.BatcherSettings.{BatcherSettings}
use Rattle.config_settings.specs.declared.settings.Settings.{Settings}
use Rattle.config_judge.specs.Judge.{batcher_names, processor_count, supervisor_count}
use Rattle.config_build.specs.Limits.{limit_place, next_place, places_after, limits_of, producer_limits, processor_limits, supervisor_limits}

-- a stage with its number, its name and its place in its group, and no other field
abbrev pub blank_stage : ℕ → List ℕ → Role → ℕ → StageSpec
blank_stage number name role index =
    record { no = stage number; name = name; role = role; index = index; batcher = 0; dispatch = Demand; parts = 0; field = 0; size = None; keep = Last; push = false; mode = cancel.Temporary; min = 0; max = 0; kind = Steps; rules = []; failed = None; edge = None; batch_size = 0; batch_timeout = 0; child = child.Temporary; batchers = 0; select = []; limit = 0 }

-- the rules of texts, where these are the batchers' names
abbrev pub rules_of : (known : List (List ℕ)) → List (List ℕ) → List Rule
rules_of known = filter_map (rule_of known)

-- producers send by demand, or by a field to as many parts as there are processors
abbrev pub dispatch_by : Option ℕ → Dispatch
dispatch_by None = Demand
dispatch_by (Some field) = Partition

abbrev pub parts_by : Option ℕ → ℕ → ℕ
parts_by None n = 0
parts_by (Some field) n = n

abbrev pub field_by : Option ℕ → ℕ
field_by None = 0
field_by (Some field) = field

abbrev pub producer_stage : Option ℕ → ℕ → (limit : ℕ) → ℕ → ProducerSettings → StageSpec
producer_stage field n limit i p =
    record (blank_stage (i + 1) p.name role.Producer i)
    { dispatch = dispatch_by field; parts = parts_by field n; field = field_by field; size = Some p.buffer_size; keep = p.keep; push = p.push; edge = Some p.source; limit = limit }

-- each with its own limit, from a place on, or the pipeline's
abbrev pub producer_stages : Option ℕ → ℕ → (next : ℕ) → ℕ → List ProducerSettings → List StageSpec
producer_stages field parts next i [] = []
producer_stages field parts next i (p ∷ producers) = producer_stage field parts (limit_place next p.limit) i p ∷ producer_stages field parts (next_place next p.limit) (i + 1) producers

-- processors send a message to the batcher that it names, where there are batchers
abbrev pub dispatch_to : ℕ → Dispatch
dispatch_to zero = Demand
dispatch_to (suc n) = Partition

abbrev pub processor_stage : (known : List (List ℕ)) → ProcessorSettings → (before limit : ℕ) → ℕ → StageSpec
processor_stage known p before limit i =
    record (blank_stage (before + i + 1) (numbered_name (codes "processors") i) role.Processor i)
    { dispatch = dispatch_to (length known); parts = length known; batchers = length known; mode = p.demand.mode; min = p.demand.min; max = p.demand.max; kind = p.handler.kind; rules = rules_of known p.handler.steps; failed = p.handler.failed; limit = limit }

-- the places below n, from one on
abbrev pub places : ℕ → ℕ → List ℕ
places i zero = []
places i (suc n) = i ∷ places (i + 1) n

abbrev pub processor_stages : (known : List (List ℕ)) → (before next : ℕ) → Option ProcessorSettings → List StageSpec
processor_stages known before next None = []
processor_stages known before next (Some p) = map (processor_stage known p before (limit_place next p.limit)) (places 0 p.concurrency)

abbrev pub supervisor_stage : (before limit : ℕ) → SupervisorSettings → StageSpec
supervisor_stage before limit s =
    record (blank_stage (before + 1) (codes "supervisor") role.Supervisor 0)
    { mode = s.demand.mode; min = s.demand.min; max = s.demand.max; kind = s.handler.kind; rules = rules_of [] s.handler.steps; failed = s.handler.failed; child = s.restart; limit = limit }

abbrev pub supervisor_stages : (before next : ℕ) → Option SupervisorSettings → List StageSpec
supervisor_stages before next None = []
supervisor_stages before next (Some s) = supervisor_stage before (limit_place next s.limit) s ∷ []

-- with the partition dispatcher there is a part for each batch processor
abbrev pub parts_of : Dispatch → ℕ → ℕ
parts_of Partition n = n
parts_of _ n = 0

abbrev pub batcher_stage : (before limit : ℕ) → ℕ → BatcherSettings → StageSpec
batcher_stage before limit i b =
    record (blank_stage (before + i + 1) b.name role.Batcher i)
    { batcher = i; dispatch = unwrap_or b.dispatch Demand; parts = parts_of (unwrap_or b.dispatch Demand) b.concurrency; mode = b.demand.mode; min = b.demand.min; max = b.demand.max; batch_size = b.batch_size; batch_timeout = b.batch_timeout; limit = limit }

abbrev pub batcher_stages : (before next : ℕ) → ℕ → List BatcherSettings → List StageSpec
batcher_stages before next i [] = []
batcher_stages before next i (b ∷ batchers) = batcher_stage before (limit_place next b.limit) i b ∷ batcher_stages before (next_place next b.limit) (i + 1) batchers

-- the sink at a place, where the batcher has sinks
abbrev pub sink_at : Option (List (List ℕ)) → ℕ → Option (List ℕ)
sink_at sinks i = option_and_then (λ names. slice_get names i) sinks

-- what the batches of the batch processor at a place begin with: nothing where the batcher has no selectors
abbrev pub select_at : Option (List (List ℕ)) → ℕ → List ℕ
select_at texts i = unwrap_or (option_and_then (λ ts. slice_get ts i) texts) []

abbrev pub batch_processor_stage : (k : ℕ) → BatcherSettings → (before limit : ℕ) → ℕ → StageSpec
batch_processor_stage k b before limit i =
    record (blank_stage (before + i + 1) (numbered_name b.name i) role.BatchProcessor i)
    { batcher = k; mode = b.demand.mode; max = 1; kind = b.handler.kind; rules = rules_of [] b.handler.steps; failed = b.handler.failed; edge = sink_at b.sinks i; select = select_at b.select i; limit = limit }

-- a batcher's limit covers its batch processors
abbrev pub batch_processor_stages : (before next : ℕ) → (k : ℕ) → List BatcherSettings → List StageSpec
batch_processor_stages before next k [] = []
batch_processor_stages before next k (b ∷ batchers) = map (batch_processor_stage k b before (limit_place next b.limit)) (places 0 b.concurrency) ++ batch_processor_stages (before + b.concurrency) (next_place next b.limit) (k + 1) batchers

abbrev pub partition_field : Option ProcessorSettings → Option ℕ
partition_field = option_and_then (λ p. p.partition_by)

-- the places of the limits of processors, of a supervisor and of batchers
abbrev pub second_limit : Settings → ℕ
second_limit s = places_after 1 (producer_limits s.producers)

abbrev pub third_limit : Settings → ℕ
third_limit s = places_after (second_limit s) (processor_limits s.processors)

abbrev pub fourth_limit : Settings → ℕ
fourth_limit s = places_after (third_limit s) (supervisor_limits s.supervisor)

-- the stages in number order
abbrev pub stages_of : Settings → List StageSpec
stages_of s =
    let known = batcher_names s.batchers in
    let first = length s.producers in
    let second = first + processor_count s.processors + supervisor_count s.supervisor in
    producer_stages (partition_field s.processors) (processor_count s.processors) 1 0 s.producers
    ++ (processor_stages known first (second_limit s) s.processors
    ++ (supervisor_stages first (third_limit s) s.supervisor
    ++ (batcher_stages second (fourth_limit s) 0 s.batchers
    ++ batch_processor_stages (second + length s.batchers) (fourth_limit s) 0 s.batchers)))

abbrev pub topology_in : Settings → Topology
topology_in s =
    record { stages = stages_of s; limits = limits_of s; idle_limit = s.idle_limit; record_limit = s.record_limit; byte_limit = s.byte_limit; control = s.control; rate = s.rate }
