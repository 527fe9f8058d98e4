-- Rows: which topologies are sound.
use Rattle.std.proofs.Common.{◌≡◌, refl}
use Rattle.std.specs.Prelude.{ℕ, Bool, true, false, List, [], ◌∷◌, ◌++◌, map, codes, replicate, Some, None}
use Rattle.std.specs.Fmt.{digits}
use Rattle.pipe_types.specs.declared.topology.Topology.{Topology}
use Rattle.pipe_types.specs.declared.topology.StageSpec.{StageSpec}
use Rattle.pipe_types.specs.declared.topology.Rule.TheVariants.{Pass as PassRule, Route, Key, Crash as CrashRule, FailEvery}
use Rattle.pipe_types.specs.declared.topology.Dispatch.{Dispatch}
use Rattle.pipe_types.specs.declared.topology.Dispatch.TheVariants.{Demand, Broadcast, Partition}
use Rattle.pipe_types.specs.declared.topology.Keep.TheVariants.{First}
use Rattle.pipe_types.specs.declared.topology.CancelMode.TheVariants.{Transient, Permanent}
use Rattle.pipe_types.specs.declared.topology.Kind.TheVariants.{Steps, Lines, Own}
use Rattle.pipe_types.specs.declared.topology.ChildMode.TheVariants.{Temporary as TemporaryChild, Transient as TransientChild}
use Rattle.model_checks.proofs.Base.{is_sound, producer, processor, with_stages, one_each, feeding, batcher, batch_processor, supervisor, one_ruled, strict, two_processors, two_producers, by_key, supervised, limited}

-- The small pipelines

all_sound : map is_sound (one_each ∷ strict ∷ two_processors ∷ two_producers ∷ by_key ∷ supervised
    ∷ one_ruled (CrashRule (codes "!") ∷ FailEvery 4 ∷ []) ∷ []) ≡ replicate 7 true
unfolding digits
all_sound = refl

abbrev first_producer : StageSpec
first_producer = producer 1 (codes "p") 0

abbrev worker : StageSpec
worker = processor 2 (codes "processors.0") 0 []

abbrev feeder : StageSpec
feeder = feeding 1 worker

abbrev collector : StageSpec
collector = batcher 3 (codes "b") 0

abbrev writer : StageSpec
writer = batch_processor 4 (codes "b.0") 0 0

-- the verdicts on one pipeline for each of these stages in the place of the producer, the processor, the batcher, the batch processor
abbrev as_producer : List StageSpec → List Bool
as_producer = map (λ s. is_sound (with_stages (s ∷ worker ∷ [])))

abbrev as_processor : List StageSpec → List Bool
as_processor = map (λ s. is_sound (with_stages (first_producer ∷ s ∷ [])))

abbrev as_feeder : List StageSpec → List Bool
as_feeder = map (λ s. is_sound (with_stages (first_producer ∷ s ∷ collector ∷ writer ∷ [])))

abbrev as_batcher : List StageSpec → List Bool
as_batcher = map (λ s. is_sound (with_stages (first_producer ∷ feeder ∷ s ∷ writer ∷ [])))

abbrev as_writer : List StageSpec → List Bool
as_writer = map (λ s. is_sound (with_stages (first_producer ∷ feeder ∷ collector ∷ s ∷ [])))

-- Which stages there are, and in which order

-- no producer, nothing behind the producers, both kinds of consumers, a supervisor beside a batcher
missing_stages : map (λ stages. is_sound (with_stages stages))
    ([] ∷ (first_producer ∷ []) ∷ (processor 1 (codes "processors.0") 0 [] ∷ []) ∷ (first_producer ∷ worker ∷ supervisor 3 [] ∷ [])
    ∷ (first_producer ∷ supervisor 2 [] ∷ collector ∷ writer ∷ []) ∷ []) ≡ replicate 5 false
unfolding digits
missing_stages = refl

-- a batcher without a batch processor, batch processors without a batcher, two supervisors, a processor before the producer
wrong_order : map (λ stages. is_sound (with_stages stages)) ((first_producer ∷ feeder ∷ collector ∷ [])
    ∷ (first_producer ∷ worker ∷ batch_processor 3 (codes "b.0") 0 0 ∷ []) ∷ (first_producer ∷ supervisor 2 [] ∷ supervisor 3 [] ∷ [])
    ∷ (processor 1 (codes "processors.0") 0 [] ∷ producer 2 (codes "p") 0 ∷ []) ∷ []) ≡ replicate 4 false
unfolding digits
wrong_order = refl

-- numbers and indices one after another
wrong_numbers : map (λ stages. is_sound (with_stages stages))
    ((producer 0 (codes "p") 0 ∷ processor 1 (codes "processors.0") 0 [] ∷ [])
    ∷ (first_producer ∷ processor 3 (codes "processors.0") 0 [] ∷ []) ∷ (producer 1 (codes "p") 1 ∷ worker ∷ [])
    ∷ (first_producer ∷ processor 2 (codes "processors.1") 1 [] ∷ [])
    ∷ (first_producer ∷ producer 2 (codes "q") 0 ∷ processor 3 (codes "processors.0") 0 [] ∷ []) ∷ []) ≡ replicate 5 false
unfolding digits
wrong_numbers = refl

-- Names

producer_names : as_producer (producer 1 (codes "a-z_09") 0 ∷ producer 1 [] 0 ∷ producer 1 (codes "P") 0 ∷ producer 1 (codes "p.q") 0
    ∷ producer 1 (codes "processors") 0 ∷ producer 1 (codes "supervisor") 0 ∷ producer 1 (replicate 32 97) 0
    ∷ producer 1 (replicate 33 97) 0 ∷ []) ≡ true ∷ false ∷ false ∷ false ∷ false ∷ false ∷ true ∷ false ∷ []
unfolding digits
producer_names = refl

processor_names : as_processor (worker ∷ processor 2 (codes "processors.1") 0 [] ∷ processor 2 (codes "processors") 0 []
    ∷ processor 2 (codes "p") 0 [] ∷ []) ≡ true ∷ false ∷ false ∷ false ∷ []
unfolding digits
processor_names = refl

supervisor_names : as_processor (supervisor 2 [] ∷ record (supervisor 2 []) { name = codes "supervisor.0" } ∷ []) ≡ true ∷ false ∷ []
unfolding digits
supervisor_names = refl

writer_names : as_writer (writer ∷ batch_processor 4 (codes "b.1") 0 0 ∷ batch_processor 4 (codes "c.0") 0 0
    ∷ batch_processor 4 (codes "b") 0 0 ∷ []) ≡ true ∷ false ∷ false ∷ false ∷ []
unfolding digits
writer_names = refl

-- no name twice, also not a producer's and a batcher's
same_names : map (λ stages. is_sound (with_stages stages)) ((first_producer ∷ producer 2 (codes "p") 1
    ∷ processor 3 (codes "processors.0") 0 [] ∷ []) ∷ (producer 1 (codes "b") 0 ∷ feeder ∷ collector ∷ writer ∷ []) ∷ [])
    ≡ replicate 2 false
unfolding digits
same_names = refl

-- A producer

-- any buffer of at most 200,000, either end kept, pull or push; and no other field
producer_buffers : as_producer (record first_producer { size = Some 0 } ∷ record first_producer { size = Some 200000 }
    ∷ record first_producer { size = Some 200001 } ∷ record first_producer { size = None }
    ∷ record first_producer { keep = First; push = true } ∷ []) ≡ true ∷ true ∷ false ∷ false ∷ true ∷ []
unfolding digits
producer_buffers = refl

producer_source : as_producer (record first_producer { edge = None } ∷ record first_producer { edge = Some [] } ∷ []) ≡ false ∷ true ∷ []
unfolding digits
producer_source = refl

-- partitions are as many as there are processors, by a field up to 255
producer_partitions : as_producer (record first_producer { dispatch = Partition; parts = 1; field = 255 }
    ∷ record first_producer { dispatch = Partition; parts = 1; field = 256 } ∷ record first_producer { dispatch = Partition; parts = 2 }
    ∷ record first_producer { dispatch = Broadcast } ∷ record first_producer { field = 1 } ∷ record first_producer { parts = 1 } ∷ [])
    ≡ true ∷ false ∷ false ∷ false ∷ false ∷ false ∷ []
unfolding digits
producer_partitions = refl

-- to a supervisor by demand alone
to_a_supervisor : map (λ s. is_sound (with_stages (s ∷ supervisor 2 [] ∷ [])))
    (first_producer ∷ record first_producer { dispatch = Partition; parts = 1 } ∷ record first_producer { dispatch = Partition; parts = 0 }
    ∷ []) ≡ true ∷ false ∷ false ∷ []
unfolding digits
to_a_supervisor = refl

producer_others : as_producer (record first_producer { batcher = 1 } ∷ record first_producer { mode = Permanent }
    ∷ record first_producer { min = 1 } ∷ record first_producer { max = 1 } ∷ record first_producer { kind = Own }
    ∷ record first_producer { rules = PassRule ∷ [] } ∷ record first_producer { failed = Some (codes "no") }
    ∷ record first_producer { batch_size = 1 } ∷ record first_producer { batch_timeout = 1 }
    ∷ record first_producer { child = TransientChild } ∷ record first_producer { batchers = 1 } ∷ []) ≡ replicate 11 false
unfolding digits
producer_others = refl

-- A processor

processor_demand : as_processor (record worker { min = 0; max = 1 } ∷ record worker { min = 9999; max = 10000 }
    ∷ record worker { min = 5; max = 10001 } ∷ record worker { min = 10 } ∷ record worker { min = 0; max = 0 }
    ∷ record worker { mode = Transient } ∷ []) ≡ true ∷ true ∷ false ∷ false ∷ false ∷ true ∷ []
unfolding digits
processor_demand = refl

processor_handlers : as_processor (record worker { kind = Own } ∷ record worker { kind = Lines }
    ∷ record worker { failed = Some (codes "no") } ∷ record worker { failed = Some [] } ∷ record worker { failed = Some (codes "a b") }
    ∷ record worker { failed = Some (replicate 64 97) } ∷ record worker { failed = Some (replicate 65 97) } ∷ []) ≡ true ∷ false ∷ true
    ∷ false ∷ false ∷ true ∷ false ∷ []
unfolding digits
processor_handlers = refl

processor_rules : map (λ rules. is_sound (one_ruled rules)) (replicate 64 PassRule ∷ replicate 65 PassRule ∷ (Key 255 ∷ []) ∷ (Key 256 ∷ [])
    ∷ (FailEvery 0 ∷ []) ∷ (FailEvery 1000000 ∷ []) ∷ (FailEvery 1000001 ∷ []) ∷ (Route 0 0 [] ∷ []) ∷ []) ≡ true ∷ false ∷ true ∷ false
    ∷ false ∷ true ∷ false ∷ false ∷ []
unfolding digits
processor_rules = refl

processor_others : as_processor (record worker { batcher = 1 } ∷ record worker { dispatch = Partition } ∷ record worker { parts = 1 }
    ∷ record worker { field = 1 } ∷ record worker { size = Some 0 } ∷ record worker { keep = First } ∷ record worker { push = true }
    ∷ record worker { edge = Some [] } ∷ record worker { batch_size = 1 } ∷ record worker { batch_timeout = 1 }
    ∷ record worker { child = TransientChild } ∷ record worker { batchers = 1 } ∷ []) ≡ replicate 12 false
unfolding digits
processor_others = refl

-- with batchers it has one partition for each, and its routes name them
feeder_dispatch : as_feeder (feeder ∷ worker ∷ record feeder { dispatch = Demand } ∷ record feeder { parts = 2 }
    ∷ record feeder { batchers = 2 } ∷ record feeder { field = 1 } ∷ record feeder { rules = Route 255 0 [] ∷ [] }
    ∷ record feeder { rules = Route 256 0 [] ∷ [] } ∷ record feeder { rules = Route 1 1 [] ∷ [] } ∷ []) ≡ true ∷ false ∷ false ∷ false
    ∷ false ∷ false ∷ true ∷ false ∷ false ∷ []
unfolding digits
feeder_dispatch = refl

-- A supervisor

supervisor_fields : as_processor (record (supervisor 2 []) { min = 0; max = 16 } ∷ record (supervisor 2 []) { max = 17 }
    ∷ record (supervisor 2 []) { child = TemporaryChild; mode = Permanent; kind = Own } ∷ record (supervisor 2 []) { kind = Lines }
    ∷ record (supervisor 2 []) { rules = Route 1 0 [] ∷ [] } ∷ record (supervisor 2 []) { batchers = 1 } ∷ []) ≡ true ∷ false ∷ true ∷ false
    ∷ false ∷ false ∷ []
unfolding digits
supervisor_fields = refl

-- A batcher

batcher_sizes : as_batcher (record collector { batch_size = 1 } ∷ record collector { batch_size = 0 }
    ∷ record collector { batch_size = 10000 } ∷ record collector { batch_size = 10001 } ∷ record collector { batch_timeout = 0 }
    ∷ record collector { batch_timeout = 3600000 } ∷ record collector { batch_timeout = 3600001 } ∷ record collector { min = 3 }
    ∷ record collector { max = 10001 } ∷ []) ≡ true ∷ false ∷ true ∷ false ∷ false ∷ true ∷ false ∷ false ∷ false ∷ []
unfolding digits
batcher_sizes = refl

batcher_dispatch : as_batcher (record collector { dispatch = Broadcast } ∷ record collector { dispatch = Partition; parts = 1 }
    ∷ record collector { dispatch = Partition; parts = 2 } ∷ record collector { dispatch = Partition }
    ∷ record collector { dispatch = Broadcast; parts = 1 } ∷ []) ≡ true ∷ true ∷ false ∷ false ∷ false ∷ []
unfolding digits
batcher_dispatch = refl

batcher_others : as_batcher (record collector { batcher = 1 } ∷ record collector { size = Some 0 } ∷ record collector { push = true }
    ∷ record collector { kind = Lines } ∷ record collector { rules = PassRule ∷ [] } ∷ record collector { failed = Some (codes "no") }
    ∷ record collector { edge = Some [] } ∷ record collector { child = TransientChild } ∷ record collector { batchers = 1 } ∷ [])
    ≡ replicate 9 false
unfolding digits
batcher_others = refl

-- A batch processor

writer_fields : as_writer (record writer { kind = Steps } ∷ record writer {
  kind = Own;
  edge = None;
  mode = Permanent;
  failed = Some
      (codes "no");
} ∷ record writer { min = 1; max = 2 } ∷ record writer { max = 2 } ∷ record writer { batcher = 1 }
    ∷ record writer { rules = Route 1 0 [] ∷ [] } ∷ record writer { batch_size = 1 } ∷ record writer { batchers = 1 }
    ∷ record writer { size = Some 0 } ∷ record writer { parts = 1 } ∷ record writer { child = TransientChild } ∷ []) ≡ true ∷ true ∷ false
    ∷ false ∷ false ∷ false ∷ false ∷ false ∷ false ∷ false ∷ false ∷ []
unfolding digits
writer_fields = refl

-- Batchers that no message reaches

abbrev two_batchers : (StageSpec → StageSpec) → Topology
two_batchers change =
    with_stages
    (first_producer ∷ change (feeding 2 worker) ∷ collector ∷ batcher 4 (codes "c") 1 ∷ batch_processor 5 (codes "b.0") 0 0
    ∷ batch_processor 6 (codes "c.0") 1 0 ∷ [])

reached : map (λ change. is_sound (two_batchers change)) ((λ s. s) ∷ (λ s. record s { rules = Route 1 1 (codes "x") ∷ [] })
    ∷ (λ s. record s { rules = Route 1 0 (codes "x") ∷ [] }) ∷ (λ s. record s { kind = Own }) ∷ []) ≡ false ∷ true ∷ false ∷ true ∷ []
unfolding digits
reached = refl

-- The pipeline's own settings

settings : map is_sound (record one_each { limits = limited 1000 5000 } ∷ record one_each { limits = limited 1001 5000 }
    ∷ record one_each { limits = limited 3 0 } ∷ record one_each { limits = limited 3 1500 } ∷ record one_each { limits = limited 3 3600000 }
    ∷ record one_each { limits = limited 3 3601000 } ∷ record one_each { idle_limit = 1000000 } ∷ record one_each { idle_limit = 1000001 } ∷ [])
    ≡ true ∷ false ∷ false ∷ false ∷ true ∷ false ∷ true ∷ false ∷ []
unfolding digits
settings = refl

limits : map is_sound (record one_each { record_limit = 0 } ∷ record one_each { record_limit = 1 } ∷ record one_each { record_limit = 2000000 }
    ∷ record one_each { record_limit = 2000001 } ∷ record one_each { byte_limit = 0 } ∷ record one_each { byte_limit = 1 }
    ∷ record one_each { byte_limit = 536870912 } ∷ record one_each { byte_limit = 536870913 }
    ∷ record one_each { control = Some [] } ∷ record one_each { control = Some (codes "mem:c") } ∷ [])
    ≡ false ∷ true ∷ true ∷ false ∷ false ∷ true ∷ true ∷ false ∷ false ∷ true ∷ []
unfolding digits
limits = refl

-- each stage's limit is there, and each limit is in range
own_limits : map is_sound (record one_each { limits = [] } ∷ record one_each { limits = limited 3 5000 ++ limited 1001 5000 }
    ∷ record one_each { limits = limited 3 5000 ++ limited 0 1000 }
    ∷ with_stages (producer 1 (codes "p") 0 ∷ record worker { limit = 1 } ∷ [])
    ∷ record (with_stages (producer 1 (codes "p") 0 ∷ record worker { limit = 1 } ∷ [])) { limits = limited 3 5000 ++ limited 0 1000 } ∷ [])
    ≡ false ∷ false ∷ true ∷ false ∷ true ∷ []
unfolding digits
own_limits = refl

-- a rate lets each producer bring in one record at least in each interval
abbrev rated : (allowed interval : ℕ) → Topology
rated allowed interval = record two_producers { rate = Some (record { allowed = allowed; interval = interval }) }

rates : map is_sound (rated 2 1 ∷ rated 1 1 ∷ rated 1000000 3600000 ∷ rated 1000001 1 ∷ rated 2 0 ∷ rated 2 3600001 ∷ rated 0 1 ∷ [])
    ≡ true ∷ false ∷ true ∷ false ∷ false ∷ false ∷ false ∷ []
unfolding digits
rates = refl

-- Selectors

-- texts stand at batch processors whose batcher broadcasts, and have at most 4096 bytes
abbrev selecting : Dispatch → (first second : List ℕ) → Topology
selecting dispatch first second =
    with_stages
    (first_producer ∷ feeder ∷ record collector { dispatch = dispatch }
    ∷ record (batch_processor 4 (codes "b.0") 0 0) { select = first } ∷ record (batch_processor 5 (codes "b.1") 0 1) { select = second } ∷ [])

selects : map is_sound (selecting Broadcast (codes "a") (codes "b") ∷ selecting Broadcast (codes "a") [] ∷ selecting Broadcast (replicate 4096 97) []
    ∷ selecting Broadcast (replicate 4097 97) [] ∷ selecting Demand [] [] ∷ selecting Demand (codes "a") [] ∷ [])
    ≡ true ∷ true ∷ true ∷ false ∷ true ∷ false ∷ []
unfolding digits
selects = refl

no_selects_elsewhere : map is_sound (with_stages (record first_producer { select = codes "a" } ∷ worker ∷ [])
    ∷ with_stages (first_producer ∷ record worker { select = codes "a" } ∷ [])
    ∷ with_stages (first_producer ∷ feeder ∷ record collector { select = codes "a" } ∷ writer ∷ [])
    ∷ with_stages (first_producer ∷ record (supervisor 2 []) { select = codes "a" } ∷ []) ∷ []) ≡ replicate 4 false
unfolding digits
no_selects_elsewhere = refl
