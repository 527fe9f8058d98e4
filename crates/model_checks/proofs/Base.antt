-- Small pipelines, their subscriptions and messages, and the tests that the rows use.
use Rattle.std.specs.Prelude.{ℕ, ◌+◌, Bool, false, not, nat_le, length, ◌&&◌, List, [], ◌∷◌, ◌++◌, codes, Some, None}
use Rattle.std.specs.List.{list_all}
use Rattle.pipe_types.specs.declared.numbers.SubNo.{SubNo}
use Rattle.pipe_types.specs.declared.topology.Topology.{Topology}
use Rattle.pipe_types.specs.declared.topology.StageSpec.{StageSpec}
use Rattle.pipe_types.specs.declared.topology.RestartLimit.{RestartLimit}
use Rattle.pipe_types.specs.declared.topology.Rule.{Rule}
use Rattle.pipe_types.specs.declared.topology.Rule.TheVariants.{Key, Route, Crash as CrashRule}
use Rattle.pipe_types.specs.declared.topology.Role.{Role}
use Rattle.pipe_types.specs.declared.topology.Role.TheVariants.{Producer, Processor, Supervisor, Batcher, BatchProcessor}
use Rattle.pipe_types.specs.declared.topology.Dispatch.TheVariants.{Demand, Partition}
use Rattle.pipe_types.specs.declared.topology.Keep.TheVariants.{Last}
use Rattle.pipe_types.specs.declared.topology.CancelMode.TheVariants.{Temporary, Permanent}
use Rattle.pipe_types.specs.declared.topology.Kind.TheVariants.{Steps, Lines}
use Rattle.pipe_types.specs.declared.topology.ChildMode.TheVariants.{Temporary as TemporaryChild, Transient as TransientChild}
use Rattle.pipe_types.specs.declared.message.Message.{Message}
use Rattle.pipe_types.specs.declared.message.Reply.{Reply}
use Rattle.pipe_types.specs.declared.message.Reply.TheVariants.{Pass}
use Rattle.pipe_types.specs.declared.step.Step.{Step}
use Rattle.pipe_types.specs.Numbers.{stage, subscription}
use Rattle.pipe_types.specs.Sound.{is_ordered, is_named, are_distinct, producers, batchers, has_fields, is_reached, are_settings}
use Rattle.pipe_model.specs.History.{history}
use Rattle.pipe_model.specs.Content.{new_message}
use Rattle.pipe_model.specs.Legal.{allows, is_legal}

-- Tests

-- the steps are legal one after another
abbrev pub is_run : Topology → List Step → Bool
is_run topology steps = is_legal topology (history steps)

-- the steps are legal one after another, and then this one may come
abbrev pub may_come_after : Topology → List Step → Step → Bool
may_come_after topology steps step = is_legal topology (step ∷ history steps)

-- the steps are legal one after another, and then this one may not come
abbrev pub is_refused_after : Topology → List Step → Step → Bool
is_refused_after topology steps step = is_legal topology (history steps) && not (allows topology (history steps) step)

-- whether each of the steps may come after the first ones, and whether each is refused
abbrev pub each_may_come_after : Topology → List Step → List Step → Bool
each_may_come_after topology steps next = list_all (may_come_after topology steps) next

abbrev pub none_may_come_after : Topology → List Step → List Step → Bool
none_may_come_after topology steps next = list_all (is_refused_after topology steps) next

-- what makes a topology sound
abbrev pub is_sound : Topology → Bool
is_sound topology =
    (nat_le (length topology.stages) 64 && is_ordered topology.stages)
    && (list_all (is_named topology.stages) topology.stages
    && (are_distinct (producers topology.stages ++ batchers topology.stages)
    && (list_all (has_fields topology.stages) topology.stages
    && (list_all (is_reached topology.stages) (batchers topology.stages) && are_settings topology))))

-- Stages

abbrev pub plain_stage : ℕ → List ℕ → Role → ℕ → StageSpec
plain_stage n name role index =
    record {
      no = stage n;
      name = name;
      role = role;
      index = index;
      batcher = 0;
      dispatch = Demand;
      parts = 0;
      field = 0;
      size = None;
      keep = Last;
      push = false;
      mode = Temporary;
      min = 0;
      max = 0;
      kind = Steps;
      rules = [];
      failed = None;
      edge = None;
      batch_size = 0;
      batch_timeout = 0;
      child = TemporaryChild;
      batchers = 0;
      select = [];
      limit = 0;
    }

-- a pull producer that keeps the last 10,000
abbrev pub producer : ℕ → List ℕ → ℕ → StageSpec
producer n name index = record (plain_stage n name Producer index) { size = Some 10000; edge = Some (codes "mem:a") }

-- a processor that asks for ten, and again when five are left, and takes five at most
abbrev pub processor : ℕ → List ℕ → ℕ → List Rule → StageSpec
processor n name index rules = record (plain_stage n name Processor index) { min = 5; max = 10; rules = rules }

-- Topologies

-- one limit, of so many restarts in a window of so many milliseconds
abbrev pub limited : (most window : ℕ) → List RestartLimit
limited most window = record { max_restarts = most; window_ms = window } ∷ []

abbrev pub with_stages : List StageSpec → Topology
with_stages stages =
    record {
      stages = stages;
      limits = limited 3 5000;
      idle_limit = 0;
      record_limit = 200000;
      byte_limit = 67108864;
      control = None;
      rate = None;
    }

-- a producer and a processor, without batchers
abbrev pub one_each : Topology
one_each = with_stages (producer 1 (codes "p") 0 ∷ processor 2 (codes "processors.0") 0 [] ∷ [])

-- Subscriptions and messages

-- the subscription of a consumer to a producer, of this generation
abbrev pub sub : ℕ → ℕ → ℕ → SubNo
sub consumer producer generation = subscription (stage consumer) (stage producer) generation

-- message n of producer 1 as it was accepted
abbrev pub msg : ℕ → List ℕ → Message
msg n payload = new_message (stage 1) n payload

-- replies that pass the messages from this number on, each with its payload
abbrev pub passes : ℕ → List (List ℕ) → List Reply
passes n [] = []
passes n (payload ∷ payloads) = Pass (msg n payload) ∷ passes (n + 1) payloads

-- a message with its payload as its key
abbrev pub keyed : ℕ → List ℕ → Message
keyed n payload = record (msg n payload) { key = payload }

-- More stages

-- a processor that sends to so many batchers
abbrev pub feeding : ℕ → StageSpec → StageSpec
feeding batchers spec = record spec { dispatch = Partition; parts = batchers; batchers = batchers }

-- a batcher of batches of three or of 1000 ms, which asks for three, and again when one is left
abbrev pub batcher : ℕ → List ℕ → ℕ → StageSpec
batcher n name index =
    record (plain_stage n name Batcher index) { batcher = index; min = 1; max = 3; batch_size = 3; batch_timeout = 1000 }

-- a batch processor with a sink, to which it writes lines
abbrev pub batch_processor : ℕ → List ℕ → (batcher index : ℕ) → StageSpec
batch_processor n name batcher index =
    record (plain_stage n name BatchProcessor index) { batcher = batcher; max = 1; kind = Lines; edge = Some (codes "mem:s") }

-- a supervisor of two children at most, which run the message again after a crash; it asks again when one is left
abbrev pub supervisor : ℕ → List Rule → StageSpec
supervisor n rules =
    record (plain_stage n (codes "supervisor") Supervisor 0) { min = 1; max = 2; rules = rules; child = TransientChild }

-- More topologies

-- a producer, and a processor with these rules
abbrev pub one_ruled : List Rule → Topology
one_ruled rules = with_stages (producer 1 (codes "p") 0 ∷ processor 2 (codes "processors.0") 0 rules ∷ [])

-- a producer that is killed with nobody, and a processor that is killed with it
abbrev pub strict : Topology
strict = with_stages (producer 1 (codes "p") 0 ∷ record (processor 2 (codes "processors.0") 0 []) { mode = Permanent } ∷ [])

-- one producer for two processors
abbrev pub two_processors : Topology
two_processors =
    with_stages (producer 1 (codes "p") 0 ∷ processor 2 (codes "processors.0") 0 [] ∷ processor 3 (codes "processors.1") 1 [] ∷ [])

-- two producers for one processor
abbrev pub two_producers : Topology
two_producers = with_stages (producer 1 (codes "p") 0 ∷ producer 2 (codes "q") 1 ∷ processor 3 (codes "processors.0") 0 [] ∷ [])

-- a producer, a processor with these rules, a batcher, and its batch processor
abbrev pub one_batcher : List Rule → Topology
one_batcher rules =
    with_stages
    (producer 1 (codes "p") 0 ∷ feeding 1 (processor 2 (codes "processors.0") 0 rules) ∷ batcher 3 (codes "b") 0
    ∷ batch_processor 4 (codes "b.0") 0 0 ∷ [])

-- a producer, a processor that makes the payload the key, a batcher, and its batch processor
abbrev pub by_key : Topology
by_key = one_batcher (Key 0 ∷ [])

-- batches of one message, for this batch processor
abbrev pub of_one_for : StageSpec → Topology
of_one_for last =
    with_stages
    (producer 1 (codes "p") 0 ∷ feeding 1 (processor 2 (codes "processors.0") 0 (Key 0 ∷ []))
    ∷ record (batcher 3 (codes "b") 0) { batch_size = 1 }
    ∷ last ∷ [])

abbrev pub of_one : Topology
of_one = of_one_for (batch_processor 4 (codes "b.0") 0 0)

-- a processor sends each message to the batcher that its field names
abbrev pub two_batchers : (field : ℕ) → Topology
two_batchers field =
    with_stages
    (producer 1 (codes "p") 0 ∷ feeding 2 (processor 2 (codes "processors.0") 0 (Route field 1 (codes "cold") ∷ [])) ∷ batcher 3 (codes "hot") 0
    ∷ batcher 4 (codes "cold") 1 ∷ batch_processor 5 (codes "hot.0") 0 0 ∷ batch_processor 6 (codes "cold.0") 1 0 ∷ [])

-- a producer and a supervisor whose children crash at a payload that begins with `!`
abbrev pub supervised : Topology
supervised = with_stages (producer 1 (codes "p") 0 ∷ supervisor 2 (CrashRule (codes "!") ∷ []) ∷ [])
