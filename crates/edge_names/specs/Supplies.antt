-- How the stages of a run come to what stands in their bodies.
use Rattle.std.specs.Prelude.{◌≡◌, ℕ, Bool, true, false, if◌then◌else◌, List, [], ◌∷◌, map, slice_get, length, Option, Some, None, option_map, IsTrue, IsSome}
use Rattle.pipe_types.specs.declared.topology.Role.{Role}
use Rattle.pipe_types.specs.declared.topology.Role.TheVariants.{Producer, BatchProcessor}
use Rattle.pipe_types.specs.declared.topology.StageSpec.{StageSpec}
use Rattle.pipe_types.specs.declared.topology.Topology.{Topology}
use Rattle.pipe_types.specs.declared.numbers.StageNo.{StageNo}
use Rattle.pipe_types.specs.Stages.{spec_of}
use Rattle.pipe_edges.specs.Paces.{Pace, unpaced}
use Rattle.pipe_edges.specs.declared.edges.EdgeKind.{EdgeKind}
use Rattle.pipe_edges.specs.declared.edges.EdgeKind.TheVariants.{Source, Sink}
use Rattle.config_rule.specs.SourceText.{merged_in, parts, are_names}
use Rattle.stage_bodies.specs.Seen.{SourceSeen, SourcesSeen, OneSource, ManySources}
use Rattle.edge_names.specs.Gates.{pace_of_stage}

-- how a producer comes to its source: it is opened by this name, or is the merge of those that are opened by these names, or is
-- made of these bytes without a call
pub data Feed : Type 0 where
  Opened : (name : List ℕ) → Feed
  Merged : (names : List (List ℕ)) → Feed
  Made : (bytes : List ℕ) → Feed

-- what goes into the body of a stage: the source of a producer, in a gate where it has a pace, or the sink that is opened by this
-- name
pub data Supplied : Type 0 where
  Fed : (pace : Option Pace) → (feed : Feed) → Supplied
  Written : (name : List ℕ) → Supplied

-- how the producers of a run come to their sources, and at which paces these are read
pub record Feeds : Type 0 where
  pub origin : StageSpec → Option Feed
  pub pace : StageSpec → Option Pace

abbrev pub fed : Option Pace → Option Feed → Option Supplied
fed pace (Some feed) = Some (Fed pace feed)
fed pace None = None

abbrev pub written : Option (List ℕ) → Option Supplied
written (Some name) = Some (Written name)
written None = None

abbrev pub supplied_by : Role → Option Pace → Option Feed → (edge : Option (List ℕ)) → Option Supplied
supplied_by Producer pace feed edge = fed pace feed
supplied_by BatchProcessor pace feed edge = written edge
supplied_by _ pace feed edge = None

-- what goes into the body of a stage: a producer's source by the supply, a batch processor's sink by its name, if it has one
abbrev pub supplied : Feeds → StageSpec → Option Supplied
supplied feeds spec = supplied_by spec.role (feeds.pace spec) (feeds.origin spec) spec.edge

-- the call that opens a source
abbrev pub source_call : List ℕ → EdgeKind × List ℕ
source_call name = (Source, name)

-- the calls by name that it takes
abbrev pub feed_calls : Option Feed → List (EdgeKind × List ℕ)
feed_calls (Some (Opened name)) = source_call name ∷ []
feed_calls (Some (Merged names)) = map source_call names
feed_calls (Some (Made bytes)) = []
feed_calls None = []

abbrev pub calls_for : Option Supplied → List (EdgeKind × List ℕ)
calls_for (Some (Fed pace feed)) = feed_calls (Some feed)
calls_for (Some (Written name)) = (Sink, name) ∷ []
calls_for None = []

-- the calls by name that a stage makes
abbrev pub stage_calls : Feeds → StageSpec → List (EdgeKind × List ℕ)
stage_calls feeds spec = calls_for (supplied feeds spec)

-- how many sources are merged into one, where it is a merge
abbrev pub merge_count : Option Feed → Option ℕ
merge_count (Some (Merged names)) = Some (length names)
merge_count (Some (Opened name)) = None
merge_count (Some (Made bytes)) = None
merge_count None = None

-- the names of a merge
abbrev pub merged_names : Option Feed → List (List ℕ)
merged_names (Some (Merged names)) = names
merged_names (Some (Opened name)) = []
merged_names (Some (Made bytes)) = []
merged_names None = []

-- how the source at a place comes to be, from 0: a merge opens one of each name, and else there is one
abbrev pub feed_at : Option Feed → (place : ℕ) → Option Feed
feed_at (Some (Merged names)) place = option_map Opened (slice_get names place)
feed_at (Some (Opened name)) place = Some (Opened name)
feed_at (Some (Made bytes)) place = Some (Made bytes)
feed_at None place = None

-- ---- supplies

-- as many names as may be
abbrev pub fitting : Option (List ℕ) → Option (List ℕ)
fitting (Some names) = if are_names (parts names) then Some names else None
fitting None = None

-- the names of a text that is a merge, joined by commas: they stand behind `many:`. A text that is not split has none
abbrev pub names_of : (splits : Bool) → (text : List ℕ) → Option (List ℕ)
names_of true text = fitting (merged_in text)
names_of false text = None

-- any other text is one name
abbrev pub feed_of_names : (names : Option (List ℕ)) → (text : List ℕ) → Feed
feed_of_names (Some names) text = Merged (parts names)
feed_of_names None text = Opened text

abbrev pub feed_of_text : (splits : Bool) → (text : List ℕ) → Feed
feed_of_text splits text = feed_of_names (names_of splits text) text

abbrev pub feed_by : (splits : Bool) → (edge : Option (List ℕ)) → Option Feed
feed_by splits (Some text) = Some (feed_of_text splits text)
feed_by splits None = None

-- each producer opens what it names
abbrev pub by_name : (splits : Bool) → StageSpec → Option Feed
by_name splits spec = feed_by splits spec.edge

-- in a run of this topology, which may have a rate
abbrev pub at_paces : Topology → (StageSpec → Option Feed) → Feeds
at_paces topology origin = record { origin = origin; pace = pace_of_stage topology }

-- where the topology has a rate, no source is a merge
abbrev pub IsUnmerged : Topology → (StageSpec → Option Feed) → Type 0
IsUnmerged topology feeds = IsSome topology.rate → (spec : StageSpec) → merge_count (feeds spec) ≡ None

-- every producer has its source
abbrev pub FeedsProducers : (StageSpec → Option Feed) → Topology → Type 0
FeedsProducers feeds topology = (s : StageNo) (spec : StageSpec) → spec_of topology s ≡ Some spec → spec.role ≡ Producer → IsSome (feeds spec)

-- ---- sources

-- a source of these bytes, of which none was taken
pub record IsMade (bytes : List ℕ) (source : SourceSeen) : Type 0 where
  pub tells : IsTrue source.told
  pub nothing_taken : source.taken ≡ []
  pub all_left : source.left ≡ bytes
  pub no_fault : source.faults ≡ 0
  pub no_wait : source.waits ≡ 0
  pub no_pace : source.paced ≡ unpaced

-- these sources under these names, in order
abbrev pub under_names : List (List ℕ) → List SourceSeen → List (List ℕ × SourceSeen)
under_names (name ∷ names) (source ∷ sources) = (name, source) ∷ under_names names sources
under_names _ _ = []

-- what is given back of a producer's source, with its name, or of those of a merge, with theirs
abbrev pub given_back : Option Feed → Option SourcesSeen → List (List ℕ × SourceSeen)
given_back (Some (Opened name)) (Some (OneSource source)) = (name, source) ∷ []
given_back (Some (Merged names)) (Some (ManySources sources)) = under_names names sources
given_back _ _ = []
