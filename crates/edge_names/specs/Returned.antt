-- What a run gives back by name, stage by stage.
use Rattle.std.specs.Prelude.{◌≡◌, ◌<◌, ◌++◌, ℕ, List, [], ◌∷◌, length, take, drop, Option, Some, None, option_map, IsTrue, All}
use Rattle.std.specs.List.{flat_map}
use Rattle.pipe_types.specs.Numbers.{post}
use Rattle.pipe_types.specs.declared.topology.StageSpec.{StageSpec}
use Rattle.pipe_types.specs.declared.topology.Topology.{Topology}
use Rattle.stage_bodies.specs.Seen.{SourceSeen, SourcesSeen, OneSource, sources_out, SinkSeen, FeedSeen, Single, BodySeen}
use Rattle.stage_bodies.specs.Jobs.{Both}
use Rattle.stage_bodies.specs.Posts.{place_at}
use Rattle.edge_names.specs.Seen.{EdgesSeen}
use Rattle.edge_names.specs.Gates.{AreInner, HasNoWait}
use Rattle.edge_names.specs.Supplies.{Feeds, Feed, Opened, Merged, Made, Supplied, Fed, Written, given_back, supplied}

-- ---- what is given back

-- the source of a feed that has one
abbrev pub one_source : Option FeedSeen → Option SourceSeen
one_source (Some (Single lines)) = Some lines.source
one_source _ = None

abbrev pub source_in : Option BodySeen → Option SourceSeen
source_in (Some body) = one_source body.source
source_in None = None

abbrev pub feed_in : Option BodySeen → Option FeedSeen
feed_in (Some body) = body.source
feed_in None = None

abbrev pub sink_in : Option BodySeen → Option SinkSeen
sink_in (Some body) = body.sink
sink_in None = None

abbrev pub with_name : {A : Type 0} → List ℕ → Option A → List (List ℕ × A)
with_name name (Some x) = (name, x) ∷ []
with_name name None = []

-- a source, or those of a merge, as they are given back where this was supplied, but for their gates
abbrev pub fed_back : Option Supplied → Option SourcesSeen → List (List ℕ × SourceSeen)
fed_back (Some (Fed pace feed)) sources = given_back (Some feed) sources
fed_back (Some (Written name)) sources = []
fed_back None sources = []

-- what stands in the body of a producer, as it is given back, with its name; of a merge each source with its own
abbrev pub named_source : Option Supplied → Option BodySeen → List (List ℕ × SourceSeen)
named_source what body = fed_back what (option_map sources_out (feed_in body))

-- the sink that stands in the body of a stage that opened one, with its name
abbrev pub named_sink : Option Supplied → Option BodySeen → List (List ℕ × SinkSeen)
named_sink (Some (Written name)) body = with_name name (sink_in body)
named_sink (Some (Fed pace feed)) body = []
named_sink None body = []

-- the sources of these stages that are given back, with their names, in stage order
abbrev pub sources_of : Feeds → List StageSpec → (ℕ → Option BodySeen) → List (List ℕ × SourceSeen)
sources_of feeds stages table = flat_map (λ spec. named_source (supplied feeds spec) (table (place_at (post spec.no 0)))) stages

-- the sinks of these stages, with their names, in stage order
abbrev pub sinks_of : Feeds → List StageSpec → (ℕ → Option BodySeen) → List (List ℕ × SinkSeen)
sinks_of feeds stages table = flat_map (λ spec. named_sink (supplied feeds spec) (table (place_at (post spec.no 0)))) stages

-- these were given back, and nothing was asked
pub record GivesBack (sources : List (List ℕ × SourceSeen)) (sinks : List (List ℕ × SinkSeen)) (old new : EdgesSeen) : Type 0 where
  pub same_telling : new.told ≡ old.told
  pub asked : IsTrue old.told → new.asked ≡ old.asked
  pub back_sources : new.sources_back ≡ old.sources_back ++ sources
  pub back_sinks : new.sinks_back ≡ old.sinks_back ++ sinks
  pub no_fault : new.faults ≡ old.faults

-- the same, each source without its gate
pub record GivesOff (sources : List (List ℕ × SourceSeen)) (sinks : List (List ℕ × SinkSeen)) (old new : EdgesSeen) : Type 0 where
  pub inner : List (List ℕ × SourceSeen)
  pub ungated : AreInner sources inner
  pub back : GivesBack inner sinks old new

-- memory was wanting: the first so many of these went back
pub record IsBackUpTo (sources : List (List ℕ × SourceSeen)) (old new : EdgesSeen) : Type 0 where
  pub count : ℕ
  pub back : GivesOff (take count sources) [] old new

-- the sources of the first so many stages, and the first so many of the next one
abbrev pub sources_before : Feeds → (n more : ℕ) → List StageSpec → (ℕ → Option BodySeen) → List (List ℕ × SourceSeen)
sources_before feeds n more stages table = sources_of feeds (take n stages) table ++ take more (sources_of feeds (take 1 (drop n stages)) table)

-- memory was wanting: what the first stages opened was given back, and so many of the sources of the next one
pub record IsBackInPart (feeds : Feeds) (topology : Topology) (table : ℕ → Option BodySeen) (old new : EdgesSeen) : Type 0 where
  pub stages : ℕ
  pub more : ℕ
  pub some_left : stages < length topology.stages
  pub back : GivesOff (sources_before feeds stages more topology.stages table) (sinks_of feeds (take stages topology.stages) table) old new

-- a source that was made has counted no fault and no wait
abbrev pub IsCalmFeed : Option Feed → SourceSeen → Type 0
IsCalmFeed (Some (Made bytes)) source = (source.faults ≡ 0) × (source.waits ≡ 0)
IsCalmFeed (Some (Opened name)) source = Unit {0}
IsCalmFeed (Some (Merged names)) source = Unit {0}
IsCalmFeed None source = Unit {0}

-- the same of what was taken out of a body, in its gate
abbrev pub IsCalmOut : Option Feed → SourcesSeen → Type 0
IsCalmOut (Some (Made bytes)) (OneSource source) = (source.faults ≡ 0) × HasNoWait source
IsCalmOut _ sources = Unit {0}

-- nor in its gate, beside the gate's own
abbrev pub IsCalm : Option Supplied → Option SourceSeen → Type 0
IsCalm (Some (Fed pace (Made bytes))) (Some source) = (source.faults ≡ 0) × HasNoWait source
IsCalm (Some (Fed pace (Made bytes))) None = Unit {0}
IsCalm (Some (Fed pace (Opened name))) source = Unit {0}
IsCalm (Some (Fed pace (Merged names))) source = Unit {0}
IsCalm (Some (Written name)) source = Unit {0}
IsCalm None source = Unit {0}

-- the sources that were made for these stages, as they stand in the bodies, have counted no fault and no wait
abbrev pub AreCalm : Feeds → List StageSpec → (ℕ → Option BodySeen) → Type 0
AreCalm feeds stages table = All (λ spec. IsCalm (supplied feeds spec) (source_in (table (place_at (post spec.no 0))))) stages

-- every body has the callback that it had
abbrev pub KeepsCallbacks : (old new : ℕ → Option BodySeen) → Type 0
KeepsCallbacks old new = (at : ℕ) → Both (λ before now. now.callback ≡ before.callback) (old at) (new at)
