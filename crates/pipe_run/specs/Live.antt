-- The live sink of a run: it is opened behind all else that the run opens, told of the journal while the run goes on, and given back last.
use Rattle.std.specs.Prelude.{◌≡◌, ◌⊎◌, ◌++◌, ◌∷◌, ◌&&◌, [], not, false, if◌then◌else◌, Bool, ℕ, List, IsTrue, Option, Some, None}
use Rattle.pipe_types.specs.Counts.{Rose}
use Rattle.pipe_edges.specs.declared.edges.EdgeKind.{EdgeKind}
use Rattle.pipe_edges.specs.declared.edges.EdgeKind.TheVariants.{Sink}
use Rattle.stage_bodies.specs.Seen.{SinkSeen}
use Rattle.edge_names.specs.Seen.{EdgesSeen}
use Rattle.edge_names.specs.Named.{GivesSink}
use Rattle.edge_names.specs.Opened.{Asks}
use Rattle.run_pipe.specs.Watches.{WatchSeen}
use Rattle.pipe_run.specs.declared.live.NotLive.{NotLive}
use Rattle.pipe_run.specs.declared.live.NotLive.TheVariants.{Failed, Unopened, Opened}

-- these calls, and behind them the one that opens the live sink, where it is named
abbrev pub with_live : Option (List ℕ) → List (EdgeKind × List ℕ) → List (EdgeKind × List ℕ)
with_live (Some name) calls = calls ++ (Sink, name) ∷ []
with_live None calls = calls

-- ---- opening it

-- what a sink holds, where it tells
abbrev pub held_in : SinkSeen → Option (List ℕ)
held_in sink = if sink.told then Some sink.held else None

-- the sink of this name was opened, and this watch over it began with what the sink held
pub record IsLiveOpened (name : List ℕ) (watch : WatchSeen) (old new : EdgesSeen) : Type 0 where
  pub asks : Asks ((Sink, name) ∷ []) old new
  pub sink : SinkSeen
  pub given : GivesSink old name sink
  pub begun : watch.begun ≡ held_in sink
  pub no_fault : watch.faults ≡ 0
  pub whole : watch.failed ≡ false

-- there is no watch: the call failed, or memory was wanting for it, or for the watch over the sink that it opened
abbrev pub IsLiveUnopened : {K : Type 0} → (see : K → SinkSeen) → (name : List ℕ) → NotLive K → (old new : EdgesSeen) → Type 0
IsLiveUnopened see name (Failed failed) old new = (failed ≡ name) × Asks ((Sink, name) ∷ []) old new × Rose old.faults new.faults
IsLiveUnopened see name Unopened old new = Asks [] old new
IsLiveUnopened see name (Opened sink) old new = Asks ((Sink, name) ∷ []) old new × GivesSink old name (see sink)

-- ---- what it gets

-- behind what it held it has a first part of this text, or all of it
pub record IsFed (text : List ℕ) (all : Bool) (begun held : List ℕ) : Type 0 where
  pub got : List ℕ
  pub rest : List ℕ
  pub holds : held ≡ begun ++ got
  pub part : text ≡ got ++ rest
  pub whole : IsTrue all → rest ≡ []

-- the same of a sink, where it tells
abbrev pub IsFedSince : (text : List ℕ) → (all : Bool) → (begun : Option (List ℕ)) → SinkSeen → Type 0
IsFedSince text all (Some begun) sink = IsTrue sink.told × IsFed text all begun sink.held
IsFedSince text all None sink = sink.told ≡ false

-- the sink that was opened by this name was fed: with all of the text, unless it failed or memory was wanting; and where it failed its
-- faults rose. It was given back behind all else, unless memory was wanting
pub record IsLiveSink (edges : EdgesSeen) (name text : List ℕ) (whole failed : Bool) (middle new : EdgesSeen) : Type 0 where
  pub opened : SinkSeen
  pub given : GivesSink edges name opened
  pub sink : SinkSeen
  pub same_telling : sink.told ≡ opened.told
  pub fed : IsTrue opened.told → IsFed text (whole && not failed) opened.held sink.held
  pub fault : IsTrue failed → Rose 0 sink.faults
  pub last : (new.sinks_back ≡ middle.sinks_back ++ (name, sink) ∷ []) ⊎ ((whole ≡ false) × (new.sinks_back ≡ middle.sinks_back))
  pub sources : new.sources_back ≡ middle.sources_back
  pub telling : new.told ≡ middle.told
  pub asked : IsTrue middle.told → new.asked ≡ middle.asked
  pub no_fault : new.faults ≡ middle.faults

-- memory was wanting: with these calls still to come, the sink of this name went back as it was opened, or was not opened or let go
abbrev pub IsLiveBack : EdgesSeen → (name : List ℕ) → (rest : List (EdgeKind × List ℕ)) → List (List ℕ × SinkSeen) → Type 0
IsLiveBack edges name rest back = (back ≡ []) ⊎ ((sink : SinkSeen) × (rest ≡ []) × (back ≡ (name, sink) ∷ []) × GivesSink edges name sink)
