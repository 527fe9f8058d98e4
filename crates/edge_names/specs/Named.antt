-- What one call by name opens or gives back.
use Rattle.std.specs.Prelude.{◌≡◌, ◌≤◌, ℕ, List, [], ◌∷◌, ◌++◌, IsTrue, Result, Ok, Err}
use Rattle.pipe_edges.specs.Named.{asked_after, EdgeHasCause, StandsAsBefore, OthersStand}
use Rattle.pipe_edges.specs.Paces.{unpaced}
use Rattle.pipe_edges.specs.declared.edges.EdgeKind.{EdgeKind}
use Rattle.pipe_edges.specs.declared.edges.EdgeKind.TheVariants.{Source, Sink}
use Rattle.pipe_edges.specs.declared.edges.EdgeEnd.{EdgeEnd}
use Rattle.stage_bodies.specs.Seen.{SourceSeen, SinkSeen}
use Rattle.edge_names.specs.Seen.{EdgesSeen}

-- a source that has taken nothing and counted nothing, and has no pace, and, where the edges tell, has left what stands under its name
pub record GivesSource (edges : EdgesSeen) (name : List ℕ) (source : SourceSeen) : Type 0 where
  pub nothing_taken : source.taken ≡ []
  pub no_fault : source.faults ≡ 0
  pub no_wait : source.waits ≡ 0
  pub no_pace : source.paced ≡ unpaced
  pub given : IsTrue edges.told → IsTrue source.told × (source.left ≡ edges.named Source name)

-- a sink that has counted nothing, and, where the edges tell, holds what stands under its name
pub record GivesSink (edges : EdgesSeen) (name : List ℕ) (sink : SinkSeen) : Type 0 where
  pub no_fault : sink.faults ≡ 0
  pub given : IsTrue edges.told → IsTrue sink.told × (sink.held ≡ edges.named Sink name)

-- a call that opens
pub record Opens {T : Type 0} (kind : EdgeKind) (name : List ℕ) (old new : EdgesSeen) (end : Result T EdgeEnd) : Type 0 where
  pub same_telling : new.told ≡ old.told
  pub stands : IsTrue old.told → StandsAsBefore old.named new.named
  pub asked : IsTrue old.told → new.asked ≡ asked_after end kind name old.asked
  pub sources : new.sources_back ≡ old.sources_back
  pub sinks : new.sinks_back ≡ old.sinks_back
  pub faults_stay : old.faults ≤ new.faults
  pub cause : EdgeHasCause old.faults new.faults end

-- what is given back stands at the end of the list; for want of memory nothing is added
abbrev pub back_after : {T E X : Type 0} → Result T E → X → List X → List X
back_after (Ok _) given before = before ++ given ∷ []
back_after (Err _) given before = before

-- a call that gives a source back under its name
pub record BacksSource {T E : Type 0} (name : List ℕ) (source : SourceSeen) (old new : EdgesSeen) (end : Result T E) : Type 0 where
  pub same_telling : new.told ≡ old.told
  pub sources : new.sources_back ≡ back_after end (name, source) old.sources_back
  pub sinks : new.sinks_back ≡ old.sinks_back
  pub stands : IsTrue old.told → OthersStand Source name old.named new.named
  pub asked : IsTrue old.told → new.asked ≡ old.asked
  pub no_fault : new.faults ≡ old.faults

-- a call that gives a sink back under its name
pub record BacksSink {T E : Type 0} (name : List ℕ) (sink : SinkSeen) (old new : EdgesSeen) (end : Result T E) : Type 0 where
  pub same_telling : new.told ≡ old.told
  pub sinks : new.sinks_back ≡ back_after end (name, sink) old.sinks_back
  pub sources : new.sources_back ≡ old.sources_back
  pub stands : IsTrue old.told → OthersStand Sink name old.named new.named
  pub asked : IsTrue old.told → new.asked ≡ old.asked
  pub no_fault : new.faults ≡ old.faults
