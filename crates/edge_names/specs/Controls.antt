-- The control source, which is opened and given back by its name, before all that the stages name.
use Rattle.std.specs.Prelude.{◌≡◌, ◌≤◌, ◌⊎◌, ◌+◌, ℕ, zero, suc, List, [], ◌∷◌, ◌++◌, length, take, drop, slice_get, IsTrue, Option, Some, None, option_map}
use Rattle.pipe_types.specs.Counts.{Rose}
use Rattle.pipe_types.specs.declared.topology.StageSpec.{StageSpec}
use Rattle.pipe_types.specs.declared.topology.Topology.{Topology}
use Rattle.pipe_edges.specs.declared.edges.EdgeKind.{EdgeKind}
use Rattle.pipe_edges.specs.declared.edges.EdgeKind.TheVariants.{Source}
use Rattle.stage_bodies.specs.Seen.{SourceSeen, SinkSeen, LineSeen, BodySeen}
use Rattle.edge_names.specs.Seen.{EdgesSeen}
use Rattle.edge_names.specs.Gates.{AreInner}
use Rattle.edge_names.specs.Opened.{AreOpened, AreUnread, Asks, HasSource, IsCut, IsOneFailed, calls_of, edge_calls, one}
use Rattle.edge_names.specs.Supplies.{Feeds, stage_calls}
use Rattle.edge_names.specs.Returned.{GivesOff, sources_before, sources_of, sinks_of}

-- ---- calls

-- the call that opens the control source, where the topology names one
abbrev pub control_call : Option (List ℕ) → Option (EdgeKind × List ℕ)
control_call name = option_map (λ n. (Source, n)) name

-- the calls of a run: the control source's, and then those of the stages
abbrev pub run_calls : Feeds → Topology → List (EdgeKind × List ℕ)
run_calls feeds topology = one (control_call topology.control) ++ edge_calls feeds topology

-- the control source was opened, and no line of it was read; where none is named, nothing was opened
pub record IsControlOpened (name : Option (List ℕ)) (old new : EdgesSeen) (control : Option LineSeen) : Type 0 where
  pub asks : Asks (one (control_call name)) old new
  pub lines : HasSource old (control_call name) None control

-- ---- what is given back

-- the control source with its name
abbrev pub named_control : Option (List ℕ) → Option LineSeen → List (List ℕ × SourceSeen)
named_control (Some name) (Some lines) = (name, lines.source) ∷ []
named_control _ _ = []

-- the sources that the first n parts of a run opened, with their names, and the first so many of the next part: the control source
-- is the first part, and the stages are those behind it
abbrev pub first_sources : Feeds → (n more : ℕ) → Topology → Option LineSeen → (ℕ → Option BodySeen) → List (List ℕ × SourceSeen)
first_sources feeds zero more topology control table = []
first_sources feeds (suc n) more topology control table = named_control topology.control control ++ sources_before feeds n more topology.stages table

-- the sinks that the first n parts opened
abbrev pub first_sinks : Feeds → (n : ℕ) → Topology → (ℕ → Option BodySeen) → List (List ℕ × SinkSeen)
first_sinks feeds zero topology table = []
first_sinks feeds (suc n) topology table = sinks_of feeds (take n topology.stages) table

-- the control source was given back as it was, before all others, or nothing was given back
abbrev pub IsBackFirst : Option (List ℕ) → Option LineSeen → (old new : EdgesSeen) → Type 0
IsBackFirst name control old new =
    (new.sources_back ≡ old.sources_back) ⊎ ((others : List (List ℕ × SourceSeen)) × (new.sources_back ≡ old.sources_back ++ (named_control name control ++ others)))

-- memory was wanting: what the first parts opened was given back, and so many of the sources of the next one
pub record IsGivenInPart (feeds : Feeds) (topology : Topology) (control : Option LineSeen) (table : ℕ → Option BodySeen) (old new : EdgesSeen) : Type 0 where
  pub parts : ℕ
  pub more : ℕ
  pub some_left : parts ≤ length topology.stages
  pub back : GivesOff (first_sources feeds parts more topology control table) (first_sinks feeds parts topology table) old new

-- ---- what is undone

-- a call of a stage failed by this name. What this stage had opened before it, as one of a merge, was given back first, and then in
-- order what was opened before this stage, the control source first
pub record IsStageUndone (feeds : Feeds) (topology : Topology) (name : List ℕ) (start : ℕ → Option BodySeen) (old new : EdgesSeen) : Type 0 where
  pub at : ℕ
  pub kind : EdgeKind
  pub spec : StageSpec
  pub here : slice_get topology.stages at ≡ Some spec
  pub front : List (EdgeKind × List ℕ)
  pub behind : List (EdgeKind × List ℕ)
  pub calls : stage_calls feeds spec ≡ front ++ (kind, name) ∷ behind
  pub control : Option LineSeen
  pub lines : HasSource old (control_call topology.control) None control
  pub opened : ℕ → Option BodySeen
  pub bodies : AreOpened feeds topology at old start opened
  pub same_telling : new.told ≡ old.told
  pub asked : IsTrue old.told
      → new.asked ≡ old.asked ++ (one (control_call topology.control) ++ (calls_of feeds (take at topology.stages) ++ (front ++ (kind, name) ∷ [])))
  pub fault : Rose old.faults new.faults
  pub faults_stay : old.faults ≤ new.faults
  pub back : List (List ℕ × SourceSeen)
  pub unread : AreUnread old front back
  pub inner : List (List ℕ × SourceSeen)
  pub ungated : AreInner (named_control topology.control control ++ sources_of feeds topology.stages opened) inner
  pub sources : new.sources_back ≡ old.sources_back ++ (back ++ inner)
  pub sinks : new.sinks_back ≡ old.sinks_back ++ sinks_of feeds topology.stages opened

-- the call of the control source failed by this name, and nothing was given back; or the call of a stage did
abbrev pub IsUndone : Feeds → Topology → (name : List ℕ) → (start : ℕ → Option BodySeen) → (old new : EdgesSeen) → Type 0
IsUndone feeds topology name start old new = IsOneFailed (one (control_call topology.control)) name old new ⊎ IsStageUndone feeds topology name start old new

-- ---- what is cut short

-- memory was wanting at the control source, with these calls still to come: nothing was opened, or it was, and went back or was
-- let go
pub record IsControlCut (feeds : Feeds) (topology : Topology) (rest : List (EdgeKind × List ℕ)) (old new : EdgesSeen) : Type 0 where
  pub made : List (EdgeKind × List ℕ)
  pub back : List (List ℕ × SourceSeen)
  pub cut : IsCut old (one (control_call topology.control)) made back
  pub to_come : run_calls feeds topology ≡ made ++ rest
  pub sources : new.sources_back ≡ old.sources_back ++ back
  pub sinks : new.sinks_back ≡ old.sinks_back

-- one of these calls of a stage failed, and some of what was opened was not given back: of this stage all was
pub record IsFailedInPart (topology : Topology) (calls made : List (EdgeKind × List ℕ)) (back : List (List ℕ × SourceSeen)) (parts : ℕ) (old new : EdgesSeen) : Type 0 where
  pub kind : EdgeKind
  pub name : List ℕ
  pub front : List (EdgeKind × List ℕ)
  pub behind : List (EdgeKind × List ℕ)
  pub is : calls ≡ front ++ (kind, name) ∷ behind
  pub are_made : made ≡ front ++ (kind, name) ∷ []
  pub unread : AreUnread old front back
  pub fault : Rose old.faults new.faults
  pub some_left : parts ≤ length topology.stages

-- opening ended at a stage, with these calls still to come: memory was wanting there, or one of its calls failed and then memory was
-- wanting. What its own calls opened went back first, and then, unread, unwritten and in order, the first parts of what was opened
-- before it, and so many of the sources of the next part
pub record IsStageCut (feeds : Feeds) (topology : Topology) (start : ℕ → Option BodySeen) (rest : List (EdgeKind × List ℕ)) (old new : EdgesSeen) : Type 0 where
  pub at : ℕ
  pub spec : StageSpec
  pub here : slice_get topology.stages at ≡ Some spec
  pub made : List (EdgeKind × List ℕ)
  pub back : List (List ℕ × SourceSeen)
  pub parts : ℕ
  pub more : ℕ
  pub cut : IsCut old (stage_calls feeds spec) made back ⊎ IsFailedInPart topology (stage_calls feeds spec) made back parts old new
  pub to_come : stage_calls feeds spec ++ calls_of feeds (drop (at + 1) topology.stages) ≡ made ++ rest
  pub control : Option LineSeen
  pub lines : HasSource old (control_call topology.control) None control
  pub opened : ℕ → Option BodySeen
  pub bodies : AreOpened feeds topology at old start opened
  pub inner : List (List ℕ × SourceSeen)
  pub ungated : AreInner (first_sources feeds parts more topology control opened) inner
  pub sources : new.sources_back ≡ old.sources_back ++ (back ++ inner)
  pub sinks : new.sinks_back ≡ old.sinks_back ++ first_sinks feeds parts topology opened

-- memory was wanting: so many of the first calls were made, and what they opened was given back, all of it or the first parts
pub record IsCutShort (feeds : Feeds) (topology : Topology) (start : ℕ → Option BodySeen) (old new : EdgesSeen) : Type 0 where
  pub same_telling : new.told ≡ old.told
  pub front : List (EdgeKind × List ℕ)
  pub rest : List (EdgeKind × List ℕ)
  pub calls : run_calls feeds topology ≡ front ++ rest
  pub asked : IsTrue old.told → new.asked ≡ old.asked ++ front
  pub faults_stay : old.faults ≤ new.faults
  pub given_back : IsControlCut feeds topology rest old new ⊎ IsStageCut feeds topology start rest old new
