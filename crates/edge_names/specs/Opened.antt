-- What a run opens by name, stage by stage, and what its bodies then hold.
use Rattle.std.specs.Prelude.{◌≡◌, ◌≤◌, ◌<◌, ◌++◌, ◌&&◌, ◌==◌, if◌then◌else◌, nat_le, ℕ, List, [], ◌∷◌, length, take, slice_get, All, Option, Some, None, Result, Ok, Err, ◌⊎◌, IsTrue, IsSome}
use Rattle.std.specs.List.{flat_map}
use Rattle.pipe_types.specs.Counts.{Rose}
use Rattle.pipe_types.specs.Numbers.{post}
use Rattle.pipe_types.specs.Stages.{spec_of}
use Rattle.pipe_types.specs.declared.numbers.StageNo.{StageNo}
use Rattle.pipe_types.specs.declared.numbers.Post.{Post}
use Rattle.pipe_types.specs.declared.topology.StageSpec.{StageSpec}
use Rattle.pipe_types.specs.declared.topology.Topology.{Topology}
use Rattle.pipe_edges.specs.Named.{StandsAsBefore}
use Rattle.pipe_edges.specs.Paces.{Pace}
use Rattle.pipe_edges.specs.declared.edges.EdgeKind.{EdgeKind}
use Rattle.pipe_edges.specs.declared.edges.EdgeKind.TheVariants.{Source}
use Rattle.stage_bodies.specs.Seen.{SourceSeen, SinkSeen, LineSeen, MergeSeen, FeedSeen, Single, Merged as MergedSeen, sources_in, BodySeen}
use Rattle.stage_bodies.specs.Reads.{AreMergedFrom}
use Rattle.line_merge.specs.Seen.{AreUnpaced}
use Rattle.stage_bodies.specs.Jobs.{Both}
use Rattle.stage_bodies.specs.Posts.{place_at}
use Rattle.edge_names.specs.Seen.{EdgesSeen}
use Rattle.edge_names.specs.Named.{GivesSource, GivesSink}
use Rattle.pace_laws.specs.Pacing.{at_start}
use Rattle.edge_names.specs.Gates.{without_gate}
use Rattle.edge_names.specs.Supplies.{Feeds, Feed, Opened, Merged, Made, Supplied, Fed, Written, IsMade, calls_for, source_call, stage_calls, supplied}
use Rattle.edge_names.specs.declared.opening.Unopened.{Unopened}
use Rattle.edge_names.specs.declared.opening.Unopened.TheVariants.{Failed, OutOfMemory}

-- ---- calls

abbrev pub one : {A : Type 0} → Option A → List A
one (Some x) = x ∷ []
one None = []

-- the calls of these stages, in their order
abbrev pub calls_of : Feeds → List StageSpec → List (EdgeKind × List ℕ)
calls_of feeds stages = flat_map (stage_calls feeds) stages

abbrev pub edge_calls : Feeds → Topology → List (EdgeKind × List ℕ)
edge_calls feeds topology = calls_of feeds topology.stages

-- these calls were made, and nothing was given back
pub record Asks (calls : List (EdgeKind × List ℕ)) (old new : EdgesSeen) : Type 0 where
  pub same_telling : new.told ≡ old.told
  pub stands : IsTrue old.told → StandsAsBefore old.named new.named
  pub asked : IsTrue old.told → new.asked ≡ old.asked ++ calls
  pub sources : new.sources_back ≡ old.sources_back
  pub sinks : new.sinks_back ≡ old.sinks_back
  pub faults_stay : old.faults ≤ new.faults

-- ---- bodies

-- a source that was opened, of which no line was read
abbrev pub fresh_lines : SourceSeen → LineSeen
fresh_lines source = record { source = source; waiting = []; end = None }

-- the source that this call opened, of which no line was read
pub record GivesLines (edges : EdgesSeen) (name : List ℕ) (lines : LineSeen) : Type 0 where
  pub source : GivesSource edges name lines.source
  pub nothing_waits : lines.waiting ≡ []
  pub no_end : lines.end ≡ None

abbrev pub HasSource : EdgesSeen → Option (EdgeKind × List ℕ) → (old new : Option LineSeen) → Type 0
HasSource edges (Some (Source, name)) old (Some lines) = GivesLines edges name lines
HasSource edges (Some (Source, name)) old None = ⊥
HasSource edges _ old new = new ≡ old

-- the source that a supply gives of what is no merge: the one that its call opened, or one that was made
abbrev pub GivesFeed : EdgesSeen → Feed → SourceSeen → Type 0
GivesFeed edges (Opened name) source = GivesSource edges name source
GivesFeed edges (Merged names) source = ⊥
GivesFeed edges (Made bytes) source = IsMade bytes source

-- where there is one
abbrev pub IsSupplied : EdgesSeen → Option Feed → Option SourceSeen → Type 0
IsSupplied edges (Some feed) (Some source) = GivesFeed edges feed source
IsSupplied edges None None = Unit {0}
IsSupplied edges _ _ = ⊥

-- such a source, of which no line was read; its gate, if it has one, was told no moment and has given nothing
pub record GivesFed (edges : EdgesSeen) (pace : Option Pace) (feed : Feed) (lines : LineSeen) : Type 0 where
  pub source : GivesFeed edges feed (without_gate lines.source)
  pub gate : lines.source.paced ≡ at_start pace
  pub nothing_waits : lines.waiting ≡ []
  pub no_end : lines.end ≡ None

-- the sources that were opened under these names, in order
abbrev pub GiveSources : EdgesSeen → List (List ℕ) → List SourceSeen → Type 0
GiveSources edges [] [] = Unit {0}
GiveSources edges (name ∷ names) (source ∷ sources) = GivesSource edges name source × GiveSources edges names sources
GiveSources edges _ _ = ⊥

-- the merge of these sources, of which no line was read
pub record IsMergeOf (sources : List SourceSeen) (merge : MergeSeen) : Type 0 where
  pub same : sources_in (MergedSeen merge) ≡ sources
  pub unread : AreMergedFrom sources merge []

-- the sources that were opened under these names, 2 to 64, in order, of which no line was read. They stand in no gate
pub record GivesMerge (edges : EdgesSeen) (names : List (List ℕ)) (merge : MergeSeen) : Type 0 where
  pub some : 2 ≤ length names
  pub few : length names ≤ 64
  pub given : (k : ℕ) → Both (GivesSource edges) (slice_get names k) (slice_get (sources_in (MergedSeen merge)) k)
  pub unread : AreMergedFrom (sources_in (MergedSeen merge)) merge []
  pub unpaced : AreUnpaced merge

-- the source, or the merge, that a body has where this was supplied
abbrev pub HasFeed : EdgesSeen → Option Supplied → (old new : Option FeedSeen) → Type 0
HasFeed edges (Some (Fed pace feed)) old (Some (Single lines)) = GivesFed edges pace feed lines
HasFeed edges (Some (Fed pace (Merged names))) old (Some (MergedSeen merge)) = GivesMerge edges names merge
HasFeed edges (Some (Fed pace feed)) old _ = ⊥
HasFeed edges (Some (Written name)) old new = new ≡ old
HasFeed edges None old new = new ≡ old

-- the sink that a body has where this was supplied
abbrev pub HasSink : EdgesSeen → Option Supplied → (old new : Option SinkSeen) → Type 0
HasSink edges (Some (Written name)) old (Some sink) = GivesSink edges name sink
HasSink edges (Some (Written name)) old None = ⊥
HasSink edges (Some (Fed pace feed)) old new = new ≡ old
HasSink edges None old new = new ≡ old

-- the body has what was supplied, and is else as it was
pub record IsOpened (edges : EdgesSeen) (what : Option Supplied) (old new : BodySeen) : Type 0 where
  pub source : HasFeed edges what old.source new.source
  pub sink : HasSink edges what old.sink new.sink
  pub callback : new.callback ≡ old.callback

abbrev pub supplied_in : Feeds → Option StageSpec → Option Supplied
supplied_in feeds (Some spec) = supplied feeds spec
supplied_in feeds None = None

abbrev pub calls_in : Feeds → Option StageSpec → List (EdgeKind × List ℕ)
calls_in feeds (Some spec) = stage_calls feeds spec
calls_in feeds None = []

-- what the body of a post is supplied with, where the first n stages were: a stage's is for its slot 0
abbrev pub supplied_at : Feeds → Topology → (n : ℕ) → Post → Option Supplied
supplied_at feeds topology n p = if p.slot == 0 && nat_le p.stage.0 n then supplied_in feeds (spec_of topology p.stage) else None

-- the bodies have what the first n stages were supplied with, and are else as they were
abbrev pub AreOpened : Feeds → Topology → (n : ℕ) → EdgesSeen → (old new : ℕ → Option BodySeen) → Type 0
AreOpened feeds topology n edges old new =
    (p : Post) → p.slot < 16 → Both (IsOpened edges (supplied_at feeds topology n p)) (old (place_at p)) (new (place_at p))

-- the body of every stage that is supplied with something is there
abbrev pub AreHome : Feeds → Topology → (ℕ → Option BodySeen) → Type 0
AreHome feeds topology table =
    (s : StageNo) (spec : StageSpec) → spec_of topology s ≡ Some spec → IsSome (supplied feeds spec) → IsSome (table (place_at (post s 0)))

-- ---- what is not opened

abbrev pub IfFailed : Unopened → (List ℕ → Type 0) → Type 0
IfFailed (Failed name) P = P name
IfFailed OutOfMemory P = Unit {0}

abbrev pub IfCutOff : Unopened → Type 0 → Type 0
IfCutOff (Failed name) P = Unit {0}
IfCutOff OutOfMemory P = P

-- the call that opens this source failed by this name
pub record FailsToOpen (feed : Option Feed) (name : List ℕ) (old new : EdgesSeen) : Type 0 where
  pub is : feed ≡ Some (Opened name)
  pub asks : Asks (source_call name ∷ []) old new
  pub fault : Rose old.faults new.faults

-- each of these calls opened a source, of which nothing was read, under its name
abbrev pub AreUnread : EdgesSeen → (calls : List (EdgeKind × List ℕ)) → List (List ℕ × SourceSeen) → Type 0
AreUnread edges [] [] = Unit {0}
AreUnread edges ((Source, name) ∷ calls) (given ∷ back) = (given.0 ≡ name) × GivesSource edges name given.1 × AreUnread edges calls back
AreUnread edges _ _ = ⊥

-- one of these calls failed by this name; what those before it had opened went back, unread and in order
pub record IsOneFailed (calls : List (EdgeKind × List ℕ)) (name : List ℕ) (old new : EdgesSeen) : Type 0 where
  pub kind : EdgeKind
  pub front : List (EdgeKind × List ℕ)
  pub behind : List (EdgeKind × List ℕ)
  pub parts : calls ≡ front ++ (kind, name) ∷ behind
  pub back : List (List ℕ × SourceSeen)
  pub unread : AreUnread old front back
  pub same_telling : new.told ≡ old.told
  pub asked : IsTrue old.told → new.asked ≡ old.asked ++ (front ++ (kind, name) ∷ [])
  pub sources : new.sources_back ≡ old.sources_back ++ back
  pub sinks : new.sinks_back ≡ old.sinks_back
  pub faults_stay : old.faults ≤ new.faults
  pub fault : Rose old.faults new.faults

-- what these calls leave where memory was wanting: so many of them were made, each of a source, and of what they opened the first
-- ones went back, unread and in order, as far as there was memory for that. The others were let go
pub record IsCut (edges : EdgesSeen) (calls made : List (EdgeKind × List ℕ)) (back : List (List ℕ × SourceSeen)) : Type 0 where
  pub rest : List (EdgeKind × List ℕ)
  pub parts : calls ≡ made ++ rest
  pub of_sources : All (λ call. call.0 ≡ Source) made
  pub unread : AreUnread edges (take (length back) made) back

-- memory was wanting
pub record IsOneCut (calls : List (EdgeKind × List ℕ)) (old new : EdgesSeen) : Type 0 where
  pub made : List (EdgeKind × List ℕ)
  pub back : List (List ℕ × SourceSeen)
  pub cut : IsCut old calls made back
  pub same_telling : new.told ≡ old.told
  pub asked : IsTrue old.told → new.asked ≡ old.asked ++ made
  pub sources : new.sources_back ≡ old.sources_back ++ back
  pub sinks : new.sinks_back ≡ old.sinks_back
  pub faults_stay : old.faults ≤ new.faults

-- ---- one stage

-- the body at this place has what was supplied, and all others are as they were
abbrev pub AreOpenedAt : (at : ℕ) → Option Supplied → EdgesSeen → (old new : ℕ → Option BodySeen) → Type 0
AreOpenedAt at what edges old new = (s : ℕ) → Both (IsOpened edges (if at == s then what else None)) (old s) (new s)

pub record IsOneOpened (what : Option Supplied) (at : ℕ) (old new : EdgesSeen) (start now : ℕ → Option BodySeen) : Type 0 where
  pub asks : Asks (calls_for what) old new
  pub bodies : AreOpenedAt at what old start now

-- what the opening of one stage comes to
abbrev pub OpensOne : {T : Type 0} → Option Supplied → (at : ℕ) → Result T Unopened → (old new : EdgesSeen) → (start now : ℕ → Option BodySeen) → Type 0
OpensOne what at (Ok _) old new start now = IsOneOpened what at old new start now
OpensOne what at (Err (Failed name)) old new start now = IsOneFailed (calls_for what) name old new
OpensOne what at (Err OutOfMemory) old new start now = IsOneCut (calls_for what) old new

-- a source without memory for its lines went back under its name, or was let go where there was no memory for that either
pub record IsReturned (name : List ℕ) (source : SourceSeen) (old new : EdgesSeen) : Type 0 where
  pub same_telling : new.told ≡ old.told
  pub asked : IsTrue old.told → new.asked ≡ old.asked
  pub back : List (List ℕ × SourceSeen)
  pub sources : new.sources_back ≡ old.sources_back ++ back
  pub which : (back ≡ (name, source) ∷ []) ⊎ (back ≡ [])
  pub sinks : new.sinks_back ≡ old.sinks_back
  pub no_fault : new.faults ≡ old.faults

-- ---- all stages

-- a call of a stage failed by this name, after those of the stages before it, whose bodies have what these opened
pub record IsFailed (feeds : Feeds) (topology : Topology) (name : List ℕ) (old new : EdgesSeen) (start now : ℕ → Option BodySeen) : Type 0 where
  pub at : ℕ
  pub spec : StageSpec
  pub here : slice_get topology.stages at ≡ Some spec
  pub middle : EdgesSeen
  pub asks : Asks (calls_of feeds (take at topology.stages)) old middle
  pub failed : IsOneFailed (stage_calls feeds spec) name middle new
  pub bodies : AreOpened feeds topology at old start now

-- memory was wanting at a stage, after the calls of the stages before it, whose bodies have what these opened
pub record IsCutOff (feeds : Feeds) (topology : Topology) (old new : EdgesSeen) (start now : ℕ → Option BodySeen) : Type 0 where
  pub at : ℕ
  pub spec : StageSpec
  pub here : slice_get topology.stages at ≡ Some spec
  pub middle : EdgesSeen
  pub asks : Asks (calls_of feeds (take at topology.stages)) old middle
  pub cut : IsOneCut (stage_calls feeds spec) middle new
  pub bodies : AreOpened feeds topology at old start now
