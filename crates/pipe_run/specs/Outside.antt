-- What a run read of its sources, and wrote to its sinks.
use Rattle.std.specs.Prelude.{◌≡◌, ◌≤◌, ◌<◌, ◌⊎◌, ◌+◌, ◌++◌, ◌∷◌, [], ℕ, suc, drop, Bool, List, length, map, slice_get, All, IsTrue, IfSome, IsSomeAnd, Option, Some, None, option_map}
use Rattle.std.specs.List.{sum_by}
use Rattle.pipe_types.specs.Counts.{Rose}
use Rattle.pipe_types.specs.declared.numbers.StageNo.{StageNo}
use Rattle.pipe_types.specs.declared.step.SourceHow.TheVariants.{End, Fault, TooLong}
use Rattle.pipe_types.specs.declared.topology.StageSpec.{StageSpec}
use Rattle.pipe_types.specs.declared.topology.Topology.{Topology}
use Rattle.pipe_types.specs.Numbers.{post}
use Rattle.pipe_types.specs.Stages.{spec_of}
use Rattle.pipe_model.specs.History.{History}
use Rattle.pipe_model.specs.Outside.{fed, source_end, sink_text}
use Rattle.pipe_edges.specs.declared.edges.EdgeKind.{EdgeKind}
use Rattle.pipe_edges.specs.declared.edges.EdgeKind.TheVariants.{Sink}
use Rattle.source_lines.specs.Cut.{AreFirstLines, AreAllLines, AreLinesBeforeLong}
use Rattle.pipe_laws.specs.Read.{quiets}
use Rattle.stage_job.specs.Chunks.{RoseBy}
use Rattle.line_merge.specs.Items.{lines_from}
use Rattle.stage_bodies.specs.Seen.{SourceSeen, SourcesSeen, OneSource, ManySources, sources_out, SinkSeen, LineSeen, BodySeen}
use Rattle.stage_bodies.specs.Jobs.{Both}
use Rattle.stage_bodies.specs.Posts.{place_at}
use Rattle.body_laws.specs.Counts.{short_writes}
use Rattle.body_laws.specs.Ready.{There}
use Rattle.run_pipe.specs.Obeyed.{IsControlRead}
use Rattle.pipe_edges.specs.Paces.{Pace, unpaced}
use Rattle.rate_laws.specs.Rates.{came_by, own_quiets}
use Rattle.edge_names.specs.Seen.{EdgesSeen}
use Rattle.edge_names.specs.Gates.{AreInner, HasNoWait, without_gate}
use Rattle.edge_names.specs.Named.{GivesSource, GivesSink}
use Rattle.edge_names.specs.Supplies.{Feeds, Feed, Opened, Merged, Made, Fed, Written, stage_calls}
use Rattle.edge_names.specs.Opened.{AreOpened, AreUnread, HasSource, supplied_in, calls_of, edge_calls}
use Rattle.edge_names.specs.Returned.{feed_in, sink_in, sources_of, sinks_of}
use Rattle.edge_names.specs.Controls.{IsBackFirst, IsControlCut, IsStageCut, control_call, named_control, first_sources, first_sinks}
use Rattle.box_stock.specs.Lends.{AreHandedOut}
use Rattle.pipe_run.specs.Live.{IsLiveBack, IsLiveSink}

-- the records are the first lines of what the source gave and has left: all of them, none too long, where it ended; all
-- before the first that is too long, where it ended so. A fault and each quiet has its cause in the source, whose
-- counts were 0 when it was opened
pub record ReadsSource (before : History) (p : StageNo) (source : SourceSeen) : Type 0 where
  pub in_order : IsTrue source.told → AreFirstLines (source.taken ++ source.left) (fed before p)
  pub whole : IsTrue source.told → source_end before p ≡ Some End → AreAllLines (source.taken ++ source.left) (fed before p)
  pub too_long : IsTrue source.told → source_end before p ≡ Some TooLong → AreLinesBeforeLong (source.taken ++ source.left) (fed before p)
  pub fault : source_end before p ≡ Some Fault → Rose 0 source.faults
  pub quiet : RoseBy (quiets before p) 0 source.waits

-- the source that was opened under this name, without its gate, has the bytes that stood there, and the journal's records are its
-- lines
pub record IsSourceRead (edges : EdgesSeen) (before : History) (p : StageNo) (name : List ℕ) (source : SourceSeen) : Type 0 where
  pub opened : SourceSeen
  pub given : GivesSource edges name (without_gate opened)
  pub same_telling : source.told ≡ opened.told
  pub same_bytes : IsTrue opened.told → source.taken ++ source.left ≡ opened.left
  pub reads : ReadsSource before p source

-- the records are lines of these sources: of each the first lines of what it gave and has left, in their order; all of them, none too
-- long, where each source ended; all before the first that is too long of some source, where the end is such a line. A fault has its
-- cause in some source, and the waits of all together rose at least once for each quiet; their counts were 0 when they were opened
pub record ReadsMerge (before : History) (p : StageNo) (sources : List SourceSeen) : Type 0 where
  pub order : List (ℕ × List ℕ)
  pub records : map (λ d. d.1) order ≡ fed before p
  pub placed : All (λ d. d.0 < length sources) order
  pub in_order : (k : ℕ) → IfSome (slice_get sources k) (λ s. IsTrue s.told → AreFirstLines (s.taken ++ s.left) (lines_from k order))
  pub whole : source_end before p ≡ Some End → (k : ℕ) → IfSome (slice_get sources k) (λ s. IsTrue s.told → AreAllLines (s.taken ++ s.left) (lines_from k order))
  pub too_long : source_end before p ≡ Some TooLong → (k : ℕ) × IsSomeAnd (slice_get sources k) (λ s. IsTrue s.told → AreLinesBeforeLong (s.taken ++ s.left) (lines_from k order))
  pub fault : source_end before p ≡ Some Fault → (k : ℕ) × IsSomeAnd (slice_get sources k) (λ s. Rose 0 s.faults)
  pub quiet : RoseBy (quiets before p) 0 (sum_by (λ s. s.waits) sources)

-- it tells as when it was opened, and what it gave and has left is what stood there then
pub record HasItsBytes (opened source : SourceSeen) : Type 0 where
  pub same_telling : source.told ≡ opened.told
  pub same_bytes : IsTrue opened.told → source.taken ++ source.left ≡ opened.left

-- the sources that were opened under these names, one by one, have the bytes that stood there, and the journal's records are their
-- lines
pub record IsMergeRead (edges : EdgesSeen) (before : History) (p : StageNo) (names : List (List ℕ)) (sources : List SourceSeen) : Type 0 where
  pub opened : List SourceSeen
  pub given : (k : ℕ) → Both (GivesSource edges) (slice_get names k) (slice_get opened k)
  pub same : (k : ℕ) → Both HasItsBytes (slice_get opened k) (slice_get sources k)
  pub reads : ReadsMerge before p sources

-- the control source that was opened under this name has the bytes that stood there, and the control steps of the journal are
-- those of its lines
pub record IsControlUsed (topology : Topology) (edges : EdgesSeen) (before : History) (name : List ℕ) (source : SourceSeen) : Type 0 where
  pub opened : SourceSeen
  pub given : GivesSource edges name opened
  pub same_telling : source.told ≡ opened.told
  pub same_bytes : IsTrue opened.told → source.taken ++ source.left ≡ opened.left
  pub reads : IsControlRead topology before source

-- the control source, if one is named
abbrev pub HasControl : Topology → EdgesSeen → History → (name : Option (List ℕ)) → Option LineSeen → Type 0
HasControl topology edges before (Some name) (Some lines) = IsControlUsed topology edges before name lines.source
HasControl topology edges before None None = Unit {0}
HasControl topology edges before _ _ = ⊥

-- the sink that was opened under this name holds what it held then, and then exactly the journal's text; each write of less than
-- its text has its cause in the sink, whose count was 0
pub record IsSinkWritten (topology : Topology) (edges : EdgesSeen) (before : History) (s : StageNo) (name : List ℕ) (sink : SinkSeen) : Type 0 where
  pub opened : SinkSeen
  pub given : GivesSink edges name opened
  pub same_telling : sink.told ≡ opened.told
  pub held : IsTrue opened.told → sink.held ≡ opened.held ++ sink_text topology before s
  pub short : RoseBy (short_writes topology before s) 0 sink.faults

-- the source that was made of these bytes has them, and the journal's records are its lines. In a whole run it has counted no
-- fault, and it was never the source itself that had nothing ready
pub record IsMadeRead (whole : Bool) (before : History) (p : StageNo) (bytes : List ℕ) (source : SourceSeen) : Type 0 where
  pub tells : IsTrue source.told
  pub same_bytes : source.taken ++ source.left ≡ bytes
  pub reads : ReadsSource before p source
  pub calm : IsTrue whole → (source.faults ≡ 0) × HasNoWait source

-- the source of a producer, however it came to it, or the sources of its merge
abbrev pub IsFeedRead : (whole : Bool) → EdgesSeen → History → (p : StageNo) → Feed → SourcesSeen → Type 0
IsFeedRead whole edges before p (Opened name) (OneSource source) = IsSourceRead edges before p name source
IsFeedRead whole edges before p (Merged names) (ManySources sources) = IsMergeRead edges before p names sources
IsFeedRead whole edges before p (Made bytes) (OneSource source) = IsMadeRead whole before p bytes source
IsFeedRead whole edges before p _ _ = ⊥

-- no interval brought more records than the share, and the source itself had nothing ready at least once for each quiet of the journal
-- that came while the share had one left; without a pace it has no gate
abbrev pub KeepsItsPace : Option Pace → History → (p : StageNo) → SourceSeen → Type 0
KeepsItsPace None before p source = source.paced ≡ unpaced
KeepsItsPace (Some pace) before p source =
    ((i : ℕ) → came_by p pace.interval i before ≤ pace.share)
    × RoseBy (own_quiets pace.share pace.interval before p) 0 source.paced.own

-- a merge has no pace, and no source of it has a gate
abbrev pub KeepTheirPace : Option Pace → History → (p : StageNo) → SourcesSeen → Type 0
KeepTheirPace at before p (OneSource source) = KeepsItsPace at before p source
KeepTheirPace at before p (ManySources sources) = (at ≡ None) × ((k : ℕ) → IfSome (slice_get sources k) (λ s. s.paced ≡ unpaced))

-- the source of a producer that is read at this pace, or the sources of its merge
pub record IsFedRead (whole : Bool) (edges : EdgesSeen) (before : History) (p : StageNo) (at : Option Pace) (feed : Feed) (sources : SourcesSeen) : Type 0 where
  pub read : IsFeedRead whole edges before p feed sources
  pub pace : KeepTheirPace at before p sources

-- the bodies of the stages hold what they were supplied with, each source read and each sink written as the journal says
pub record AreUsed (feeds : Feeds) (whole : Bool) (topology : Topology) (edges : EdgesSeen) (before : History) (bodies : ℕ → Option BodySeen) : Type 0 where
  pub sources : (s : StageNo) (pace : Option Pace) (feed : Feed) → supplied_in feeds (spec_of topology s) ≡ Some (Fed pace feed)
      → There (option_map sources_out (feed_in (bodies (place_at (post s 0))))) (IsFedRead whole edges before s pace feed)
  pub sinks : (s : StageNo) (name : List ℕ) → supplied_in feeds (spec_of topology s) ≡ Some (Written name)
      → There (sink_in (bodies (place_at (post s 0)))) (IsSinkWritten topology edges before s name)

-- everything that was opened by name was read and written as the journal says, and then given back, the control source first
-- and as it was, and then what the stages opened, in their order, each source without its gate: all of it, unless memory was
-- wanting. Then it was the first parts, and so many of the sources of the next one
pub record IsOutside (feeds : Feeds) (whole : Bool) (topology : Topology) (before : History) (old new : EdgesSeen) : Type 0 where
  pub control : Option LineSeen
  pub obeyed : HasControl topology old before topology.control control
  pub bodies : ℕ → Option BodySeen
  pub used : AreUsed feeds whole topology old before bodies
  pub parts : ℕ
  pub more : ℕ
  pub all : IsTrue whole → parts ≡ suc (length topology.stages)
  pub inner : List (List ℕ × SourceSeen)
  pub ungated : AreInner (first_sources feeds parts more topology control bodies) inner
  pub first : IsBackFirst topology.control control old new
  pub sources : new.sources_back ≡ old.sources_back ++ inner
  pub sinks : new.sinks_back ≡ old.sinks_back ++ first_sinks feeds parts topology bodies

-- the call of the control source failed by this name, with these calls still to come, and nothing was given back
pub record IsControlUnopened (feeds : Feeds) (topology : Topology) (name : List ℕ) (rest : List (EdgeKind × List ℕ)) (old new : EdgesSeen) : Type 0 where
  pub call : topology.control ≡ Some name
  pub to_come : rest ≡ edge_calls feeds topology
  pub sources : new.sources_back ≡ old.sources_back
  pub sinks : new.sinks_back ≡ old.sinks_back

-- a call of a stage failed by this name, with these calls still to come. What this stage had opened before it, as one of a merge, was
-- given back first, and then the control source and what the stages before it had opened, in their order, unread and unwritten
pub record IsStageUnopened (feeds : Feeds) (topology : Topology) (name : List ℕ) (rest : List (EdgeKind × List ℕ)) (old new : EdgesSeen) : Type 0 where
  pub at : ℕ
  pub kind : EdgeKind
  pub spec : StageSpec
  pub here : slice_get topology.stages at ≡ Some spec
  pub front : List (EdgeKind × List ℕ)
  pub behind : List (EdgeKind × List ℕ)
  pub calls : stage_calls feeds spec ≡ front ++ (kind, name) ∷ behind
  pub to_come : rest ≡ behind ++ calls_of feeds (drop (at + 1) topology.stages)
  pub control : Option LineSeen
  pub unread : HasSource old (control_call topology.control) None control
  pub start : ℕ → Option BodySeen
  pub handed : AreHandedOut topology start
  pub bodies : ℕ → Option BodySeen
  pub opened : AreOpened feeds topology at old start bodies
  pub back : List (List ℕ × SourceSeen)
  pub unread_back : AreUnread old front back
  pub inner : List (List ℕ × SourceSeen)
  pub ungated : AreInner (named_control topology.control control ++ sources_of feeds topology.stages bodies) inner
  pub sources : new.sources_back ≡ old.sources_back ++ (back ++ inner)
  pub sinks : new.sinks_back ≡ old.sinks_back ++ sinks_of feeds topology.stages bodies

-- a call that opens failed by this name, with these calls still to come, and what was opened before it was given back
abbrev pub IsUnopened : Feeds → Topology → (name : List ℕ) → (rest : List (EdgeKind × List ℕ)) → (old new : EdgesSeen) → Type 0
IsUnopened feeds topology name rest old new = IsControlUnopened feeds topology name rest old new ⊎ IsStageUnopened feeds topology name rest old new

-- memory was wanting before all was opened, with these calls still to come, and what was opened was given back, unread and
-- unwritten: all of it or the first parts
abbrev pub IsOpenedInPart : Feeds → Topology → (rest : List (EdgeKind × List ℕ)) → (old new : EdgesSeen) → Type 0
IsOpenedInPart feeds topology rest old new =
    IsControlCut feeds topology rest old new
    ⊎ ((start : ℕ → Option BodySeen) × AreHandedOut topology start × IsStageCut feeds topology start rest old new)

-- all that the topology names was opened: its control source, and what these bodies hold then
pub record IsAllOpen (feeds : Feeds) (topology : Topology) (old : EdgesSeen) : Type 0 where
  pub control : Option LineSeen
  pub unread : HasSource old (control_call topology.control) None control
  pub start : ℕ → Option BodySeen
  pub handed : AreHandedOut topology start
  pub bodies : ℕ → Option BodySeen
  pub opened : AreOpened feeds topology (length topology.stages) old start bodies

-- all that the topology names was opened, and went back unread and unwritten, the control source first
pub record IsAllUnused (feeds : Feeds) (topology : Topology) (old new : EdgesSeen) : Type 0 where
  pub all : IsAllOpen feeds topology old
  pub inner : List (List ℕ × SourceSeen)
  pub ungated : AreInner (named_control topology.control all.control ++ sources_of feeds topology.stages all.bodies) inner
  pub sources : new.sources_back ≡ old.sources_back ++ inner
  pub sinks : new.sinks_back ≡ old.sinks_back ++ sinks_of feeds topology.stages all.bodies

-- memory was wanting for the live sink, with these calls still to come, or for giving back after its call had failed: all that the topology
-- names was opened, of which the first parts went back unread and unwritten, and so many of the sources of the next part; and then
-- the live sink
pub record IsAllOpenedInPart (feeds : Feeds) (topology : Topology) (live : List ℕ) (rest : List (EdgeKind × List ℕ)) (old new : EdgesSeen) : Type 0 where
  pub made : List (EdgeKind × List ℕ)
  pub to_come : (Sink, live) ∷ [] ≡ made ++ rest
  pub all : IsAllOpen feeds topology old
  pub parts : ℕ
  pub more : ℕ
  pub inner : List (List ℕ × SourceSeen)
  pub ungated : AreInner (first_sources feeds parts more topology all.control all.bodies) inner
  pub back : List (List ℕ × SinkSeen)
  pub unwritten : IsLiveBack old live rest back
  pub sources : new.sources_back ≡ old.sources_back ++ inner
  pub sinks : new.sinks_back ≡ old.sinks_back ++ (first_sinks feeds parts topology all.bodies ++ back)

-- ---- with a live sink, where it is named

-- all that the topology names was read, written and given back, and behind it the live sink was fed and given back
pub record IsFedOutside (feeds : Feeds) (whole : Bool) (topology : Topology) (before : History) (live text : List ℕ) (failed : Bool) (old new : EdgesSeen) : Type 0 where
  pub middle : EdgesSeen
  pub outside : IsOutside feeds whole topology before old middle
  pub sink : IsLiveSink old live text whole failed middle new

abbrev pub IsOutsideWith : (feeds : Feeds) → (whole : Bool) → Topology → (before : History) → (live : Option (List ℕ)) → (text : List ℕ) → (failed : Bool) → (old new : EdgesSeen) → Type 0
IsOutsideWith feeds whole topology before (Some name) text failed old new = IsFedOutside feeds whole topology before name text failed old new
IsOutsideWith feeds whole topology before None text failed old new = IsOutside feeds whole topology before old new

-- a call that opens failed by this name, with these calls still to come, and what was opened before it was given back; that of the live
-- sink is the last
abbrev pub IsUnopenedWith : Feeds → Topology → (live : Option (List ℕ)) → (name : List ℕ) → (rest : List (EdgeKind × List ℕ)) → (old new : EdgesSeen) → Type 0
IsUnopenedWith feeds topology (Some live) name rest old new =
    ((earlier : List (EdgeKind × List ℕ)) × (rest ≡ earlier ++ (Sink, live) ∷ []) × IsUnopened feeds topology name earlier old new)
    ⊎ ((name ≡ live) × (rest ≡ []) × IsAllUnused feeds topology old new)
IsUnopenedWith feeds topology None name rest old new = IsUnopened feeds topology name rest old new

-- memory was wanting before all was opened, with these calls still to come
abbrev pub IsOpenedInPartWith : Feeds → Topology → (live : Option (List ℕ)) → (rest : List (EdgeKind × List ℕ)) → (old new : EdgesSeen) → Type 0
IsOpenedInPartWith feeds topology (Some live) rest old new =
    ((earlier : List (EdgeKind × List ℕ)) × (rest ≡ earlier ++ (Sink, live) ∷ []) × IsOpenedInPart feeds topology earlier old new)
    ⊎ IsAllOpenedInPart feeds topology live rest old new
IsOpenedInPartWith feeds topology None rest old new = IsOpenedInPart feeds topology rest old new

-- these calls by name were made, of edges that tell as before
pub record AreAsked (calls : List (EdgeKind × List ℕ)) (old new : EdgesSeen) : Type 0 where
  pub same_telling : new.told ≡ old.told
  pub asked : IsTrue old.told → new.asked ≡ old.asked ++ calls
  pub faults_stay : old.faults ≤ new.faults
