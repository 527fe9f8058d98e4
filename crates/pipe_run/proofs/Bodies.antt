-- What the bodies hold of what their stages opened by name.
use Rattle.std.proofs.Common.{◌≡◌, ℕ, List, [], ◌∷◌, length, Bool, true, false, arith, refl, ap, sym, ◌∙◌, subst, inl, inr, Option, Some, None}
use Rattle.std.specs.Prelude.{All, IsSome, IsTrue, ◌⊎◌, find, if◌then◌else◌, option_map}
use Rattle.std.proofs.lemmas.Bool.{ne_eqb}
use Rattle.std.proofs.lemmas.List.Elements.{All-head, All-tail}
use Rattle.pipe_types.specs.Numbers.{stage, post, same_stage}
use Rattle.pipe_types.specs.Sound.{IsSound}
use Rattle.pipe_types.specs.Stages.{spec_in, spec_of}
use Rattle.pipe_types.specs.declared.numbers.StageNo.{StageNo}
use Rattle.pipe_types.specs.declared.numbers.Post.{Post}
use Rattle.pipe_types.specs.declared.topology.Role.{Role}
use Rattle.pipe_types.specs.declared.topology.Role.TheVariants.{Producer, Processor, Supervisor, Batcher, BatchProcessor}
use Rattle.pipe_types.specs.declared.topology.StageSpec.{StageSpec}
use Rattle.pipe_types.specs.declared.topology.Topology.{Topology}
use Rattle.pipe_model.specs.History.{History}
use Rattle.pipe_model.specs.Legal.{is_legal, has_role, is_producer_role, is_batch_processor_role}
use Rattle.pipe_model.specs.Posts.{is_out}
use Rattle.stage_laws.proofs.Numbering.{numbered_topology}
use Rattle.stage_bodies.specs.Seen.{SinkSeen, FeedSeen, Single, Merged as MergedSeen, sources_out, BodySeen}
use Rattle.stage_bodies.specs.Jobs.{Both}
use Rattle.stage_bodies.specs.Posts.{place_at}
use Rattle.body_laws.specs.Keeps.{Keeps, KeepsPost, KeepsFeed, KeepsSink, has_slot}
use Rattle.body_laws.specs.Ready.{There}
use Rattle.body_laws.proofs.Posts.{first_post, producer_post}
use Rattle.edge_names.specs.Supplies.{Feeds, Feed, Opened, Merged, Made, Supplied, Fed, Written, fed, supplied, supplied_by, written}
use Rattle.pipe_edges.specs.Paces.{Pace}
use Rattle.edge_names.specs.Seen.{EdgesSeen}
use Rattle.edge_names.specs.Named.{GivesSink}
use Rattle.edge_names.specs.Opened.{AreHome, AreOpened, HasFeed, IsOpened, supplied_in}
use Rattle.edge_names.specs.Returned.{AreCalm, IsCalm, feed_in, one_source, source_in, sink_in}
use Rattle.edge_names.proofs.Openings.{opened_stage, given_sink}
use Rattle.pipe_run.specs.Outside.{AreUsed, IsFedRead, IsSinkWritten}
use Rattle.pipe_run.proofs.Merges.{merge_read, merge_unpaced}
use Rattle.pipe_run.proofs.Sources.{line_read}
use Rattle.pipe_run.proofs.Sinks.{sink_written}

-- ---- the stage that is supplied

record IsStageOf (feeds : Feeds) (topology : Topology) (s : StageNo) (what : Supplied) : Type 0 where
  pub spec : StageSpec
  pub found : spec_of topology s ≡ Some spec
  pub fits : supplied feeds spec ≡ Some what

stage_of : (feeds : Feeds) (topology : Topology) (s : StageNo) (what : Supplied) → supplied_in feeds (spec_of topology s) ≡ Some what → IsStageOf feeds topology s what
stage_of feeds topology s what e = by (spec_of topology s) refl e
  where
    by : (o : Option StageSpec) → spec_of topology s ≡ o → supplied_in feeds o ≡ Some what → IsStageOf feeds topology s what
    by None is e = cc
    by (Some spec) is e = record { spec = spec; found = is; fits = e }

abbrev pub is_fed : Option Supplied → Bool
is_fed (Some (Fed pace feed)) = true
is_fed (Some (Written name)) = false
is_fed None = false

abbrev is_written : Option Supplied → Bool
is_written (Some (Written name)) = true
is_written (Some (Fed pace feed)) = false
is_written None = false

pub written_not_fed : (edge : Option (List ℕ)) → is_fed (written edge) ≡ false
written_not_fed (Some name) = refl
written_not_fed None = refl

fed_not_written : (pace : Option Pace) (feed : Option Feed) → is_written (fed pace feed) ≡ false
fed_not_written pace (Some feed) = refl
fed_not_written pace None = refl

source_role : (r : Role) (at : Option Pace) (given : Option Feed) (edge : Option (List ℕ)) (pace : Option Pace) (feed : Feed) → supplied_by r at given edge ≡ Some (Fed pace feed) → is_producer_role r ≡ true
source_role Producer at given edge pace feed e = refl
source_role Processor at given edge pace feed e = cc
source_role Supervisor at given edge pace feed e = cc
source_role Batcher at given edge pace feed e = cc
source_role BatchProcessor at given edge pace feed e = let no : is_fed (written edge) ≡ false = written_not_fed edge in let yes : is_fed (written edge) ≡ true = ap is_fed e in cc

sink_role : (r : Role) (at : Option Pace) (given : Option Feed) (edge : Option (List ℕ)) (name : List ℕ) → supplied_by r at given edge ≡ Some (Written name) → is_batch_processor_role r ≡ true
sink_role BatchProcessor at given edge name e = refl
sink_role Processor at given edge name e = cc
sink_role Supervisor at given edge name e = cc
sink_role Batcher at given edge name e = cc
sink_role Producer at given edge name e = let no : is_written (fed at given) ≡ false = fed_not_written at given in let yes : is_written (fed at given) ≡ true = ap is_written e in cc

batch_post : (r : Role) (max : ℕ) → is_batch_processor_role r ≡ true → has_slot r max 0 ≡ true
batch_post BatchProcessor max h = refl
batch_post Producer max h = refl
batch_post Processor max h = refl
batch_post Supervisor max h = let x : false ≡ true = h in cc
batch_post Batcher max h = let x : false ≡ true = h in cc

role_at : (topology : Topology) (s : StageNo) (spec : StageSpec) (test : Role → Bool) → spec_of topology s ≡ Some spec → test spec.role ≡ true → has_role topology s test ≡ true
role_at topology s spec test found is =
    let same : has_role topology s test ≡ test spec.role = rw found refl in
    same ∙ is

-- ---- what is opened

some_from : (P : BodySeen → Type 0) (o : Option BodySeen) → There o P → IsSome o
some_from P (Some x) h = refl
some_from P None h = absurd h

there_at : {A : Type 0} (P : A → Type 0) (o : Option A) (x : A) → o ≡ Some x → P x → There o P
there_at P o x e h = subst (λ z. There z P) (sym e) h

-- what stands in the body of a producer
record IsFeedOpened (edges : EdgesSeen) (pace : Option Pace) (feed : Feed) (body : Option BodySeen) : Type 0 where
  pub seen : FeedSeen
  pub has : There body (λ b. b.source ≡ Some seen)
  pub gives : HasFeed edges (Some (Fed pace feed)) None (Some seen)

given_at : (edges : EdgesSeen) (pace : Option Pace) (feed : Feed) (b : BodySeen) (old new : Option FeedSeen) → b.source ≡ new → HasFeed edges (Some (Fed pace feed)) old new → IsFeedOpened edges pace feed (Some b)
given_at edges pace feed b old (Some (Single lines)) is h = record { seen = Single lines; has = is; gives = h }
given_at edges pace (Merged names) b old (Some (MergedSeen merge)) is h = record { seen = MergedSeen merge; has = is; gives = h }
given_at edges pace (Opened name) b old (Some (MergedSeen merge)) is h = absurd h
given_at edges pace (Made bytes) b old (Some (MergedSeen merge)) is h = absurd h
given_at edges pace feed b old None is h = absurd h

feed_opened : (edges : EdgesSeen) (pace : Option Pace) (feed : Feed) (x y : Option BodySeen) → IsSome x → Both (IsOpened edges (Some (Fed pace feed))) x y → IsFeedOpened edges pace feed y
feed_opened edges pace feed (Some a) (Some b) some h = given_at edges pace feed b a.source b.source refl h.source
feed_opened edges pace feed (Some a) None some h = absurd h
feed_opened edges pace feed None y some h = let x : false ≡ true = some in cc

record IsSinkOpened (edges : EdgesSeen) (name : List ℕ) (body : Option BodySeen) : Type 0 where
  pub sink : SinkSeen
  pub has : There body (λ b. b.sink ≡ Some sink)
  pub gives : GivesSink edges name sink

sink_opened : (edges : EdgesSeen) (name : List ℕ) (x y : Option BodySeen) → IsSome x → Both (IsOpened edges (Some (Written name))) x y → IsSinkOpened edges name y
sink_opened edges name (Some a) (Some b) some h =
    let g = given_sink edges name a.sink b.sink h.sink in
    record { sink = g.0; has = g.1; gives = g.2 }
sink_opened edges name (Some a) None some h = absurd h
sink_opened edges name None y some h = let x : false ≡ true = some in cc

-- ---- what became of it

record IsFeedKept (before : History) (s : StageNo) (out : Bool) (opened : FeedSeen) (body : Option BodySeen) : Type 0 where
  pub now : FeedSeen
  pub is : feed_in body ≡ Some now
  pub full : Bool
  pub lost : List (List ℕ)
  pub in_fetch : (lost ≡ []) ⊎ (out ≡ true)
  pub keeps : KeepsFeed before s full lost opened now

feed_whole : (before : History) (s : StageNo) (out : Bool) (opened : FeedSeen) (c : BodySeen) (x y : Option FeedSeen) → x ≡ Some opened → c.source ≡ y → Both (KeepsFeed before s true []) x y → IsFeedKept before s out opened (Some c)
feed_whole before s out opened c (Some a) (Some now) e is h =
    let same : a ≡ opened = cc in
    record { now = now; is = is; full = true; lost = []; in_fetch = inl refl; keeps = subst (λ z. KeepsFeed before s true [] z now) same h }
feed_whole before s out opened c (Some a) None e is h = absurd h
feed_whole before s out opened c None y e is h = cc

feed_partly : (before : History) (s : StageNo) (opened : FeedSeen) (c : BodySeen) (x y : Option FeedSeen) → x ≡ Some opened → c.source ≡ y
    → Both (λ old new. (lost : List (List ℕ)) × KeepsFeed before s false lost old new) x y → IsFeedKept before s true opened (Some c)
feed_partly before s opened c (Some a) (Some now) e is h =
    let same : a ≡ opened = cc in
    record { now = now; is = is; full = false; lost = h.0; in_fetch = inr refl; keeps = subst (λ z. KeepsFeed before s false h.0 z now) same h.1 }
feed_partly before s opened c (Some a) None e is h = absurd h
feed_partly before s opened c None y e is h = cc

feed_kept : (topology : Topology) (before : History) (p : Post) (out : Bool) (opened : FeedSeen) (o n : Option BodySeen) → There o (λ b. b.source ≡ Some opened) → IsSome n → KeepsPost topology before p out o n → IsFeedKept before p.stage out opened n
feed_kept topology before p false opened (Some b) (Some c) has some k = feed_whole before p.stage false opened c b.source c.source has refl k.source
feed_kept topology before p true opened (Some b) (Some c) has some (inl none) = cc
feed_kept topology before p true opened (Some b) (Some c) has some (inr k) = feed_partly before p.stage opened c b.source c.source has refl k.source
feed_kept topology before p out opened (Some b) None has some k = let x : false ≡ true = some in cc
feed_kept topology before p out opened None n has some k = absurd has

-- the source that is there, if it is one
source_of_feed : (body : Option BodySeen) → source_in body ≡ one_source (feed_in body)
source_of_feed None = refl
source_of_feed (Some body) = refl

record IsSinkKept (topology : Topology) (before : History) (s : StageNo) (opened : SinkSeen) (body : Option BodySeen) : Type 0 where
  pub now : SinkSeen
  pub is : sink_in body ≡ Some now
  pub keeps : KeepsSink topology before s opened now

sink_here : (topology : Topology) (before : History) (s : StageNo) (sink : SinkSeen) (c : BodySeen) (x y : Option SinkSeen) → x ≡ Some sink → c.sink ≡ y → Both (KeepsSink topology before s) x y
    → IsSinkKept topology before s sink (Some c)
sink_here topology before s sink c (Some a) (Some now) e is h = record {
  now = now;
  is = is;
  keeps = let same : a ≡ sink = cc in subst (λ z. KeepsSink topology before s z now) same h;
}
sink_here topology before s sink c (Some a) None e is h = absurd h
sink_here topology before s sink c None y e is h = cc

sink_kept : (topology : Topology) (before : History) (p : Post) (out : Bool) (sink : SinkSeen) (o n : Option BodySeen) → There o (λ b. b.sink ≡ Some sink) → IsSome n → KeepsPost topology before p out o n → IsSinkKept topology before p.stage sink n
sink_kept topology before p false sink (Some b) (Some c) has some k = sink_here topology before p.stage sink c b.sink c.sink has refl k.sink
sink_kept topology before p true sink (Some b) (Some c) has some (inl none) = cc
sink_kept topology before p true sink (Some b) (Some c) has some (inr k) = sink_here topology before p.stage sink c b.sink c.sink has refl k.sink
sink_kept topology before p out sink (Some b) None has some k = let x : false ≡ true = some in cc
sink_kept topology before p out sink None n has some k = absurd has

-- ---- by what was supplied

feed_read : (whole : Bool) (topology : Topology) (before : History) (s : StageNo) (full : Bool) (lost : List (List ℕ)) (edges : EdgesSeen) (pace : Option Pace) (feed : Feed) (opened now : FeedSeen) → is_legal topology before ≡ true → has_role topology s is_producer_role ≡ true → same_stage s (stage 0) ≡ false
    → (lost ≡ []) ⊎ (is_out before (post s 0) ≡ true) → ((names : List (List ℕ)) → feed ≡ Merged names → pace ≡ None) → HasFeed edges (Some (Fed pace feed)) None (Some opened) → KeepsFeed before s full lost opened now
    → (IsTrue whole → IsCalm (Some (Fed pace feed)) (one_source (Some now))) → IsFedRead whole edges before s pace feed (sources_out now)
feed_read whole topology before s full lost edges pace feed (Single opened) (Single now) legal role own in_fetch unmerged gives k calm = line_read whole topology before s full lost edges pace feed opened now legal role own in_fetch gives k calm
feed_read whole topology before s full lost edges pace (Merged names) (MergedSeen opened) (MergedSeen now) legal role own in_fetch unmerged gives k calm = record {
  read = merge_read topology before s lost edges names opened now legal role own in_fetch gives k;
  pace = (unmerged names refl, merge_unpaced now k.unpaced);
}
feed_read whole topology before s full lost edges pace (Opened name) (MergedSeen opened) now legal role own in_fetch unmerged gives k calm = absurd gives
feed_read whole topology before s full lost edges pace (Made bytes) (MergedSeen opened) now legal role own in_fetch unmerged gives k calm = absurd gives
feed_read whole topology before s full lost edges pace feed (Single opened) (MergedSeen now) legal role own in_fetch unmerged gives k calm = absurd k
feed_read whole topology before s full lost edges pace (Merged names) (MergedSeen opened) (Single now) legal role own in_fetch unmerged gives k calm = absurd k

-- ---- all

-- a merge has no pace
abbrev pub AreUngated : Feeds → Type 0
AreUngated feeds = (spec : StageSpec) (pace : Option Pace) (names : List (List ℕ)) → supplied feeds spec ≡ Some (Fed pace (Merged names)) → pace ≡ None

-- a run of which the bodies keep the journal, after everything was opened
pub record IsRunFrom (feeds : Feeds) (whole : Bool) (topology : Topology) (edges : EdgesSeen) (before : History) (table opened bodies : ℕ → Option BodySeen) : Type 0 where
  pub sound : IsSound topology
  pub ungated : AreUngated feeds
  pub legal : is_legal topology before ≡ true
  pub home : AreHome feeds topology table
  pub opens : AreOpened feeds topology (length topology.stages) edges table opened
  pub keeps : Keeps topology before opened bodies
  pub stay : (at : ℕ) → IsSome (opened at) → IsSome (bodies at)
  pub calm : IsTrue whole → AreCalm feeds topology.stages bodies

-- what holds of all stages holds of the stage with this number
of_stage : (P : StageSpec → Type 0) (s : StageNo) (spec : StageSpec) (stages : List StageSpec) → spec_in stages s ≡ Some spec → All P stages → P spec
of_stage P s spec [] found each = cc
of_stage P s spec (x ∷ stages) found each = either (same_stage x.no s) found (λ is. of_stage P s spec stages is (All-tail P x stages each))
  where
    either : (b : Bool) → (if b then Some x else find (λ y. same_stage y.no s) stages) ≡ Some spec → (find (λ y. same_stage y.no s) stages ≡ Some spec → P spec) → P spec
    either true is rest = let same : x ≡ spec = cc in subst P same (All-head P x stages each)
    either false is rest = rest is

-- a source that was made, as it stands in the body of its stage
calm_at : (feeds : Feeds) (topology : Topology) (s : StageNo) (spec : StageSpec) (what : Supplied) (bodies : ℕ → Option BodySeen) (now : FeedSeen) → spec_of topology s ≡ Some spec → spec.no ≡ s → supplied feeds spec ≡ Some what
    → feed_in (bodies (place_at (post s 0))) ≡ Some now → AreCalm feeds topology.stages bodies → IsCalm (Some what) (one_source (Some now))
calm_at feeds topology s spec what bodies now found named fits is calm =
    let own : IsCalm (supplied feeds spec) (source_in (bodies (place_at (post spec.no 0)))) = of_stage (λ x. IsCalm (supplied feeds x) (source_in (bodies (place_at (post x.no 0))))) s spec topology.stages found calm in
    let here : IsCalm (supplied feeds spec) (source_in (bodies (place_at (post s 0)))) = subst (λ t. IsCalm (supplied feeds spec) (source_in (bodies (place_at (post t 0))))) named own in
    let same : source_in (bodies (place_at (post s 0))) ≡ one_source (Some now) = source_of_feed (bodies (place_at (post s 0))) ∙ ap one_source is in
    subst (λ o. IsCalm (Some what) o) same (subst (λ o. IsCalm o (source_in (bodies (place_at (post s 0))))) fits here)

sources_used : (feeds : Feeds) (whole : Bool) (topology : Topology) (edges : EdgesSeen) (before : History) (table opened bodies : ℕ → Option BodySeen) → IsRunFrom feeds whole topology edges before table opened bodies
    → (s : StageNo) (pace : Option Pace) (feed : Feed) → supplied_in feeds (spec_of topology s) ≡ Some (Fed pace feed) → There (option_map sources_out (feed_in (bodies (place_at (post s 0))))) (IsFedRead whole edges before s pace feed)
sources_used feeds whole topology edges before table opened bodies run s pace feed e =
    let at = place_at (post s 0) in
    let c = stage_of feeds topology s (Fed pace feed) e in
    let numbered = numbered_topology topology run.sound in
    let role = role_at topology s c.spec is_producer_role c.found (source_role c.spec.role (feeds.pace c.spec) (feeds.origin c.spec) c.spec.edge pace feed c.fits) in
    let some : IsSome (supplied feeds c.spec) = subst (λ (o : Option Supplied). IsSome o) (sym c.fits) refl in
    let both = subst (λ o. Both (IsOpened edges o) (table at) (opened at)) c.fits (opened_stage feeds topology s c.spec edges table opened numbered c.found run.opens) in
    let o = feed_opened edges pace feed (table at) (opened at) (run.home s c.spec c.found some) both in
    let there = run.stay at (some_from (λ b. b.source ≡ Some o.seen) (opened at) o.has) in
    let kept = feed_kept topology before (post s 0) (is_out before (post s 0)) o.seen (opened at) (bodies at) o.has there (run.keeps (post s 0) (first_post topology s is_producer_role producer_post role)) in
    let own : same_stage s (stage 0) ≡ false = ne_eqb s.0 0 (λ zero. omega (arith, zero, (numbered.within s c.spec c.found).0)) in
    there_at (IsFedRead whole edges before s pace feed) (option_map sources_out (feed_in (bodies at))) (sources_out kept.now) (ap (option_map sources_out) kept.is)
    (feed_read whole topology before s kept.full kept.lost edges pace feed o.seen kept.now run.legal role own kept.in_fetch
    (λ names is. run.ungated c.spec pace names (c.fits ∙ ap (λ f. Some (Fed pace f)) is)) o.gives kept.keeps
    (λ w. calm_at feeds topology s c.spec (Fed pace feed) bodies kept.now c.found (numbered.named s c.spec c.found) c.fits kept.is (run.calm w)))

sinks_used : (feeds : Feeds) (whole : Bool) (topology : Topology) (edges : EdgesSeen) (before : History) (table opened bodies : ℕ → Option BodySeen) → IsRunFrom feeds whole topology edges before table opened bodies
    → (s : StageNo) (name : List ℕ) → supplied_in feeds (spec_of topology s) ≡ Some (Written name) → There (sink_in (bodies (place_at (post s 0)))) (IsSinkWritten topology edges before s name)
sinks_used feeds whole topology edges before table opened bodies run s name e =
    let at = place_at (post s 0) in
    let c = stage_of feeds topology s (Written name) e in
    let numbered = numbered_topology topology run.sound in
    let role = role_at topology s c.spec is_batch_processor_role c.found (sink_role c.spec.role (feeds.pace c.spec) (feeds.origin c.spec) c.spec.edge name c.fits) in
    let some : IsSome (supplied feeds c.spec) = subst (λ (o : Option Supplied). IsSome o) (sym c.fits) refl in
    let both = subst (λ o. Both (IsOpened edges o) (table at) (opened at)) c.fits (opened_stage feeds topology s c.spec edges table opened numbered c.found run.opens) in
    let o = sink_opened edges name (table at) (opened at) (run.home s c.spec c.found some) both in
    let there = run.stay at (some_from (λ b. b.sink ≡ Some o.sink) (opened at) o.has) in
    let kept = sink_kept topology before (post s 0) (is_out before (post s 0)) o.sink (opened at) (bodies at) o.has there (run.keeps (post s 0) (first_post topology s is_batch_processor_role batch_post role)) in
    there_at (IsSinkWritten topology edges before s name) (sink_in (bodies at)) kept.now kept.is
    (sink_written topology before s edges name o.sink kept.now o.gives kept.keeps)

pub used : (feeds : Feeds) (whole : Bool) (topology : Topology) (edges : EdgesSeen) (before : History) (table opened bodies : ℕ → Option BodySeen) → IsRunFrom feeds whole topology edges before table opened bodies → AreUsed feeds whole topology edges before bodies
used feeds whole topology edges before table opened bodies run =
    record { sources = sources_used feeds whole topology edges before table opened bodies run; sinks = sinks_used feeds whole topology edges before table opened bodies run }
