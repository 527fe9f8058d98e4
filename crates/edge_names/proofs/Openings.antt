-- What openings add.
use Rattle.std.proofs.Common.{◌≡◌, Bool, true, false, ℕ, zero, suc, ◌+◌, ◌*◌, ◌≤◌, ◌<◌, List, [], ◌∷◌, ◌++◌, refl, ap, sym, ◌∙◌, subst, inl, inr, arith, length, take, get_or}
use Rattle.std.specs.Prelude.{◌⊎◌, slice_get, ◌==◌, ◌&&◌, nat_le, Option, Some, None, Ok, Err, IsSome, if◌then◌else◌}
use Rattle.std.specs.List.{flat_map}
use Rattle.std.proofs.lemmas.List.{append-nil, append_assoc}
use Rattle.std.proofs.lemmas.Option.{slice_get_read}
use Rattle.std.proofs.lemmas.Bool.{eqb-true, eqb-false, eq-eqb, ne_eqb, le-leb, lt-leb}
use Rattle.std.proofs.lemmas.Bool.Decides.{nat_tests}
pub use Rattle.pipe_laws.proofs.Lists.{take_next}
use Rattle.pipe_laws.proofs.Tests.{same_stage-true}
use Rattle.pipe_types.specs.Numbers.{post}
use Rattle.pipe_types.specs.Stages.{spec_of}
use Rattle.pipe_types.specs.declared.numbers.StageNo.{StageNo}
use Rattle.pipe_types.specs.declared.numbers.Post.{Post}
use Rattle.pipe_types.specs.declared.topology.StageSpec.{StageSpec}
use Rattle.pipe_types.specs.declared.topology.Topology.{Topology}
use Rattle.pipe_edges.specs.Paces.{Pace}
use Rattle.pipe_edges.specs.declared.edges.EdgeKind.{EdgeKind}
use Rattle.pipe_edges.specs.declared.edges.EdgeKind.TheVariants.{File, Source, Sink}
use Rattle.pipe_edges.specs.declared.edges.EdgeEnd.TheVariants.{Failed, OutOfMemory}
use Rattle.stage_bodies.specs.Seen.{SourceSeen, SinkSeen, LineSeen, MergeSeen, FeedSeen, Single, Merged as MergedSeen, sources_in, BodySeen}
use Rattle.stage_bodies.specs.Jobs.{Both}
use Rattle.stage_bodies.specs.Posts.{place_at}
use Rattle.stage_laws.specs.Numbered.{IsNumberedTopology}
use Rattle.edge_names.specs.Seen.{EdgesSeen}
use Rattle.edge_names.specs.Named.{GivesSource, GivesSink, Opens}
use Rattle.edge_names.specs.Gates.{without_gate}
use Rattle.edge_names.specs.Supplies.{Feeds, Feed, Opened, Merged, Made, Supplied, Fed, Written, calls_for, fed, feed_calls, stage_calls, supplied}
use Rattle.edge_names.specs.Opened.{GivesFed, GivesFeed, GivesMerge, Asks, AreHome, AreOpened, AreOpenedAt, AreUnread, HasFeed, HasSource, HasSink, IsOpened, supplied_at, supplied_in, calls_of}

-- ---- calls

pub fed_calls : (pace : Option Pace) (feed : Option Feed) → calls_for (fed pace feed) ≡ feed_calls feed
fed_calls pace (Some feed) = refl
fed_calls pace None = refl

pub asks_nothing : (a : EdgesSeen) → Asks [] a a
asks_nothing a = record {
  same_telling = refl;
  stands = λ t k n. refl;
  asked = λ t. sym (append-nil a.asked);
  sources = refl;
  sinks = refl;
  faults_stay = omega arith;
}

pub asks_more : (xs ys : List (EdgeKind × List ℕ)) (a b c : EdgesSeen) → Asks xs a b → Asks ys b c → Asks (xs ++ ys) a c
asks_more xs ys a b c h k = record {
  same_telling = k.same_telling ∙ h.same_telling;
  stands = λ t kind name. k.stands (rw h.same_telling t) kind name ∙ h.stands t kind name;
  asked = λ t. k.asked (rw h.same_telling t) ∙ ap (λ z. z ++ ys) (h.asked t) ∙ append_assoc a.asked xs ys;
  sources = k.sources ∙ h.sources;
  sinks = k.sinks ∙ h.sinks;
  faults_stay = let p = h.faults_stay in let q = k.faults_stay in omega (arith, p, q);
}

-- a call that was noted
pub asks_call : {T : Type 0} (kind : EdgeKind) (name : List ℕ) (a b : EdgesSeen) (x : T) → Opens {T = T} kind name a b (Ok x) → Asks ((kind, name) ∷ []) a b
asks_call kind name a b x o =
    record { same_telling = o.same_telling; stands = o.stands; asked = o.asked; sources = o.sources; sinks = o.sinks; faults_stay = o.faults_stay }

-- one that found no memory is not noted
pub asks_empty : {T : Type 0} (kind : EdgeKind) (name : List ℕ) (a b : EdgesSeen) → Opens {T = T} kind name a b (Err OutOfMemory) → Asks [] a b
asks_empty kind name a b o = record {
  same_telling = o.same_telling;
  stands = o.stands;
  asked = λ t. o.asked t ∙ sym (append-nil a.asked);
  sources = o.sources;
  sinks = o.sinks;
  faults_stay = o.faults_stay;
}

pub asks_failed : {T : Type 0} (kind : EdgeKind) (name : List ℕ) (a b : EdgesSeen) → Opens {T = T} kind name a b (Err Failed) → Asks ((kind, name) ∷ []) a b
asks_failed kind name a b o =
    record { same_telling = o.same_telling; stands = o.stands; asked = o.asked; sources = o.sources; sinks = o.sinks; faults_stay = o.faults_stay }

-- ---- bodies

same_body : (edges : EdgesSeen) (x : Option BodySeen) → Both (IsOpened edges None) x x
same_body edges (Some b) = record { source = refl; sink = refl; callback = refl }
same_body edges None = tt

-- the source and the sink that were opened later are as if they were opened at once
pub gives_source_from : (calls : List (EdgeKind × List ℕ)) (a b : EdgesSeen) (name : List ℕ) (source : SourceSeen) → Asks calls a b → GivesSource b name source → GivesSource a name source
gives_source_from calls a b name source h g = record {
  nothing_taken = g.nothing_taken;
  no_fault = g.no_fault;
  no_wait = g.no_wait;
  no_pace = g.no_pace;
  given = λ t. let both = g.given (rw h.same_telling t) in (both.0, both.1 ∙ h.stands t Source name);
}

gives_sink_from : (calls : List (EdgeKind × List ℕ)) (a b : EdgesSeen) (name : List ℕ) (sink : SinkSeen) → Asks calls a b → GivesSink b name sink → GivesSink a name sink
gives_sink_from calls a b name sink h g = record {
  no_fault = g.no_fault;
  given = λ t. let both = g.given (rw h.same_telling t) in (both.0, both.1 ∙ h.stands t Sink name);
}

pub has_source_from : (calls : List (EdgeKind × List ℕ)) (a b : EdgesSeen) (call : Option (EdgeKind × List ℕ)) (x y z : Option LineSeen) → Asks calls a b → y ≡ x → HasSource b call y z → HasSource a call x z
has_source_from calls a b None x y z asks e h = h ∙ e
has_source_from calls a b (Some (File, name)) x y z asks e h = h ∙ e
has_source_from calls a b (Some (Sink, name)) x y z asks e h = h ∙ e
has_source_from calls a b (Some (Source, name)) x y None asks e h = h
has_source_from calls a b (Some (Source, name)) x y (Some lines) asks e h =
    record { source = gives_source_from calls a b name lines.source asks h.source; nothing_waits = h.nothing_waits; no_end = h.no_end }

gives_feed_from : (calls : List (EdgeKind × List ℕ)) (a b : EdgesSeen) (feed : Feed) (source : SourceSeen) → Asks calls a b → GivesFeed b feed source → GivesFeed a feed source
gives_feed_from calls a b (Opened name) source asks h = gives_source_from calls a b name source asks h
gives_feed_from calls a b (Merged names) source asks h = h
gives_feed_from calls a b (Made bytes) source asks h = h

both_sources_from : (calls : List (EdgeKind × List ℕ)) (a b : EdgesSeen) (name : Option (List ℕ)) (source : Option SourceSeen) → Asks calls a b → Both (GivesSource b) name source → Both (GivesSource a) name source
both_sources_from calls a b (Some name) (Some source) asks h = gives_source_from calls a b name source asks h
both_sources_from calls a b None None asks h = tt
both_sources_from calls a b (Some name) None asks h = absurd h
both_sources_from calls a b None (Some source) asks h = absurd h

gives_merge_from : (calls : List (EdgeKind × List ℕ)) (a b : EdgesSeen) (names : List (List ℕ)) (merge : MergeSeen) → Asks calls a b → GivesMerge b names merge → GivesMerge a names merge
gives_merge_from calls a b names merge asks h = record {
  some = h.some;
  few = h.few;
  given = λ k. both_sources_from calls a b (slice_get names k) (slice_get (sources_in (MergedSeen merge)) k) asks (h.given k);
  unread = h.unread;
  unpaced = h.unpaced;
}

-- what was opened later and went back unread is as if it was opened at once
pub unread_from : (cs : List (EdgeKind × List ℕ)) (a b : EdgesSeen) (calls : List (EdgeKind × List ℕ)) (back : List (List ℕ × SourceSeen)) → Asks cs a b → AreUnread b calls back → AreUnread a calls back
unread_from cs a b [] [] asks h = tt
unread_from cs a b ((Source, name) ∷ calls) (given ∷ back) asks h = (h.0, gives_source_from cs a b name given.1 asks h.1, unread_from cs a b calls back asks h.2)
unread_from cs a b [] (given ∷ back) asks h = absurd h
unread_from cs a b ((Source, name) ∷ calls) [] asks h = absurd h
unread_from cs a b ((Sink, name) ∷ calls) back asks h = absurd h
unread_from cs a b ((File, name) ∷ calls) back asks h = absurd h

pub has_feed_from : (calls : List (EdgeKind × List ℕ)) (a b : EdgesSeen) (what : Option Supplied) (x y z : Option FeedSeen) → Asks calls a b → y ≡ x → HasFeed b what y z → HasFeed a what x z
has_feed_from calls a b None x y z asks e h = h ∙ e
has_feed_from calls a b (Some (Written name)) x y z asks e h = h ∙ e
has_feed_from calls a b (Some (Fed pace feed)) x y None asks e h = h
has_feed_from calls a b (Some (Fed pace (Merged names))) x y (Some (MergedSeen merge)) asks e h = gives_merge_from calls a b names merge asks h
has_feed_from calls a b (Some (Fed pace (Opened name))) x y (Some (MergedSeen merge)) asks e h = h
has_feed_from calls a b (Some (Fed pace (Made bytes))) x y (Some (MergedSeen merge)) asks e h = h
has_feed_from calls a b (Some (Fed pace feed)) x y (Some (Single lines)) asks e h =
    record { source = gives_feed_from calls a b feed (without_gate lines.source) asks h.source; gate = h.gate; nothing_waits = h.nothing_waits; no_end = h.no_end }

pub has_sink_from : (calls : List (EdgeKind × List ℕ)) (a b : EdgesSeen) (what : Option Supplied) (x y z : Option SinkSeen) → Asks calls a b → y ≡ x → HasSink b what y z → HasSink a what x z
has_sink_from calls a b None x y z asks e h = h ∙ e
has_sink_from calls a b (Some (Fed pace feed)) x y z asks e h = h ∙ e
has_sink_from calls a b (Some (Written name)) x y None asks e h = h
has_sink_from calls a b (Some (Written name)) x y (Some sink) asks e h = gives_sink_from calls a b name sink asks h

-- one body: it had nothing opened yet, or it is as it was
body_more : (calls : List (EdgeKind × List ℕ)) (a b : EdgesSeen) (t : Bool) (c d : Option Supplied) (x y z : Option BodySeen) → Asks calls a b → (t ≡ true → c ≡ None)
    → Both (IsOpened a c) x y → Both (IsOpened b (if t then d else None)) y z → Both (IsOpened a (if t then d else c)) x z
body_more calls a b true c d (Some x) (Some y) (Some z) asks none h k =
    let h' : IsOpened a None x y = subst (λ w. IsOpened a w x y) (none refl) h in
    record {
      source = has_feed_from calls a b d x.source y.source z.source asks h'.source k.source;
      sink = has_sink_from calls a b d x.sink y.sink z.sink asks h'.sink k.sink;
      callback = k.callback ∙ h.callback;
    }
body_more calls a b false c d (Some x) (Some y) (Some z) asks none h k =
    record {
      source = subst (λ w. HasFeed a c x.source w) (sym k.source) h.source;
      sink = subst (λ w. HasSink a c x.sink w) (sym k.sink) h.sink;
      callback = k.callback ∙ h.callback;
    }
body_more calls a b t c d None None None asks none h k = tt
body_more calls a b t c d (Some x) (Some y) None asks none h k = absurd k
body_more calls a b t c d (Some x) None z asks none h k = absurd h
body_more calls a b t c d None (Some y) z asks none h k = absurd h
body_more calls a b t c d None None (Some z) asks none h k = absurd k

-- ---- posts

chosen : (feeds : Feeds) (x y : Bool) (spec : Option StageSpec) → x ≡ true → y ≡ true → (if x && y then supplied_in feeds spec else None) ≡ supplied_in feeds spec
chosen feeds true true spec e h = refl
chosen feeds true false spec e h = cc
chosen feeds false y spec e h = cc

unchosen : (feeds : Feeds) (x y : Bool) (spec : Option StageSpec) → y ≡ false → (if x && y then supplied_in feeds spec else None) ≡ None
unchosen feeds true true spec e = cc
unchosen feeds true false spec e = refl
unchosen feeds false y spec e = refl

unslotted : (feeds : Feeds) (x y : Bool) (spec : Option StageSpec) → x ≡ false → (if x && y then supplied_in feeds spec else None) ≡ None
unslotted feeds true y spec e = cc
unslotted feeds false y spec e = refl

at_most_step : (m n : ℕ) → ¬ (m ≡ n + 1) → nat_le m (n + 1) ≡ nat_le m n
at_most_step m n other = grind (arith, nat_tests)

pub flat_map_next : {A B : Type 0} (f : A → List B) (xs : List A) (x : A) → flat_map f (xs ++ x ∷ []) ≡ flat_map f xs ++ f x
flat_map_next f [] x = append-nil (f x)
flat_map_next f (y ∷ xs) x = ap (λ z. f y ++ z) (flat_map_next f xs x) ∙ sym (append_assoc (f y) (flat_map f xs) (f x))

pub calls_step : (feeds : Feeds) (stages : List StageSpec) (n : ℕ) (spec : StageSpec) → slice_get stages n ≡ Some spec → calls_of feeds (take n stages) ++ stage_calls feeds spec ≡ calls_of feeds (take (n + 1) stages)
calls_step feeds stages n spec here =
    sym (ap (calls_of feeds) (take_next stages n spec here) ∙ flat_map_next (stage_calls feeds) (take n stages) spec)

-- at the place of the next stage there was nothing to open, and its call is its own; elsewhere the call is as it was
call_step : (feeds : Feeds) (topology : Topology) (n : ℕ) (spec : StageSpec) (p : Post) → IsNumberedTopology topology → slice_get topology.stages n ≡ Some spec → p.slot < 16
    → (supplied_at feeds topology (n + 1) p ≡ (if spec.no.0 * 16 + 0 == place_at p then supplied feeds spec else supplied_at feeds topology n p)) × ((spec.no.0 * 16 + 0 == place_at p) ≡ true → supplied_at feeds topology n p ≡ None)
call_step feeds topology n spec p numbered here low = either (spec.no.0 * 16 + 0 == place_at p) refl
  where
    no : spec.no.0 ≡ suc n
    no = numbered.numbers n spec here

    slot_one : (b : Bool) → (p.slot == 0) ≡ b → ¬ (p.stage.0 * 16 + p.slot ≡ spec.no.0 * 16 + 0)
        → (if b && nat_le p.stage.0 (n + 1) then supplied_in feeds (spec_of topology p.stage) else None) ≡ (if b && nat_le p.stage.0 n then supplied_in feeds (spec_of topology p.stage) else None)
    slot_one false e other = refl
    slot_one true e other =
        let slot : p.slot ≡ 0 = eqb-true p.slot 0 e in
        ap (λ (t : Bool). if t then supplied_in feeds (spec_of topology p.stage) else None) (at_most_step p.stage.0 n (λ same. other (omega (arith, same, slot, no))))

    either : (t : Bool) → (spec.no.0 * 16 + 0 == place_at p) ≡ t
        → (supplied_at feeds topology (n + 1) p ≡ (if t then supplied feeds spec else supplied_at feeds topology n p)) × (t ≡ true → supplied_at feeds topology n p ≡ None)
    either true e =
        let same : spec.no.0 * 16 + 0 ≡ p.stage.0 * 16 + p.slot = eqb-true (spec.no.0 * 16 + 0) (place_at p) e in
        let slot : p.slot ≡ 0 = omega (arith, same, low) in
        let stage : p.stage.0 ≡ spec.no.0 = omega (arith, same, low) in
        let is : p.stage ≡ spec.no = same_stage-true p.stage spec.no (eq-eqb p.stage.0 spec.no.0 stage) in
        let found : spec_of topology p.stage ≡ Some spec = rw is (numbered.found n spec here) in
        let zero_slot : (p.slot == 0) ≡ true = eq-eqb p.slot 0 slot in
        let within : nat_le p.stage.0 (n + 1) ≡ true = le-leb p.stage.0 (n + 1) (omega (arith, stage, no)) in
        let beyond : nat_le p.stage.0 n ≡ false = lt-leb p.stage.0 n (omega (arith, stage, no)) in (
          chosen feeds (p.slot == 0) (nat_le p.stage.0 (n + 1)) (spec_of topology p.stage) zero_slot within ∙ ap (supplied_in feeds) found,
          λ _. unchosen feeds (p.slot == 0) (nat_le p.stage.0 n) (spec_of topology p.stage) beyond,
        )
    either false e = (slot_one (p.slot == 0) refl (λ same. eqb-false (spec.no.0 * 16 + 0) (place_at p) e (sym same)), λ h. cc)

-- behind the last stage all are opened
pub opened_all : (feeds : Feeds) (topology : Topology) (n : ℕ) (edges : EdgesSeen) (old new : ℕ → Option BodySeen) → n ≤ length topology.stages → length topology.stages ≤ n
    → AreOpened feeds topology n edges old new → AreOpened feeds topology (length topology.stages) edges old new
opened_all feeds topology n edges old new within past opened =
    let same : n ≡ length topology.stages = omega (arith, within, past) in
    subst (λ (m : ℕ). AreOpened feeds topology m edges old new) same opened

pub opened_start : (feeds : Feeds) (topology : Topology) (edges : EdgesSeen) (old : ℕ → Option BodySeen) → IsNumberedTopology topology → AreOpened feeds topology 0 edges old old
opened_start feeds topology edges old numbered p low =
    subst (λ c. Both (IsOpened edges c) (old (place_at p)) (old (place_at p))) (sym (none (p.slot == 0) p.stage.0 refl (spec_of topology p.stage) refl)) (same_body edges (old (place_at p)))
  where
    none : (b : Bool) (n : ℕ) → p.stage.0 ≡ n → (found : Option StageSpec) → spec_of topology p.stage ≡ found → (if b && nat_le n 0 then supplied_in feeds found else None) ≡ None
    none false n is found e = refl
    none true (suc n) is found e = unchosen feeds true (nat_le (suc n) 0) found (lt-leb (suc n) 0 (omega arith))
    none true zero is None e = refl
    none true zero is (Some spec) e = absurd (let w = numbered.within p.stage spec e in omega (arith, w.0, is))

-- one stage more
pub opened_more : (feeds : Feeds) (topology : Topology) (n : ℕ) (spec : StageSpec) (calls : List (EdgeKind × List ℕ)) (a b : EdgesSeen) (old mid new : ℕ → Option BodySeen) → IsNumberedTopology topology → slice_get topology.stages n ≡ Some spec
    → Asks calls a b → AreOpened feeds topology n a old mid → AreOpenedAt (spec.no.0 * 16 + 0) (supplied feeds spec) b mid new → AreOpened feeds topology (n + 1) a old new
opened_more feeds topology n spec calls a b old mid new numbered here asks h k p low =
    let step = call_step feeds topology n spec p numbered here low in
    subst (λ c. Both (IsOpened a c) (old (place_at p)) (new (place_at p))) (sym step.0)
    (body_more calls a b (spec.no.0 * 16 + 0 == place_at p) (supplied_at feeds topology n p) (supplied feeds spec) (old (place_at p)) (mid (place_at p)) (new (place_at p)) asks step.1 (h p low) (k (place_at p)))

pub asked_more : (feeds : Feeds) (stages : List StageSpec) (n : ℕ) (spec : StageSpec) (a b c : EdgesSeen) → slice_get stages n ≡ Some spec
    → Asks (calls_of feeds (take n stages)) a b → Asks (stage_calls feeds spec) b c → Asks (calls_of feeds (take (n + 1) stages)) a c
asked_more feeds stages n spec a b c here h k =
    subst (λ calls. Asks calls a c) (calls_step feeds stages n spec here) (asks_more (calls_of feeds (take n stages)) (stage_calls feeds spec) a b c h k)

pub opened_turn : (feeds : Feeds) (topology : Topology) (n at : ℕ) (spec : StageSpec) (calls : List (EdgeKind × List ℕ)) (a b : EdgesSeen) (old mid new : ℕ → Option BodySeen) → IsNumberedTopology topology → slice_get topology.stages n ≡ Some spec
    → at ≡ spec.no.0 * 16 + 0 → Asks calls a b → AreOpened feeds topology n a old mid → AreOpenedAt at (supplied feeds spec) b mid new → AreOpened feeds topology (n + 1) a old new
opened_turn feeds topology n at spec calls a b old mid new numbered here is asks h k =
    opened_more feeds topology n spec calls a b old mid new numbered here asks h (subst (λ x. AreOpenedAt x (supplied feeds spec) b mid new) is k)

-- the item at hand of a loop
pub here_at : {A : Type 0} (xs ys : List A) (n : ℕ) (x : A) → ys ≡ xs → n < length ys → x ≡ get_or ys n x → slice_get xs n ≡ Some x
here_at xs ys n x e lt is = subst (λ zs. slice_get zs n ≡ Some x) e (slice_get_read ys (length ys) n x refl lt is)

-- the bodies that were there are there still
still_home : (edges : EdgesSeen) (c : Option Supplied) (x y : Option BodySeen) → Both (IsOpened edges c) x y → IsSome x → IsSome y
still_home edges c (Some x) (Some y) h some = refl
still_home edges c (Some x) None h some = absurd h
still_home edges c None y h some = grind arith

pub some_at : (table : ℕ → Option BodySeen) (at place : ℕ) → at ≡ place → IsSome (table place) → IsSome (table at)
some_at table at place e some = subst (λ x. IsSome (table x)) (sym e) some

pub home_still : (feeds : Feeds) (topology : Topology) (at : ℕ) (what : Option Supplied) (edges : EdgesSeen) (old new : ℕ → Option BodySeen) → AreHome feeds topology old → AreOpenedAt at what edges old new → AreHome feeds topology new
home_still feeds topology at what edges old new home h s spec found some =
    still_home edges (if at == place_at (post s 0) then what else None) (old (place_at (post s 0))) (new (place_at (post s 0))) (h (place_at (post s 0))) (home s spec found some)

-- ---- what a whole opening says of a body

pub opened_stage : (feeds : Feeds) (topology : Topology) (s : StageNo) (spec : StageSpec) (edges : EdgesSeen) (old new : ℕ → Option BodySeen) → IsNumberedTopology topology → spec_of topology s ≡ Some spec
    → AreOpened feeds topology (length topology.stages) edges old new → Both (IsOpened edges (supplied feeds spec)) (old (place_at (post s 0))) (new (place_at (post s 0)))
opened_stage feeds topology s spec edges old new numbered found h =
    let within : nat_le s.0 (length topology.stages) ≡ true = le-leb s.0 (length topology.stages) (numbered.within s spec found).1 in
    subst (λ c. Both (IsOpened edges c) (old (place_at (post s 0))) (new (place_at (post s 0)))) (chosen feeds true (nat_le s.0 (length topology.stages)) (spec_of topology s) refl within ∙ ap (supplied_in feeds) found) (h (post s 0) (omega arith))

-- what was supplied is there
pub given_feed : (edges : EdgesSeen) (pace : Option Pace) (feed : Feed) (old new : Option FeedSeen) → HasFeed edges (Some (Fed pace feed)) old new
    → ((lines : LineSeen) × (new ≡ Some (Single lines)) × GivesFed edges pace feed lines) ⊎ ((names : List (List ℕ)) × (merge : MergeSeen) × (feed ≡ Merged names) × (new ≡ Some (MergedSeen merge)) × GivesMerge edges names merge)
given_feed edges pace feed old (Some (Single lines)) h = inl (lines, refl, h)
given_feed edges pace (Merged names) old (Some (MergedSeen merge)) h = inr (names, merge, refl, refl, h)
given_feed edges pace (Opened name) old (Some (MergedSeen merge)) h = absurd h
given_feed edges pace (Made bytes) old (Some (MergedSeen merge)) h = absurd h
given_feed edges pace feed old None h = absurd h

pub given_sink : (edges : EdgesSeen) (name : List ℕ) (old new : Option SinkSeen) → HasSink edges (Some (Written name)) old new → (sink : SinkSeen) × (new ≡ Some sink) × GivesSink edges name sink
given_sink edges name old (Some sink) h = (sink, refl, h)
given_sink edges name old None h = absurd h

same_as_before : (edges : EdgesSeen) (x y : Option BodySeen) → Both (IsOpened edges None) x y → y ≡ x
same_as_before edges None None h = refl
same_as_before edges (Some x) (Some y) h = ap Some (λ i. record { source = h.source i; sink = h.sink i; callback = h.callback i })
same_as_before edges (Some x) None h = absurd h
same_as_before edges None (Some y) h = absurd h

-- the body of another slot is as it was
pub opened_slot : (feeds : Feeds) (topology : Topology) (n : ℕ) (p : Post) (edges : EdgesSeen) (old new : ℕ → Option BodySeen) → 1 ≤ p.slot → p.slot < 16 → AreOpened feeds topology n edges old new → new (place_at p) ≡ old (place_at p)
opened_slot feeds topology n p edges old new least low h =
    let none : (p.slot == 0) ≡ false = ne_eqb p.slot 0 (λ e. omega (arith, e, least)) in
    same_as_before edges (old (place_at p)) (new (place_at p))
    (subst (λ c. Both (IsOpened edges c) (old (place_at p)) (new (place_at p))) (unslotted feeds (p.slot == 0) (nat_le p.stage.0 n) (spec_of topology p.stage) none) (h p low))
