-- The bodies that a run begins with.
use Rattle.std.proofs.Common.{◌≡◌, ◌≢◌, ℕ, Bool, true, false, List, [], length, refl, ap, sym, ◌∙◌, subst, Option, Some, None, inl, inr}
use Rattle.std.specs.Prelude.{◌&&◌, ◌||◌, ◌==◌, nat_le, ◌⊎◌, is_some, if◌then◌else◌, IsSome, IfSome}
use Rattle.std.proofs.lemmas.Bool.{eqb-true, eq-eqb, le-leb}
use Rattle.pipe_laws.proofs.Tests.{and_left, and_right}
use Rattle.queue_laws.proofs.Sounds.{sound_fields}
use Rattle.pipe_types.specs.declared.numbers.StageNo.{StageNo}
use Rattle.pipe_types.specs.declared.numbers.Post.{Post}
use Rattle.pipe_types.specs.declared.topology.Kind.TheVariants.{Own}
use Rattle.pipe_types.specs.declared.topology.Role.{Role}
use Rattle.pipe_types.specs.declared.topology.Role.TheVariants.{Producer, Processor, Supervisor, Batcher, BatchProcessor}
use Rattle.pipe_types.specs.declared.topology.StageSpec.{StageSpec}
use Rattle.pipe_types.specs.declared.topology.Topology.{Topology}
use Rattle.pipe_types.specs.Numbers.{post}
use Rattle.pipe_types.specs.Sound.{IsSound, has_fields_of, is_producer_in, by_demand, by_partition, is_size, processors}
use Rattle.pipe_types.specs.Stages.{spec_of}
use Rattle.stage_bodies.specs.Seen.{BoxSeen, BodySeen, FeedSeen, Single, Merged as MergedSeen, SinkSeen}
use Rattle.stage_bodies.specs.Jobs.{Both}
use Rattle.stage_bodies.specs.Posts.{place_at}
use Rattle.stage_laws.proofs.Numbering.{numbered_topology}
use Rattle.body_laws.specs.Keeps.{has_slot, has_post, has_post_in}
use Rattle.pipe_edges.specs.Paces.{Pace, PaceSeen}
use Rattle.edge_names.specs.Gates.{ArePaces}
use Rattle.pace_laws.specs.Pacing.{IsNewGate, IsPace, at_start}
use Rattle.body_laws.specs.Ready.{There, IsArmed, IsBodyFor, IsBodyAt, IsNewFeed, IsUnused, IsFilled}
use Rattle.body_laws.proofs.Posts.{few_slots}
use Rattle.edge_names.specs.Seen.{EdgesSeen}
use Rattle.edge_names.specs.Supplies.{Feeds, Feed, Opened, Merged, Made, Supplied, Fed, Written, FeedsProducers, by_name, fed, feed_by, supplied_by, written}
use Rattle.edge_names.specs.Opened.{AreHome, AreOpened, HasFeed, HasSink, IsOpened, supplied_at, supplied_in}
use Rattle.box_stock.specs.Lends.{AreHandedOut, IsBodyBefore, bare_body, body_with}

-- ---- edges

has_edge : (stages : List StageSpec) (s : StageSpec) → is_producer_in stages s ≡ true → is_some s.edge ≡ true
has_edge stages s e =
    let first = and_left ((by_demand s s.dispatch || (by_partition (length (processors stages)) s s.dispatch && nat_le s.field 255)) && (is_size s.size && is_some s.edge)) _ e in
    and_right (is_size s.size) (is_some s.edge) (and_right (by_demand s s.dispatch || (by_partition (length (processors stages)) s s.dispatch && nat_le s.field 255)) _ first)

-- ---- one body

record IsReadyBody (topology : Topology) (s : StageNo) (spec : StageSpec) (role : Role) (body : BodySeen) : Type 0 where
  pub ready : IsBodyFor topology [] s spec role body
  pub unused : IsUnused body

-- a body that holds a box alone, after its stage opened what it opens
record IsWith (spec : StageSpec) (box : BoxSeen) (body : BodySeen) : Type 0 where
  pub callback : body.callback ≡ Some box
  pub source : body.source ≡ None
  pub spec_of_box : box.spec ≡ spec
  pub kind : box.kind ≡ spec.kind
  pub count : box.count ≡ 0

armed_box : (topology : Topology) (s : StageNo) (spec : StageSpec) (box : BoxSeen) → box.spec ≡ spec → box.kind ≡ spec.kind → box.count ≡ 0 → IsArmed topology [] s spec box
armed_box topology s spec box own kind count = record { spec = own; kind = kind; count = λ a b c. count }

with_box : (topology : Topology) (s : StageNo) (spec : StageSpec) (box : BoxSeen) (body : BodySeen) → IsWith spec box body → There body.callback (IsArmed topology [] s spec)
with_box topology s spec box body w = subst (λ o. There o (IsArmed topology [] s spec)) (sym w.callback) (armed_box topology s spec box w.spec_of_box w.kind w.count)

unused_with : (spec : StageSpec) (box : BoxSeen) (body : BodySeen) → IsWith spec box body → IsUnused body
unused_with spec box body w = record {
  source = subst (λ o. IfSome o IsNewFeed) (sym w.source) tt;
  count = subst (λ o. IfSome o (λ (b : BoxSeen). b.kind ≢ Own → b.count ≡ 0)) (sym w.callback) (λ other. w.count);
}

-- what a body holds before anything is opened
record IsBefore (spec : StageSpec) (old : BodySeen) : Type 0 where
  pub box : BoxSeen
  pub is : old ≡ body_with box
  pub own : box.spec ≡ spec
  pub kind : box.kind ≡ spec.kind
  pub count : box.count ≡ 0

before_with : (spec : StageSpec) (o : Option BoxSeen) (old : BodySeen) → There o (λ box. (old ≡ body_with box) × (box.spec ≡ spec) × (box.kind ≡ spec.kind) × (box.count ≡ 0)) → IsBefore spec old
before_with spec None old held = absurd held
before_with spec (Some box) old (is, own, kind, count) = record { box = box; is = is; own = own; kind = kind; count = count }

no_source : (edges : EdgesSeen) (what : Option Supplied) (old new : Option FeedSeen) → (what ≡ None) ⊎ ((name : List ℕ) × (what ≡ Some (Written name))) → HasFeed edges what old new → new ≡ old
no_source edges what old new (inl none) h = subst (λ c. HasFeed edges c old new) none h
no_source edges what old new (inr some) h = subst (λ c. HasFeed edges c old new) some.1 h

-- a body with a box keeps it, where its stage is supplied with no source
still_with : (edges : EdgesSeen) (spec : StageSpec) (what : Option Supplied) (box : BoxSeen) (old new : BodySeen) → (what ≡ None) ⊎ ((name : List ℕ) × (what ≡ Some (Written name)))
    → old ≡ body_with box → box.spec ≡ spec → box.kind ≡ spec.kind → box.count ≡ 0 → IsOpened edges what old new → IsWith spec box new
still_with edges spec what box old new calls is own kind count opened = record {
  callback = opened.callback ∙ ap (λ (b : BodySeen). b.callback) is;
  source = no_source edges what old.source new.source calls opened.source ∙ ap (λ (b : BodySeen). b.source) is;
  spec_of_box = own;
  kind = kind;
  count = count;
}

record IsFreshSource (source : Option FeedSeen) : Type 0 where
  pub some : IsSome source
  pub new : IfSome source IsNewFeed

-- a gate that begins has given nothing
new_gate : (paced : PaceSeen) (pace : Option Pace) → paced ≡ at_start pace → IsPace pace → IsNewGate paced
new_gate paced pace begins some =
    let same : paced.pace ≡ pace = ap (λ (p : PaceSeen). p.pace) begins in
    record { fresh = begins ∙ ap at_start (sym same); some = subst IsPace (sym same) some }

fresh_source : (edges : EdgesSeen) (pace : Option Pace) (feed : Feed) (old new : Option FeedSeen) → IsPace pace → HasFeed edges (Some (Fed pace feed)) old new → IsFreshSource new
fresh_source edges pace feed old (Some (Single lines)) some h = record { some = refl; new = record { waiting = h.nothing_waits; end = h.no_end; gate = new_gate lines.source.paced pace h.gate some } }
fresh_source edges pace (Merged names) old (Some (MergedSeen merge)) some h = record { some = refl; new = record { read = h.unread; unpaced = h.unpaced } }
fresh_source edges pace (Opened name) old (Some (MergedSeen merge)) some h = absurd h
fresh_source edges pace (Made bytes) old (Some (MergedSeen merge)) some h = absurd h
fresh_source edges pace feed old None some h = absurd h

sink_there : (edges : EdgesSeen) (name : List ℕ) (old new : Option SinkSeen) → HasSink edges (Some (Written name)) old new → is_some new ≡ true
sink_there edges name old (Some sink) h = refl
sink_there edges name old None h = absurd h

-- ---- by role

ready_producer : (topology : Topology) (edges : EdgesSeen) (s : StageNo) (spec : StageSpec) (what : Option Supplied) (pace : Option Pace) (feed : Option Feed) (old new : BodySeen)
    → IsPace pace → IsSome feed → what ≡ fed pace feed → old ≡ bare_body → IsOpened edges what old new → IsReadyBody topology s spec Producer new
ready_producer topology edges s spec what pace None old new begins some fits is opened = cc
ready_producer topology edges s spec what pace (Some feed) old new begins some fits is opened =
    let fresh = fresh_source edges pace feed old.source new.source begins (subst (λ c. HasFeed edges c old.source new.source) fits opened.source) in
    let none : new.callback ≡ None = opened.callback ∙ ap (λ (b : BodySeen). b.callback) is in
    record {
      ready = fresh.some;
      unused = record { source = fresh.new; count = subst (λ o. IfSome o (λ (b : BoxSeen). b.kind ≢ Own → b.count ≡ 0)) (sym none) tt };
    }

ready_batch : (topology : Topology) (edges : EdgesSeen) (s : StageNo) (spec : StageSpec) (what : Option Supplied) (edge : Option (List ℕ)) (box : BoxSeen) (old new : BodySeen)
    → spec.edge ≡ edge → what ≡ written edge → old ≡ body_with box → box.spec ≡ spec → box.kind ≡ spec.kind → box.count ≡ 0 → IsOpened edges what old new → IsReadyBody topology s spec BatchProcessor new
ready_batch topology edges s spec what None box old new edge calls is own kind count opened =
    let w = still_with edges spec what box old new (inl calls) is own kind count opened in
    let same : new.sink ≡ old.sink = subst (λ c. HasSink edges c old.sink new.sink) calls opened.sink in
    let none : is_some new.sink ≡ is_some spec.edge = ap is_some (same ∙ ap (λ (b : BodySeen). b.sink) is) ∙ sym (ap is_some edge) in
    record { ready = (with_box topology s spec box new w, none); unused = unused_with spec box new w }
ready_batch topology edges s spec what (Some name) box old new edge calls is own kind count opened =
    let w = still_with edges spec what box old new (inr (name, calls)) is own kind count opened in
    let there : is_some new.sink ≡ true = sink_there edges name old.sink new.sink (subst (λ c. HasSink edges c old.sink new.sink) calls opened.sink) in
    let some : is_some new.sink ≡ is_some spec.edge = there ∙ sym (ap is_some edge) in
    record { ready = (with_box topology s spec box new w, some); unused = unused_with spec box new w }

ready_by : (topology : Topology) (edges : EdgesSeen) (s : StageNo) (spec : StageSpec) (what : Option Supplied) (pace : Option Pace) (feed : Option Feed) (slot : ℕ) (r : Role) (old new : BodySeen)
    → has_slot r spec.max slot ≡ true → IsPace pace → (r ≡ Producer → IsSome feed) → (slot ≡ 0 → what ≡ supplied_by r pace feed spec.edge) → (supplied_by r pace feed spec.edge ≡ None → what ≡ None)
    → IsBodyBefore spec r old → IsOpened edges what old new → IsReadyBody topology s spec r new
ready_by topology edges s spec what pace feed slot Producer old new seat begins feeds first other held opened =
    ready_producer topology edges s spec what pace feed old new begins (feeds refl) (first (eqb-true slot 0 seat)) held opened
ready_by topology edges s spec what pace feed slot Processor old new seat begins feeds first other held opened =
    let box = before_with spec old.callback old held in
    let w = still_with edges spec what box.box old new (inl (other refl)) box.is box.own box.kind box.count opened in
    record { ready = with_box topology s spec box.box new w; unused = unused_with spec box.box new w }
ready_by topology edges s spec what pace feed slot Supervisor old new seat begins feeds first other held opened =
    let box = before_with spec old.callback old held in
    let w = still_with edges spec what box.box old new (inl (other refl)) box.is box.own box.kind box.count opened in
    record { ready = with_box topology s spec box.box new w; unused = unused_with spec box.box new w }
ready_by topology edges s spec what pace feed slot Batcher old new seat begins feeds first other held opened = cc
ready_by topology edges s spec what pace feed slot BatchProcessor old new seat begins feeds first other held opened =
    let box = before_with spec old.callback old held in
    ready_batch topology edges s spec what spec.edge box.box old new refl (first (eqb-true slot 0 seat)) box.is box.own box.kind box.count opened

-- ---- all

supplied_zero : (t u : Bool) (x : Option Supplied) → t ≡ true → u ≡ true → (if t && u then x else None) ≡ x
supplied_zero true true x e h = refl
supplied_zero true false x e h = cc
supplied_zero false u x e h = cc

supplied_none : (t : Bool) (x : Option Supplied) → x ≡ None → (if t then x else None) ≡ None
supplied_none true x none = none
supplied_none false x none = refl

ready_post : (feeds : Feeds) (topology : Topology) (edges : EdgesSeen) (p : Post) (sound : IsSound topology) → FeedsProducers feeds.origin topology → ArePaces feeds.pace → has_post topology p ≡ true → (o : Option StageSpec) → spec_of topology p.stage ≡ o → (x y : Option BodySeen)
    → There x (λ body. There o (λ spec. IsBodyBefore spec spec.role body)) → Both (IsOpened edges (supplied_at feeds topology (length topology.stages) p)) x y
    → There y (λ body. There o (λ spec. IsReadyBody topology p.stage spec spec.role body))
ready_post feeds topology edges p sound feed paces post o is None y held opened = absurd held
ready_post feeds topology edges p sound feed paces post None is (Some old) y held opened = absurd held
ready_post feeds topology edges p sound feed paces post (Some spec) is (Some old) None held opened = absurd opened
ready_post feeds topology edges p sound feed paces post (Some spec) is (Some old) (Some new) held opened =
    let slot : has_slot spec.role spec.max p.slot ≡ true = sym (ap (λ q. has_post_in q p.slot) is) ∙ post in
    let within = ((numbered_topology topology sound).within p.stage spec is).1 in
    let fits : supplied_in feeds (spec_of topology p.stage) ≡ supplied_by spec.role (feeds.pace spec) (feeds.origin spec) spec.edge = ap (supplied_in feeds) is in
    ready_by topology edges p.stage spec (supplied_at feeds topology (length topology.stages) p) (feeds.pace spec) (feeds.origin spec) p.slot spec.role old new slot (paces spec) (feed p.stage spec is)
    (λ first. supplied_zero (p.slot == 0) (nat_le p.stage.0 (length topology.stages)) (supplied_in feeds (spec_of topology p.stage)) (eq-eqb p.slot 0 first) (le-leb p.stage.0 (length topology.stages) within) ∙ fits)
    (λ none. supplied_none (p.slot == 0 && nat_le p.stage.0 (length topology.stages)) (supplied_in feeds (spec_of topology p.stage)) (fits ∙ none))
    held opened

there_map : {A : Type 0} (P Q : A → Type 0) (o : Option A) → ((x : A) → P x → Q x) → There o P → There o Q
there_map P Q (Some x) f h = f x h
there_map P Q None f h = h

if_there : (o : Option BodySeen) (spec : Option StageSpec) (topology : Topology) (s : StageNo) → There o (λ body. There spec (λ sp. IsReadyBody topology s sp sp.role body)) → IfSome o IsUnused
if_there None spec topology s h = absurd h
if_there (Some body) None topology s h = absurd h
if_there (Some body) (Some sp) topology s h = h.unused

-- a table that was handed out is filled once everything is opened
pub filled : (feeds : Feeds) (topology : Topology) (edges : EdgesSeen) (table now : ℕ → Option BodySeen) → IsSound topology → FeedsProducers feeds.origin topology → ArePaces feeds.pace → AreHandedOut topology table
    → AreOpened feeds topology (length topology.stages) edges table now → IsFilled topology now
filled feeds topology edges table now sound feed paces handed opened =
    let all = λ (p : Post) (post : has_post topology p ≡ true).
    ready_post feeds topology edges p sound feed paces post (spec_of topology p.stage) refl (table (place_at p)) (now (place_at p)) (handed.posts p post) (opened p (few_slots topology p sound post)) in
    record {
      ready = λ p post out.
          there_map (λ body. There (spec_of topology p.stage) (λ spec. IsReadyBody topology p.stage spec spec.role body)) (IsBodyAt topology [] p) (now (place_at p))
          (λ body h. there_map (λ spec. IsReadyBody topology p.stage spec spec.role body) (λ spec. IsBodyFor topology [] p.stage spec spec.role body) (spec_of topology p.stage) (λ spec r. r.ready) h)
          (all p post);
      unused = λ p post. if_there (now (place_at p)) (spec_of topology p.stage) topology p.stage (all p post);
    }

-- ---- sources by name

-- a sound topology names the source of each producer
name_by : (splits : Bool) (topology : Topology) (spec : StageSpec) (r : Role) → has_fields_of topology.stages r spec ≡ true → r ≡ Producer → (edge : Option (List ℕ)) → spec.edge ≡ edge → IsSome (feed_by splits edge)
name_by splits topology spec Producer fields is (Some name) e = refl
name_by splits topology spec Producer fields is None e = absurd (let some : is_some spec.edge ≡ true = has_edge topology.stages spec fields in let none : is_some spec.edge ≡ false = ap is_some e in cc)
name_by splits topology spec Processor fields is edge e = cc
name_by splits topology spec Supervisor fields is edge e = cc
name_by splits topology spec Batcher fields is edge e = cc
name_by splits topology spec BatchProcessor fields is edge e = cc

pub names_feed : (splits : Bool) (topology : Topology) → IsSound topology → FeedsProducers (by_name splits) topology
names_feed splits topology sound s spec found is = name_by splits topology spec spec.role (sound_fields topology s spec sound found) is spec.edge refl

-- ---- what opens finds its body

supplied_post : (r : Role) (max : ℕ) (pace : Option Pace) (feed : Option Feed) (edge : Option (List ℕ)) → IsSome (supplied_by r pace feed edge) → has_slot r max 0 ≡ true
supplied_post Producer max pace feed edge some = refl
supplied_post Processor max pace feed edge some = cc
supplied_post Supervisor max pace feed edge some = cc
supplied_post Batcher max pace feed edge some = cc
supplied_post BatchProcessor max pace feed edge some = refl

is_there : {A : Type 0} (P : A → Type 0) (o : Option A) → There o P → IsSome o
is_there P (Some x) h = refl
is_there P None h = absurd h

-- every stage that is supplied with something has its body in a table that was handed out
pub homes : (feeds : Feeds) (topology : Topology) (table : ℕ → Option BodySeen) → AreHandedOut topology table → AreHome feeds topology table
homes feeds topology table handed s spec is some =
    let post_there : has_post topology (post s 0) ≡ true = ap (λ o. has_post_in o 0) is ∙ supplied_post spec.role spec.max (feeds.pace spec) (feeds.origin spec) spec.edge some in
    is_there (λ body. There (spec_of topology s) (λ sp. IsBodyBefore sp sp.role body)) (table (place_at (post s 0))) (handed.posts (post s 0) post_there)
