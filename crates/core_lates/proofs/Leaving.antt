-- Steps that bring a post home, and leave what waits, what is gathered and what runs.
use Rattle.std.proofs.Common.{◌≡◌, ℕ, suc, ◌<◌, ◌≤◌, List, ◌∷◌, map, length, Bool, true, false, refl, ap, sym, ◌∙◌, subst, Some, None, Option, arith}
use Rattle.std.specs.Prelude.{slice_get, if◌then◌else◌, is_some}
use Rattle.std.specs.declared.alloc.Global.{Global}
use Rattle.std.specs.declared.vec.Vec.{Vec}
use Rattle.pipe_types.specs.declared.numbers.StageNo.{StageNo}
use Rattle.pipe_types.specs.declared.topology.Topology.{Topology}
use Rattle.pipe_types.specs.declared.message.Place.{Place}
use Rattle.pipe_types.specs.declared.step.Step.{Step}
use Rattle.pipe_types.specs.Sound.{IsSound}
use Rattle.pipe_types.specs.Stages.{spec_of}
use Rattle.pipe_model.specs.History.{History, accepted, closed}
use Rattle.pipe_model.specs.Content.{content, gathers, producer_of}
use Rattle.pipe_model.specs.Flow.{place, batch, waiting, inbox, first_in, is_gathered_in}
use Rattle.pipe_model.specs.Legal.{is_legal, gathered_at, restart_times}
use Rattle.pipe_model.specs.Moves.{is_final}
use Rattle.pipe_model.specs.Places.{settled_at}
use Rattle.pipe_model.specs.Standing.{gathered_in}
use Rattle.pipe_model.specs.Taken.{closed_as}
use Rattle.pipe_laws.proofs.Accepted.{placed_accepted}
use Rattle.pipe_laws.proofs.Lists.{each_weaker, each_filter, each_always}
use Rattle.queue_laws.proofs.Sounds.{fits}
use Rattle.stage_laws.proofs.Bounds.{waiting_within}
use Rattle.stage_subs.specs.Ledger.{ledger_row}
use Rattle.restart_core.specs.Restarts.{Remembers}
use Rattle.pipe_journal.specs.Recorded.{Recorded}
use Rattle.core_tables.specs.declared.rows.StageRow.{StageRow}
use Rattle.core_tables.specs.declared.rows.PostRow.{PostRow}
use Rattle.core_tables.specs.declared.rows.ContentRow.{ContentRow}
use Rattle.core_tables.specs.declared.rows.Totals.{Totals}
use Rattle.core_tables.specs.Rows.{post_at}
use Rattle.core_laws.specs.Columns.{running, stage_row, post_row, came, part_of, waiting_parts, open_batches, child_row, mark, content_row, closed_numbers, sent_on, ends_in_progress}
use Rattle.core_laws.proofs.Accepting.{closed_low}
use Rattle.core_laws.proofs.Alike.{SameContent, SamePart, part_same, mapped_same, opens_same}
use Rattle.core_laws.proofs.Marks.{mark_is, open_unsettled}
use Rattle.core_state.specs.declared.state.Core.{Core}
use Rattle.core_state.specs.Stands.{Fields, totals_of}
use Rattle.core_state.proofs.Parts.{Part, BatchesAre, BatchesLen, CameAre, ChildrenAre, ChunksAre, ContentsAre, ContentsLen, InboxesAre, LegsAre, OpensAre, PlacesAre, PlacesLen, PostsAre, PostsLen, ProducersAre, ProducersLen, RestartsAre, SentOnAre, SettledAre, SettledLen, StagesAre, StagesLen, SubsAre, TotalsAre, WaitingAre, Says, unchanged, fields_of}

-- what such a step leaves
pub record Leaves (topology : Topology) (before : History) (step : Step) : Type 0 where
  pub came-is : (t : StageNo) (slot : ℕ) → came topology (step ∷ before) t slot ≡ came topology before t slot
  pub pairs : (c p : StageNo) → ledger_row topology (step ∷ before) c p ≡ ledger_row topology before c p
  pub waits : (t : StageNo) → waiting topology (step ∷ before) t ≡ waiting topology before t
  pub sent : (t : StageNo) → inbox topology (step ∷ before) t ≡ inbox topology before t
  pub runs : (t : StageNo) → running topology (step ∷ before) t ≡ running topology before t
  pub gathers-are : (t : StageNo) → gathered_in topology (step ∷ before) t ≡ gathered_in topology before t
  pub times : (n : ℕ) → gathered_at (step ∷ before) n ≡ gathered_at before n
  pub children : (t : StageNo) (slot : ℕ) → child_row topology (step ∷ before) t slot ≡ child_row topology before t slot
  pub contents : (n : ℕ) → n ≤ accepted before → content (step ∷ before) n ≡ content before n
  pub batches : (b : ℕ) → batch topology (step ∷ before) b ≡ batch topology before b
  pub closes : (b : ℕ) → closed_as topology (step ∷ before) b ≡ closed_as topology before b
  pub subs : (b : ℕ) → sent_on topology (step ∷ before) b ≡ sent_on topology before b
  pub count : closed (step ∷ before) ≡ closed before
  pub restarts : (l : ℕ) → restart_times topology (step ∷ before) l ≡ restart_times topology before l

-- Partitions and open batches

part_left : (topology : Topology) (before : History) (step : Step) (n : ℕ) → Leaves topology before step → n ≤ accepted before → SamePart topology before (step ∷ before) n
part_left topology before step n x low =
    record {
      content = x.contents n low;
      numbers = ap closed_numbers (x.closes n);
      first = x.contents (first_in (closed_numbers (closed_as topology before n))) (closed_low topology before n);
    }

-- what waited has the partitions that it had
parts_left : (topology : Topology) (before : History) (step : Step) (t : StageNo) → IsSound topology → is_legal topology before ≡ true → Leaves topology before step
    → map (λ n. (part_of topology (step ∷ before) (spec_of topology t) n, n)) (waiting topology before t) ≡ waiting_parts topology before t
parts_left topology before step t sound legal x =
    mapped_same (λ n. (part_of topology (step ∷ before) (spec_of topology t) n, n)) (λ n. (part_of topology before (spec_of topology t) n, n)) (waiting topology before t)
    (each_weaker (λ n. (1 ≤ n) × (n ≤ accepted before)) _ (λ n low. ap (λ k. (k, n)) (part_same topology before (step ∷ before) (spec_of topology t) n (part_left topology before step n x low.1)))
    (waiting topology before t) (waiting_within topology before t (fits topology sound) legal))

gathered_some : (t : StageNo) (o : Option Place) → is_gathered_in t o ≡ true → is_some o ≡ true
gathered_some t None h = cc
gathered_some t (Some p) h = refl

-- no gathered message has another content
opens_left : (topology : Topology) (before : History) (step : Step) (t : StageNo) → Leaves topology before step
    → open_batches (step ∷ before) (gathered_in topology before t) ≡ open_batches before (gathered_in topology before t)
opens_left topology before step t x =
    opens_same before (step ∷ before) (gathered_in topology before t)
    (each_weaker _ (SameContent before (step ∷ before))
    (λ n (is : Unit {0} × (is_gathered_in t (place topology before n) ≡ true)). x.contents n (placed_accepted topology before n (gathered_some t (place topology before n) is.1)).1)
    (gathered_in topology before t)
    (each_filter (λ n. Unit {0}) (λ n. is_gathered_in t (place topology before n)) (gathers before t) (each_always (λ n. Unit {0}) (λ n. tt) (gathers before t))))
    x.times

-- Posts

-- Marks

-- a message whose place stays keeps its mark
pub mark_left : (topology : Topology) (before : History) (step : Step) (n : ℕ) → place topology (step ∷ before) n ≡ place topology before n → mark topology (step ∷ before) n ≡ mark topology before n
mark_left topology before step n same = mark_is topology (step ∷ before) n ∙ (by (is_final (place topology before n)) refl ∙ sym (mark_is topology before n))
  where
    by : (b : Bool) → is_final (place topology before n) ≡ b
        → (if b then settled_at topology before n else (if is_final (place topology (step ∷ before) n) then length before else 0)) ≡ settled_at topology before n
    by true final = refl
    by false open_yet = ap (λ t. if t then length before else 0) (ap is_final same ∙ open_yet) ∙ sym (open_unsettled topology before n open_yet)

-- The fields

-- the tables that such a step may change, as they are after it
pub record Changed (core : Core) (topology : Topology) (after : History) (rows : Vec StageRow Global) (posts : Vec PostRow Global)
    (places : Vec Place Global) (settled : Vec ℕ Global) (producers : Vec StageNo Global) (contents : Vec ContentRow Global) (totals : Totals) : Type 0 where
  pub rows-are : (t : StageNo) → t.0 ≤ length topology.stages → slice_get rows.items t.0 ≡ Some (stage_row topology after t)
  pub rows-len : length rows.items ≡ length core.stages.items
  pub posts-are : (t : StageNo) (k : ℕ) → t.0 ≤ length topology.stages → k < 16 → slice_get posts.items (post_at t.0 k) ≡ Some (post_row after t k)
  pub posts-len : length posts.items ≡ length core.posts.items
  pub places-are : (i : ℕ) → slice_get places.items i ≡ place topology after (suc i)
  pub places-len : length places.items ≡ accepted after
  pub marks-are : (i : ℕ) → i < accepted after → slice_get settled.items i ≡ Some (mark topology after (suc i))
  pub marks-len : length settled.items ≡ accepted after
  pub producers-are : (i : ℕ) → slice_get producers.items i ≡ producer_of after (suc i)
  pub producers-len : length producers.items ≡ accepted after
  pub contents-are : (i : ℕ) → slice_get contents.items i ≡ content_row after (suc i)
  pub contents-len : length contents.items ≡ accepted after
  pub totals-are : totals ≡ totals_of topology after

pub left_fields : (core : Core) (topology : Topology) (before : History) (step : Step) (j : Recorded) (rows : Vec StageRow Global) (posts : Vec PostRow Global)
    (places : Vec Place Global) (settled : Vec ℕ Global) (producers : Vec StageNo Global) (contents : Vec ContentRow Global) (totals : Totals)
    → Fields core topology before → IsSound topology → is_legal topology before ≡ true → Leaves topology before step
    → Changed core topology (step ∷ before) rows posts places settled producers contents totals
    → Fields (record core { journal = j; stages = rows; posts = posts; places = places; settled = settled; producers = producers; contents = contents; totals = totals }) topology (step ∷ before)
left_fields core topology before step j rows posts places settled producers contents totals x sound legal left new = fields_of says
  where
    says : (it : Part) → Says it (record core { journal = j; stages = rows; posts = posts; places = places; settled = settled; producers = producers; contents = contents; totals = totals }) topology (step ∷ before)
    says StagesLen = new.rows-len ∙ x.sized.stages
    says PostsLen = new.posts-len ∙ x.sized.posts
    says PlacesLen = new.places-len
    says SettledLen = new.marks-len
    says ProducersLen = new.producers-len
    says ContentsLen = new.contents-len
    says BatchesLen = x.sized.batches ∙ sym left.count
    says StagesAre = new.rows-are
    says PostsAre = new.posts-are
    says CameAre = λ t slot within low. x.came t slot within low ∙ ap Some (sym (left.came-is t slot))
    says SubsAre = λ c p fed. x.subs c p fed ∙ ap Some (sym (left.pairs c p))
    says WaitingAre = λ t. x.waiting t ∙ (sym (parts_left topology before step t sound legal left) ∙ sym (ap (map (λ n. (part_of topology (step ∷ before) (spec_of topology t) n, n))) (left.waits t)))
    says InboxesAre = λ t. x.inboxes t ∙ sym (left.sent t)
    says ChunksAre = λ t. x.chunks t ∙ sym (left.runs t)
    says OpensAre = λ t. x.opens t ∙ (sym (opens_left topology before step t left) ∙ sym (ap (open_batches (step ∷ before)) (left.gathers-are t)))
    says ChildrenAre = λ t slot. x.children t slot ∙ sym (left.children t slot)
    says PlacesAre = new.places-are
    says SettledAre = new.marks-are
    says ProducersAre = new.producers-are
    says ContentsAre = new.contents-are
    says BatchesAre = λ i. x.batches i ∙ sym (left.closes (suc i))
    says SentOnAre = λ i row at. x.sent_on i row at ∙ sym (left.subs (suc i))
    says LegsAre = λ i. x.legs i ∙ ap ends_in_progress (sym (left.batches (suc i)))
    says RestartsAre = λ l limit at. subst (λ (times : List ℕ). Remembers limit times) (sym (left.restarts l)) (x.restarts l limit at)
    says TotalsAre = new.totals-are
    says it = unchanged x it

-- Where each message stays where it stood

-- what such a step leaves of the messages
pub record Stays (topology : Topology) (before : History) (step : Step) : Type 0 where
  pub places : (n : ℕ) → place topology (step ∷ before) n ≡ place topology before n
  pub producers : (n : ℕ) → producer_of (step ∷ before) n ≡ producer_of before n
  pub contents : (n : ℕ) → content_row (step ∷ before) n ≡ content_row before n
  pub count : accepted (step ∷ before) ≡ accepted before
  pub totals : totals_of topology (step ∷ before) ≡ record (totals_of topology before) { quiet = 0 }

pub stays_changed : (core : Core) (topology : Topology) (before : History) (step : Step) (rows : Vec StageRow Global) (posts : Vec PostRow Global)
    → Fields core topology before → Stays topology before step
    → ((t : StageNo) → t.0 ≤ length topology.stages → slice_get rows.items t.0 ≡ Some (stage_row topology (step ∷ before) t)) → length rows.items ≡ length core.stages.items
    → ((t : StageNo) (k : ℕ) → t.0 ≤ length topology.stages → k < 16 → slice_get posts.items (post_at t.0 k) ≡ Some (post_row (step ∷ before) t k)) → length posts.items ≡ length core.posts.items
    → Changed core topology (step ∷ before) rows posts core.places core.settled core.producers core.contents (record core.totals { quiet = 0 })
stays_changed core topology before step rows posts x stays rows-are rows-len posts-are posts-len =
    record {
      rows-are = rows-are;
      rows-len = rows-len;
      posts-are = posts-are;
      posts-len = posts-len;
      places-are = λ i. x.places i ∙ sym (stays.places (suc i));
      places-len = x.sized.places ∙ sym stays.count;
      marks-are = λ i below. x.settled i (omega (arith, below, stays.count)) ∙ ap Some (sym (mark_left topology before step (suc i) (stays.places (suc i))));
      marks-len = x.sized.settled ∙ sym stays.count;
      producers-are = λ i. x.producers i ∙ sym (stays.producers (suc i));
      producers-len = x.sized.producers ∙ sym stays.count;
      contents-are = λ i. x.contents i ∙ sym (stays.contents (suc i));
      contents-len = x.sized.contents ∙ sym stays.count;
      totals-are = ap (λ (y : Totals). record y { quiet = 0 }) x.totals ∙ sym stays.totals;
    }
