-- The messages of the batches that a batcher's dispatch serves alone.
use Rattle.std.proofs.Common.{◌≡◌, ℕ, suc, ◌+◌, ◌-◌, ◌<◌, ◌≤◌, set, get_or, drop, List, [], ◌∷◌, length, Bool, true, false, refl, ap, sym, ◌∙◌, Some, None, Option}
use Rattle.std.specs.Prelude.{slice_get, if◌then◌else◌, ◌||◌, ◌==◌, option_map}
use Rattle.std.proofs.lemmas.Bool.{eqb-true, eq-eqb, false_from_ne_true}
use Rattle.pipe_types.specs.declared.numbers.StageNo.{StageNo}
use Rattle.pipe_types.specs.declared.topology.Topology.{Topology}
use Rattle.pipe_types.specs.declared.message.Place.{Place}
use Rattle.pipe_types.specs.declared.message.Place.TheVariants.{Waiting, Inbox, Running, Gathered, InBatch, Acked, Lost}
use Rattle.pipe_types.specs.declared.message.Outcome.TheVariants.{Successful}
use Rattle.pipe_types.specs.declared.step.Step.TheVariants.{Dispatch}
use Rattle.pipe_types.specs.declared.room.Sent.{Sent as SentUnit}
use Rattle.pipe_types.specs.Numbers.{batch_no}
use Rattle.pipe_laws.proofs.Lists.{Each, each_among}
use Rattle.pipe_laws.proofs.Tests.{clash}
use Rattle.pipe_model.specs.Batches.{Batch, BatchPlace, AtBatcher, Sent, Dropped}
use Rattle.pipe_model.specs.History.{History}
use Rattle.pipe_model.specs.Legal.{is_legal}
use Rattle.pipe_model.specs.Flow.{place, batch, alone, dispatched, waiting_after, subs_of, among, waits_in, batch_waits_in, at_batcher, numbers_in}
use Rattle.pipe_model.specs.Moves.{is_final}
use Rattle.pipe_model.specs.Standing.{going}
use Rattle.queue_laws.proofs.Alone.{IsAlone, alone_each}
use Rattle.queue_laws.proofs.Batched.{BatchHolds, batch_holds}
use Rattle.stage_laws.proofs.Settling.{in_numbers}
use Rattle.core_tables.proofs.Running.{listed_step}
use Rattle.core_sends.specs.Losing.{marked}
use Rattle.core_sends.specs.Batches.{succeeded, all_succeeded, all_marked}
use Rattle.core_laws.specs.Columns.{mark}
use Rattle.core_laws.proofs.Marks.{mark_is, open_unsettled}

-- What a pass over these batches makes of a message

-- the message is in one of these batches
abbrev pub is_in : (numbers : ℕ → List ℕ) → (bs : List ℕ) → ℕ → Bool
is_in numbers [] n = false
is_in numbers (b ∷ bs) n = among (numbers b) n || is_in numbers bs n

pub succeeded_is : (numbers : ℕ → List ℕ) (bs : List ℕ) (n : ℕ) (p : Place) → all_succeeded numbers bs n p ≡ (if is_in numbers bs n then Acked Successful else p)
succeeded_is numbers [] n p = refl
succeeded_is numbers (b ∷ bs) n p = succeeded_is numbers bs n (succeeded (numbers b) n p) ∙ either (among (numbers b) n) (is_in numbers bs n)
  where
    either : (x y : Bool) → (if y then Acked Successful else (if x then Acked Successful else p)) ≡ (if x || y then Acked Successful else p)
    either true true = refl
    either true false = refl
    either false true = refl
    either false false = refl

pub marked_is : (numbers : ℕ → List ℕ) (bs : List ℕ) (mark n old : ℕ) → all_marked numbers bs mark n old ≡ (if is_in numbers bs n then mark else old)
marked_is numbers [] mark n old = refl
marked_is numbers (b ∷ bs) mark n old = marked_is numbers bs mark n (marked (numbers b) mark n old) ∙ either (among (numbers b) n) (is_in numbers bs n)
  where
    either : (x y : Bool) → (if y then mark else (if x then mark else old)) ≡ (if x || y then mark else old)
    either true true = refl
    either true false = refl
    either false true = refl
    either false false = refl

-- Where the messages are

abbrev pub numbers_by : Topology → History → ℕ → List ℕ
numbers_by topology before b = numbers_in (batch topology before b)

-- a batch that waits has its messages in it
pub waits_inside : (topology : Topology) (before : History) (s : StageNo) (b n : ℕ) (o : Option Batch) → batch_waits_in s o ≡ true → BatchHolds topology before b o → among (numbers_in o) n ≡ true → place topology before n ≡ Some (InBatch (batch_no b))
waits_inside topology before s b n None w h m = cc
waits_inside topology before s b n (Some x) w h m = each_among (λ k. place topology before k ≡ Some (InBatch (batch_no b))) x.numbers n (h (by x.place w)).each m
  where
    by : (p : BatchPlace) → at_batcher s p ≡ true → going p ≡ true
    by (AtBatcher t) k = refl
    by (Sent legs) k = cc
    by (Dropped loss) k = cc

-- a message in one of the batches alone stands in one
in_one : (topology : Topology) (before : History) (s : StageNo) (bs : List ℕ) (n : ℕ) → is_legal topology before ≡ true → Each (IsAlone topology before s) bs → is_in (numbers_by topology before) bs n ≡ true
    → (b : ℕ) × (among bs b ≡ true) × (place topology before n ≡ Some (InBatch (batch_no b)))
in_one topology before s [] n h each m = cc
in_one topology before s (b ∷ bs) n h each m = either (among (numbers_by topology before b) n) refl m (in_one topology before s bs n h each.1)
  where
    either : (x : Bool) → among (numbers_by topology before b) n ≡ x → (x || is_in (numbers_by topology before) bs n) ≡ true
        → (is_in (numbers_by topology before) bs n ≡ true → (c : ℕ) × (among bs c ≡ true) × (place topology before n ≡ Some (InBatch (batch_no c))))
        → (c : ℕ) × (among (b ∷ bs) c ≡ true) × (place topology before n ≡ Some (InBatch (batch_no c)))
    either true e k rest =
        (b, ap (λ c. c || among bs b) (eq-eqb b b refl), waits_inside topology before s b n (batch topology before b) each.0.waits (batch_holds topology before b h) e)
    either false e k rest = let r = rest k in (r.0, or_right (b == r.0) (among bs r.0) r.1, r.2)
      where
        or_right : (x y : Bool) → y ≡ true → (x || y) ≡ true
        or_right true y g = refl
        or_right false y g = g

-- and one that stands in one of them is in it
stands_in : (topology : Topology) (before : History) (bs : List ℕ) (n b : ℕ) → place topology before n ≡ Some (InBatch (batch_no b)) → among bs b ≡ true → is_in (numbers_by topology before) bs n ≡ true
stands_in topology before [] n b e m = cc
stands_in topology before (c ∷ bs) n b e m = either (c == b) refl m (stands_in topology before bs n b e)
  where
    either : (x : Bool) → (c == b) ≡ x → (x || among bs b) ≡ true → (among bs b ≡ true → is_in (numbers_by topology before) bs n ≡ true) → (among (numbers_by topology before c) n || is_in (numbers_by topology before) bs n) ≡ true
    either true same k rest =
        ap (λ y. y || is_in (numbers_by topology before) bs n) (ap (λ d. among (numbers_by topology before d) n) (eqb-true c b same) ∙ in_numbers topology before n (batch_no b) e)
    either false other k rest = or_right (among (numbers_by topology before c) n) _ (rest k)
      where
        or_right : (x y : Bool) → y ≡ true → (x || y) ≡ true
        or_right true y g = refl
        or_right false y g = g

-- What the dispatch of a batcher makes of a place

abbrev pub lone_in : (bs : List ℕ) → Place → Place
lone_in bs (InBatch b) = if among bs b.0 then Acked Successful else InBatch b
lone_in bs p = p

-- it moves no message but those of the batches alone
pub still : (units : List SentUnit) (over lone : List ℕ) (s : StageNo) (n : ℕ) (o : Option Place) → waits_in s o ≡ false → option_map (dispatched units over lone s n) o ≡ option_map (lone_in lone) o
still units over lone s n (Some (Waiting t)) h = ap (λ b. Some (if b then waiting_after (subs_of units n) (among over n) s else Waiting t)) h
still units over lone s n _ h = refl

-- the passes over the batches alone are just that
pub lone_places : (topology : Topology) (before : History) (s : StageNo) (bs : List ℕ) (n : ℕ) → is_legal topology before ≡ true → Each (IsAlone topology before s) bs
    → option_map (all_succeeded (numbers_by topology before) bs n) (place topology before n) ≡ option_map (lone_in bs) (place topology before n)
lone_places topology before s bs n h each = by (place topology before n) refl
  where
    hit : Bool
    hit = is_in (numbers_by topology before) bs n

    none : (p : Place) → place topology before n ≡ Some p → ((b : ℕ) → among bs b ≡ true → p ≡ InBatch (batch_no b) → ⊥) → Some (all_succeeded (numbers_by topology before) bs n p) ≡ Some p
    none p e other =
        let no : is_in (numbers_by topology before) bs n ≡ false =
        false_from_ne_true (is_in (numbers_by topology before) bs n) (λ k. let r = in_one topology before s bs n h each k in other r.0 r.1 (let same : Some p ≡ Some (InBatch (batch_no r.0)) = sym e ∙ r.2 in cc)) in
        ap Some (succeeded_is (numbers_by topology before) bs n p ∙ ap (λ c. if c then Acked Successful else p) no)

    by : (o : Option Place) → place topology before n ≡ o → option_map (all_succeeded (numbers_by topology before) bs n) o ≡ option_map (lone_in bs) o
    by None e = refl
    by (Some (Waiting t)) e = none (Waiting t) e (λ b m k. cc)
    by (Some (Inbox u)) e = none (Inbox u) e (λ b m k. cc)
    by (Some (Running t)) e = none (Running t) e (λ b m k. cc)
    by (Some (Gathered t)) e = none (Gathered t) e (λ b m k. cc)
    by (Some (Acked o)) e = none (Acked o) e (λ b m k. cc)
    by (Some (Lost l)) e = none (Lost l) e (λ b m k. cc)
    by (Some (InBatch d)) e = either (among bs d.0) refl
      where
        either : (c : Bool) → among bs d.0 ≡ c → Some (all_succeeded (numbers_by topology before) bs n (InBatch d)) ≡ Some (if c then Acked Successful else InBatch d)
        either true m =
            ap Some (succeeded_is (numbers_by topology before) bs n (InBatch d) ∙ ap (λ c. if c then Acked Successful else InBatch d) (stands_in topology before bs n d.0 e m))
        either false m = none (InBatch d) e (λ b k same. clash (among bs d.0) (ap (among bs) (let is : d ≡ batch_no b = cc in ap (λ x. x.0) is) ∙ k) m)

-- the mark that the passes leave is the mark after the dispatch
pub lone_marks : (topology : Topology) (before : History) (s : StageNo) (n : ℕ) → is_legal topology before ≡ true
    → place topology (Dispatch s ∷ before) n ≡ option_map (lone_in (alone topology before s)) (place topology before n)
    → all_marked (numbers_by topology before) (alone topology before s) (length before) n (mark topology before n) ≡ mark topology (Dispatch s ∷ before) n
lone_marks topology before s n h now =
    marked_is (numbers_by topology before) (alone topology before s) (length before) n (mark topology before n) ∙ either (is_in (numbers_by topology before) (alone topology before s) n) refl
  where
    bs : List ℕ
    bs = alone topology before s

    each : Each (IsAlone topology before s) (alone topology before s)
    each = alone_each topology before s

    same : option_map (all_succeeded (numbers_by topology before) (alone topology before s) n) (place topology before n) ≡ place topology (Dispatch s ∷ before) n
    same = lone_places topology before s (alone topology before s) n h (alone_each topology before s) ∙ sym now

    put : (f g : Bool) → is_final (place topology before n) ≡ f → is_final (place topology (Dispatch s ∷ before) n) ≡ g → (x : ℕ) → x ≡ (if f then mark topology before n else (if g then length before else 0)) → x ≡ mark topology (Dispatch s ∷ before) n
    put f g e k x is =
        is
        ∙ (sym (ap (λ c. if c then mark topology before n else (if g then length before else 0)) e)
        ∙ sym (ap (λ c. if is_final (place topology before n) then mark topology before n else (if c then length before else 0)) k))

    either : (c : Bool) → is_in (numbers_by topology before) (alone topology before s) n ≡ c → (if c then length before else mark topology before n) ≡ mark topology (Dispatch s ∷ before) n
    either true m =
        let r = in_one topology before s (alone topology before s) n h (alone_each topology before s) m in
        let after : place topology (Dispatch s ∷ before) n ≡ Some (Acked Successful) =
        now ∙ (ap (option_map (lone_in (alone topology before s))) r.2 ∙ ap (λ c. Some (if c then Acked Successful else InBatch (batch_no r.0))) r.1) in
        put false true (ap is_final r.2) (ap is_final after) (length before) refl
    either false m = split (is_final (place topology before n)) refl
      where
        stays : place topology (Dispatch s ∷ before) n ≡ place topology before n
        stays = sym same ∙ by (place topology before n)
          where
            by : (o : Option Place) → option_map (all_succeeded (numbers_by topology before) (alone topology before s) n) o ≡ o
            by None = refl
            by (Some p) = ap Some (succeeded_is (numbers_by topology before) (alone topology before s) n p ∙ ap (λ c. if c then Acked Successful else p) m)

        split : (f : Bool) → is_final (place topology before n) ≡ f → mark topology before n ≡ mark topology (Dispatch s ∷ before) n
        split true e = put true true e (ap is_final stays ∙ e) (mark topology before n) refl
        split false e = put false false e (ap is_final stays ∙ e) (mark topology before n) (mark_is topology before n ∙ open_unsettled topology before n e)

-- passes over the same messages are the same
pub succeeded_alike : (f g : ℕ → List ℕ) (bs : List ℕ) (n : ℕ) (p : Place) → Each (λ b. f b ≡ g b) bs → all_succeeded f bs n p ≡ all_succeeded g bs n p
succeeded_alike f g [] n p h = refl
succeeded_alike f g (b ∷ bs) n p h = succeeded_alike f g bs n (succeeded (f b) n p) h.1 ∙ ap (λ ns. all_succeeded g bs n (succeeded ns n p)) h.0

pub marked_alike : (f g : ℕ → List ℕ) (bs : List ℕ) (mark n old : ℕ) → Each (λ b. f b ≡ g b) bs → all_marked f bs mark n old ≡ all_marked g bs mark n old
marked_alike f g [] mark n old h = refl
marked_alike f g (b ∷ bs) mark n old h = marked_alike f g bs mark n (marked (f b) mark n old) h.1 ∙ ap (λ ns. all_marked g bs mark n (marked ns mark n old)) h.0

-- one turn of the pass over a batch
pub succeeded_step : (places : List Place) (ns : List ℕ) (k e : ℕ) (p : Place) → k < length ns → 1 ≤ get_or ns k e → get_or ns k e - 1 < length places → slice_get places (get_or ns k e - 1) ≡ Some p
    → (i : ℕ) → option_map (succeeded (drop (k + 1) ns) (suc i)) (slice_get (set places (get_or ns k e - 1) (Acked Successful)) i) ≡ option_map (succeeded (drop k ns) (suc i)) (slice_get places i)
succeeded_step places ns k e p below least within was i =
    listed_step {A = Place} (λ xs n x. succeeded xs n x) (λ x. Acked Successful) (λ n xs x. either (among xs n) ∙ sym (ap (λ c. if c || among xs n then Acked Successful else x) (eq-eqb n n refl)))
    (λ m n xs x other. ap (λ c. if c || among xs n then Acked Successful else x) (sym other)) places ns k e p (Acked Successful) below least within was refl i
  where
    either : (c : Bool) → ◌≡◌ {A = Place} (if c then Acked Successful else Acked Successful) (Acked Successful)
    either true = refl
    either false = refl
