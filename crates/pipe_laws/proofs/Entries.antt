-- What was sent to a consumer: each unit came on a subscription that feeds it, and has been on its way since.
use Rattle.std.proofs.Common.{◌≡◌, ℕ, ◌+◌, ◌*◌, ◌≤◌, List, [], ◌∷◌, Bool, true, false, refl, ap, sym, ◌∙◌, subst, Some, None, Option, arith}
use Rattle.std.specs.Prelude.{option_map, if◌then◌else◌, ◌==◌, is_some}
use Rattle.std.proofs.lemmas.Bool.{eqb-true, eq-eqb}
use Rattle.pipe_types.specs.declared.numbers.SubNo.{SubNo}
use Rattle.pipe_types.specs.declared.numbers.StageNo.{StageNo}
use Rattle.pipe_types.specs.declared.topology.Topology.{Topology}
use Rattle.pipe_types.specs.declared.message.Place.{Place}
use Rattle.pipe_types.specs.declared.message.Place.TheVariants.{Waiting, Inbox}
use Rattle.pipe_types.specs.declared.message.BatchEnd.TheVariants.{Outcomes}
use Rattle.pipe_types.specs.declared.room.Sent.{Sent as SentUnit}
use Rattle.pipe_types.specs.declared.step.Step.{Step}
use Rattle.pipe_types.specs.declared.step.Step.TheVariants.{Dispatch, Take, Close, Wrote, Kill, Halt}
use Rattle.pipe_types.specs.Numbers.{same_stage}
use Rattle.pipe_types.specs.Stages.{feeds, spec_of}
use Rattle.pipe_model.specs.History.{History, closed}
use Rattle.pipe_model.specs.Batches.{Batch, BatchPlace, AtBatcher, Sent, Dropped, Leg, batch_sent, batch_on_legs, leg_taken}
use Rattle.pipe_model.specs.Lives.{current_sub}
use Rattle.pipe_model.specs.Flow.{place, view_of, batch, among, is_empty, is_batcher, waits_in, batch_waits_in, alone, sends_by, waiting_by, subs_of, dispatched, waiting_after, lost_over, delivered_to, sent_to, change_place, new_batch, next_units, closing}
use Rattle.pipe_model.specs.Content.{arrivals}
use Rattle.pipe_model.specs.Moves.{is_final}
use Rattle.pipe_laws.proofs.Tests.{same_stage-true, same_stage-self}
use Rattle.pipe_laws.proofs.Lists.{Each, each-append, each_weaker, each_both, each_filter, each_always}
use Rattle.pipe_laws.proofs.Places.{Move, stays, comes, comes_lost, sent_on, runs, waits, is_gathered, joins, ends, IsOn, move_by, sends_on, dispatch_on}
use Rattle.pipe_laws.proofs.Levels.{rank, level, level_grows, feeds_down}
use Rattle.pipe_laws.proofs.Settled.{batch_closed}

-- a message sent to the consumer on this subscription is there or past it, and in no other inbox of the consumer
pub record MessageFits (topology : Topology) (c : StageNo) (u : SubNo) (p : Option Place) : Type 0 where
  pub far : 4 * rank topology c ≤ level topology p
  pub own : (w : SubNo) → p ≡ Some (Inbox w) → w.consumer ≡ c → w ≡ u

-- a batch that was sent
abbrev pub is_sent_batch : Option Batch → Bool
is_sent_batch None = false
is_sent_batch (Some x) = by_place x.place
  where
    by_place : BatchPlace → Bool
    by_place (Sent legs) = true
    by_place _ = false

-- an entry of what was sent to the consumer
pub record EntryFits (topology : Topology) (before : History) (c : StageNo) (d : SubNo × ℕ) : Type 0 where
  pub feeding : feeds topology d.0.producer c ≡ true
  pub consumer : d.0.consumer ≡ c
  pub message : is_batcher (spec_of topology d.0.producer) ≡ false → MessageFits topology c d.0 (place topology before d.1)
  pub batched : is_batcher (spec_of topology d.0.producer) ≡ true → is_sent_batch (batch topology before d.1) ≡ true

-- Messages

fits_move : (topology : Topology) (before : History) (step : Step) (c : StageNo) (u : SubNo) (p q : Option Place) → Move topology before step p q → MessageFits topology c u p → MessageFits topology c u q
fits_move topology before step c u p q stays fits = fits
fits_move topology before step c u p q (comes s) fits = record { far = omega (arith, fits.far); own = λ w e same. cc }
fits_move topology before step c u p q (comes_lost loss) fits = record { far = omega (arith, fits.far); own = λ w e same. cc }
fits_move topology before step c u p q (sent_on s v on) fits =
    record {
      far = omega (arith, fits.far, feeds_down topology s v.consumer on.feeding);
      own = λ w e same. absurd (apart w e same);
    }
  where
    apart : (w : SubNo) → Some (Inbox v) ≡ Some (Inbox w) → w.consumer ≡ c → ⊥
    apart w e same =
        let is : v ≡ w = cc in
        let down : rank topology v.consumer ≡ rank topology s + 1 = feeds_down topology s v.consumer on.feeding in
        let here : rank topology v.consumer ≡ rank topology c = ap (λ x. rank topology x.consumer) is ∙ ap (rank topology) same in
        let far : 4 * rank topology c ≤ 4 * rank topology s + 3 = fits.far in
        omega arith
fits_move topology before step c u p q (runs v from) fits = record { far = omega (arith, fits.far); own = λ w e same. cc }
fits_move topology before step c u p q (waits s) fits = record { far = omega (arith, fits.far); own = λ w e same. cc }
fits_move topology before step c u p q (is_gathered v) fits = record { far = omega (arith, fits.far); own = λ w e same. cc }
fits_move topology before step c u p q (joins s b from) fits =
    record { far = omega (arith, fits.far, level_grows topology before step _ _ (joins s b from)); own = λ w e same. cc }
fits_move topology before step c u p q (ends x y final) fits =
    record { far = omega (arith, fits.far, level_grows topology before step _ _ (ends x y final)); own = λ w e same. not_final y w final e }
  where
    not_final : (y : Place) (w : SubNo) → is_final (Some y) ≡ true → Some y ≡ Some (Inbox w) → w ≡ u
    not_final (Inbox v) w final e = cc
    not_final _ w final e = cc

-- Batches

sent_mapped : (change : BatchPlace → BatchPlace) → ((legs : List Leg) → is_sent_batch (Some (record { numbers = []; place = change (Sent legs) })) ≡ true) → (o : Option Batch) → is_sent_batch o ≡ true → is_sent_batch (option_map (λ x. change_place x (change x.place)) o) ≡ true
sent_mapped change keeps None h = h
sent_mapped change keeps (Some x) h = by_place x.numbers x.place h
  where
    by_place : (numbers : List ℕ) (p : BatchPlace) → is_sent_batch (Some (record { numbers = numbers; place = p })) ≡ true → is_sent_batch (Some (record { numbers = numbers; place = change p })) ≡ true
    by_place numbers (Sent legs) h = by_change (change (Sent legs)) (keeps legs)
      where
        by_change : (p : BatchPlace) → is_sent_batch (Some (record { numbers = []; place = p })) ≡ true → is_sent_batch (Some (record { numbers = numbers; place = p })) ≡ true
        by_change (Sent legs) h = refl
        by_change (AtBatcher s) h = h
        by_change (Dropped l) h = h
    by_place numbers (AtBatcher s) h = cc
    by_place numbers (Dropped l) h = cc

pub sent_exists : (o : Option Batch) → is_sent_batch o ≡ true → is_some o ≡ true
sent_exists None h = h
sent_exists (Some x) h = refl

sent_again : (s : StageNo) (is_alone : Bool) (subs : List SubNo) (legs : List Leg) → is_sent_batch (Some (record { numbers = []; place = batch_sent s is_alone subs (Sent legs) })) ≡ true
sent_again s is_alone [] legs = refl
sent_again s is_alone (u ∷ subs) legs = refl

-- a batch that was sent stays a sent one
pub sent_batch_after : (topology : Topology) (before : History) (step : Step) (b : ℕ) → is_sent_batch (batch topology before b) ≡ true → is_sent_batch (batch topology (step ∷ before) b) ≡ true
sent_batch_after topology before (Close s first trigger) b h =
    either (closing before (view_of topology before) s first.0) (b == closed before + 1) refl (batch_closed topology before b (sent_exists (batch topology before b) h))
  where
    either : (numbers : List ℕ) (t : Bool) → (b == closed before + 1) ≡ t → b ≤ closed before → is_sent_batch (new_batch t numbers s (batch topology before b)) ≡ true
    either numbers true e below = absurd (let is : b ≡ closed before + 1 = eqb-true b _ e in omega arith)
    either numbers false e below = h
sent_batch_after topology before (Dispatch s) b h = sent_mapped _ (sent_again s _ _) (batch topology before b) h
sent_batch_after topology before (Take s u k) b h =
    either (among (next_units topology (view_of topology before) s u k) b) (batch topology before b) h
  where
    either : (t : Bool) (o : Option Batch) → is_sent_batch o ≡ true → is_sent_batch (if t then option_map (λ x. change_place x (batch_on_legs (leg_taken s) x.place)) o else o) ≡ true
    either true o h = sent_mapped _ (λ legs. refl) o h
    either false o h = h
sent_batch_after topology before (Wrote s bytes (Outcomes outcomes)) b h = sent_mapped _ (λ legs. refl) (batch topology before b) h
sent_batch_after topology before (Kill s why) b h = sent_mapped _ (λ legs. refl) (batch topology before b) h
sent_batch_after topology before Halt b h = sent_mapped _ (λ legs. refl) (batch topology before b) h
sent_batch_after topology before _ b h = h

-- Entries

entry_after : (topology : Topology) (before : History) (step : Step) (c : StageNo) (d : SubNo × ℕ) → EntryFits topology before c d → EntryFits topology (step ∷ before) c d
entry_after topology before step c d fits =
    record {
      feeding = fits.feeding;
      consumer = fits.consumer;
      message = λ e. fits_move topology before step c d.0 _ _ (move_by topology before step d.1) (fits.message e);
      batched = λ e. sent_batch_after topology before step d.1 (fits.batched e);
    }

-- each unit that is sent goes on some subscription
pub sends_somewhere : (units : List SentUnit) → Each (λ d. is_empty (subs_of units d.unit) ≡ false) units
sends_somewhere [] = tt
sends_somewhere (d ∷ units) = (
  here (d.unit == d.unit) (eq-eqb d.unit d.unit refl),
  each_weaker (λ e. is_empty (subs_of units e.unit) ≡ false) (λ e. is_empty (subs_of (d ∷ units) e.unit) ≡ false) (λ e h. there (d.unit == e.unit) e.unit h) units (sends_somewhere units),
)
  where
    here : (b : Bool) → b ≡ true → is_empty (if b then d.sub ∷ subs_of units d.unit else subs_of units d.unit) ≡ false
    here true e = refl
    here false e = cc

    there : (b : Bool) (n : ℕ) → is_empty (subs_of units n) ≡ false → is_empty (if b then d.sub ∷ subs_of units n else subs_of units n) ≡ false
    there true n h = refl
    there false n h = h

pub delivered_each : (P : SentUnit → Type 0) (Q : SubNo × ℕ → Type 0) (c : StageNo) → ((d : SentUnit) → P d → d.sub.consumer ≡ c → Q (d.sub, d.unit)) → (units : List SentUnit) → Each P units → Each Q (delivered_to units c)
delivered_each P Q c f [] h = tt
delivered_each P Q c f (d ∷ units) h = either (same_stage c d.sub.consumer) refl (delivered_each P Q c f units h.1)
  where
    either : (b : Bool) → same_stage c d.sub.consumer ≡ b → Each Q (delivered_to units c) → Each Q (if b then (d.sub, d.unit) ∷ delivered_to units c else delivered_to units c)
    either true e rest = (f d h.0 (sym (same_stage-true c d.sub.consumer e)), rest)
    either false e rest = rest

pub waits_here : (s : StageNo) (p : Option Place) → waits_in s p ≡ true → p ≡ Some (Waiting s)
waits_here s (Some (Waiting t)) h = ap (λ x. Some (Waiting x)) (sym (same_stage-true s t h))
waits_here s _ h = cc

-- the unit waits in the stage, as a message or a batch
abbrev pub is_waiting : Topology → History → StageNo → ℕ → Bool
is_waiting topology before s n = if is_batcher (spec_of topology s) then batch_waits_in s (batch topology before n) else waits_in s (place topology before n)

pub waiting_each : (topology : Topology) (before : History) (s : StageNo) → Each (λ n. is_waiting topology before s n ≡ true) (waiting_by topology before (view_of topology before) s)
waiting_each topology before s =
    each_weaker (λ n. Unit {0} × (is_waiting topology before s n ≡ true)) (λ n. is_waiting topology before s n ≡ true) (λ n p. p.1) _
    (each_filter (λ n. Unit {0}) (is_waiting topology before s) (arrivals before s) (each_always (λ n. Unit {0}) (λ n. tt) (arrivals before s)))

-- a waiting message that is sent somewhere is in the inbox of a live subscription on the stage
pub dispatched_there : (topology : Topology) (before : History) (s : StageNo) (n : ℕ) → waits_in s (place topology before n) ≡ true → is_empty (subs_of (sends_by topology before (view_of topology before) s) n) ≡ false → (u : SubNo) × IsOn topology before s u × (place topology (Dispatch s ∷ before) n ≡ Some (Inbox u))
dispatched_there topology before s n waiting somewhere =
    by_subs (subs_of (sends_by topology before (view_of topology before) s) n) refl (dispatch_on topology before s n) somewhere
  where
    over : List ℕ
    over = lost_over topology before (view_of topology before) s

    moved : (subs : List SubNo) → subs_of (sends_by topology before (view_of topology before) s) n ≡ subs → place topology (Dispatch s ∷ before) n ≡ Some (if same_stage s s then waiting_after subs (among (lost_over topology before (view_of topology before) s) n) s else Waiting s)
    moved subs e =
        ap (option_map (dispatched (sends_by topology before (view_of topology before) s) (lost_over topology before (view_of topology before) s) (alone topology before s) s n)) (waits_here s (place topology before n) waiting)
        ∙ ap (λ x. Some (if same_stage s s then waiting_after x (among (lost_over topology before (view_of topology before) s) n) s else Waiting s)) e

    by_subs : (subs : List SubNo) → subs_of (sends_by topology before (view_of topology before) s) n ≡ subs → Each (IsOn topology before s) subs → is_empty subs ≡ false → (u : SubNo) × IsOn topology before s u × (place topology (Dispatch s ∷ before) n ≡ Some (Inbox u))
    by_subs [] e on h = cc
    by_subs (u ∷ subs) e on h =
        (u, on.0, moved (u ∷ subs) e ∙ ap (λ b. Some (if b then Inbox u else Waiting s)) (same_stage-self s))

-- a waiting batch that is sent somewhere is a sent one
dispatched_batch : (topology : Topology) (before : History) (s : StageNo) (n : ℕ) → batch_waits_in s (batch topology before n) ≡ true → is_empty (subs_of (sends_by topology before (view_of topology before) s) n) ≡ false → is_sent_batch (batch topology (Dispatch s ∷ before) n) ≡ true
dispatched_batch topology before s n waiting somewhere =
    by_subs (subs_of (sends_by topology before (view_of topology before) s) n) (batch topology before n) somewhere waiting
  where
    by_place : (u : SubNo) (subs : List SubNo) (numbers : List ℕ) (p : BatchPlace) → batch_waits_in s (Some (record { numbers = numbers; place = p })) ≡ true → is_sent_batch (Some (record { numbers = numbers; place = batch_sent s (among (alone topology before s) n) (u ∷ subs) p })) ≡ true
    by_place u subs numbers (AtBatcher t) h = rw h refl
    by_place u subs numbers (Sent legs) h = cc
    by_place u subs numbers (Dropped l) h = cc

    by_subs : (subs : List SubNo) (o : Option Batch) → is_empty subs ≡ false → batch_waits_in s o ≡ true → is_sent_batch (option_map (λ x. change_place x (batch_sent s (among (alone topology before s) n) subs x.place)) o) ≡ true
    by_subs [] o h w = cc
    by_subs (u ∷ subs) None h w = cc
    by_subs (u ∷ subs) (Some x) h w = by_place u subs x.numbers x.place w

-- what a dispatch sends, as it is afterwards
new_entry : (topology : Topology) (before : History) (s c : StageNo) (d : SentUnit) → IsOn topology before s d.sub → is_waiting topology before s d.unit ≡ true → is_empty (subs_of (sends_by topology before (view_of topology before) s) d.unit) ≡ false → d.sub.consumer ≡ c → EntryFits topology (Dispatch s ∷ before) c (d.sub, d.unit)
new_entry topology before s c d on waiting somewhere there =
    record {
      feeding = subst (λ x. feeds topology x c ≡ true) (sym producer) (subst (λ x. feeds topology s x ≡ true) there on.feeding);
      consumer = there;
      message = λ e. message (subst (λ x. is_batcher (spec_of topology x) ≡ false) producer e);
      batched = λ e. dispatched_batch topology before s d.unit (at_batcher (subst (λ x. is_batcher (spec_of topology x) ≡ true) producer e)) somewhere;
    }
  where
    producer : d.sub.producer ≡ s
    producer = ap (λ x. x.producer) on.current

    at_batcher : is_batcher (spec_of topology s) ≡ true → batch_waits_in s (batch topology before d.unit) ≡ true
    at_batcher e = subst (λ b. (if b then batch_waits_in s (batch topology before d.unit) else waits_in s (place topology before d.unit)) ≡ true) e waiting

    message : is_batcher (spec_of topology s) ≡ false → MessageFits topology c d.sub (place topology (Dispatch s ∷ before) d.unit)
    message e = by_sub (dispatched_there topology before s d.unit (subst (λ b. (if b then batch_waits_in s (batch topology before d.unit) else waits_in s (place topology before d.unit)) ≡ true) e waiting) somewhere)
      where
        by_sub : (u : SubNo) × IsOn topology before s u × (place topology (Dispatch s ∷ before) d.unit ≡ Some (Inbox u)) → MessageFits topology c d.sub (place topology (Dispatch s ∷ before) d.unit)
        by_sub t =
            record {
              far =
                  let is : level topology (place topology (Dispatch s ∷ before) d.unit) ≡ 4 * rank topology t.0.consumer = ap (level topology) t.2 in
                  let one : rank topology t.0.consumer ≡ rank topology s + 1 = feeds_down topology s t.0.consumer t.1.feeding in
                  let other : rank topology d.sub.consumer ≡ rank topology s + 1 = feeds_down topology s d.sub.consumer on.feeding in
                  let here : rank topology d.sub.consumer ≡ rank topology c = ap (rank topology) there in
                  omega arith;
              own = λ w e same.
                  let is : w ≡ t.0 = let x : Some (Inbox w) ≡ Some (Inbox t.0) = sym e ∙ t.2 in cc in
                  is ∙ (t.1.current ∙ (ap (λ x. current_sub topology before x s) (ap (λ x. x.consumer) (sym is) ∙ (same ∙ sym there)) ∙ sym on.current));
            }

-- each entry of what was sent to a consumer fits
pub entries_fit : (topology : Topology) (before : History) (c : StageNo) → Each (EntryFits topology before c) (sent_to topology before c)
entries_fit topology [] c = tt
entries_fit topology (Dispatch s ∷ before) c =
    each-append (EntryFits topology (Dispatch s ∷ before) c) (sent_to topology before c) _
    (each_weaker (EntryFits topology before c) (EntryFits topology (Dispatch s ∷ before) c) (entry_after topology before (Dispatch s) c) _ (entries_fit topology before c))
    (delivered_each (λ d. (IsOn topology before s d.sub × (is_waiting topology before s d.unit ≡ true)) × (is_empty (subs_of (sends_by topology before (view_of topology before) s) d.unit) ≡ false)) (EntryFits topology (Dispatch s ∷ before) c) c
    (λ d p there. new_entry topology before s c d p.0.0 p.0.1 p.1 there) (sends_by topology before (view_of topology before) s)
    (each_both _ _ _ (sends_on topology before s (λ n. is_waiting topology before s n ≡ true) (waiting_each topology before s)) (sends_somewhere (sends_by topology before (view_of topology before) s))))
entries_fit topology (step ∷ before) c =
    each_weaker (EntryFits topology before c) (EntryFits topology (step ∷ before) c) (entry_after topology before step c) (sent_to topology before c) (entries_fit topology before c)
