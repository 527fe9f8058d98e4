-- The places, the marks and the legs after a kill.
use Rattle.std.proofs.Common.{◌≡◌, ℕ, suc, List, [], ◌∷◌, length, Bool, true, false, refl, ap, sym, ◌∙◌, Some, None, Option}
use Rattle.std.specs.Prelude.{slice_get, option_map, if◌then◌else◌, ◌==◌, not, is_some, unwrap_or, position}
use Rattle.std.specs.declared.alloc.Global.{Global}
use Rattle.std.specs.declared.vec.Vec.{Vec}
use Rattle.pipe_types.specs.declared.numbers.StageNo.{StageNo}
use Rattle.pipe_types.specs.declared.numbers.SubNo.{SubNo}
use Rattle.pipe_types.specs.declared.topology.Topology.{Topology}
use Rattle.pipe_types.specs.declared.message.Why.{Why}
use Rattle.pipe_types.specs.declared.message.Place.{Place}
use Rattle.pipe_types.specs.declared.message.Place.TheVariants.{Waiting, Inbox, Running, Gathered, InBatch, Acked, Lost}
use Rattle.pipe_types.specs.declared.step.Step.{Step}
use Rattle.pipe_types.specs.declared.step.Step.TheVariants.{Kill, Halt}
use Rattle.pipe_model.specs.History.{History, incarnation}
use Rattle.pipe_model.specs.Lives.{reason_in, kill_set}
use Rattle.pipe_model.specs.Batches.{Batch, BatchPlace, AtBatcher, Sent, Dropped, Leg, LegPlace, InInbox, AtWork, Answered, LegLost, is_settled, settled_as, lost_leg, failed_leg, place_by_batch, on_legs, leg_lost, dropped_in, batch_killed}
use Rattle.pipe_model.specs.Flow.{place, batch, by_batch, place_in_batch, killed as killed_place, lost_with, change_place}
use Rattle.pipe_model.specs.Moves.{is_final}
use Rattle.pipe_model.specs.Standing.{going, in_progress}
use Rattle.pipe_laws.proofs.Places.{settled_final}
use Rattle.pipe_laws.proofs.Progress.{in_batch_going}
use Rattle.message_ack.specs.Ends.{Ends, sent_in}
use Rattle.core_laws.specs.Columns.{mark, mark_by, ends_in_progress}
use Rattle.core_laws.proofs.Marks.{open_unsettled, mark_is}
use Rattle.core_state.specs.declared.state.Core.{Core}
use Rattle.core_state.proofs.Reading.{incarnation_is}
use Rattle.core_deaths.specs.Reasons.{reason_at, is_killing}
use Rattle.core_losses.specs.Losses.{incarnation_at, loss_in, place_loss, lost_to, place_lost, marked_to, loss_at}
use Rattle.core_losses.specs.Legs.{leg_loss, lose_open}
use Rattle.core_losses.specs.Batches.{batch_lost, lost_batch, after_kill, left_batch}
use Rattle.core_losses.specs.Lost.{AreLost}
use Rattle.core_losses.proofs.Dues.{Killing}

-- What the step does, as the model says it

places_of : (topology : Topology) (before : History) (step : Step) (n : ℕ) → is_killing step ≡ true
    → place topology (step ∷ before) n ≡ option_map (λ p. by_batch (batch topology (step ∷ before)) n (killed_place (kill_set topology before step) (incarnation before) p)) (place topology before n)
places_of topology before (Kill s why) n k = refl
places_of topology before Halt n k = refl
places_of topology before _ n k = cc

batch_of : (topology : Topology) (before : History) (step : Step) (b : ℕ) → is_killing step ≡ true
    → batch topology (step ∷ before) b ≡ option_map (λ x. change_place x (batch_killed (kill_set topology before step) (incarnation before) x.place)) (batch topology before b)
batch_of topology before (Kill s why) b k = refl
batch_of topology before Halt b k = refl
batch_of topology before _ b k = cc

mark_of : (topology : Topology) (before : History) (step : Step) (n : ℕ) → is_killing step ≡ true → mark topology (step ∷ before) n ≡ mark_by topology before step n (mark topology before n)
mark_of topology before (Kill s why) n k = refl
mark_of topology before Halt n k = refl
mark_of topology before _ n k = cc

-- The tables' words for it

lost_as : (i : ℕ) (s : StageNo) (o : Option Why) (p : Place) → lost_to (loss_in i s o) p ≡ lost_with i s o p
lost_as i s None p = refl
lost_as i s (Some why) p = refl

lose_as : (i : ℕ) (u : SubNo) (o : Option Why) (p : LegPlace) → lose_open (loss_in i u.consumer o) p ≡ leg_lost o i u p
lose_as i u None InInbox = refl
lose_as i u None AtWork = refl
lose_as i u None (Answered os) = refl
lose_as i u None (LegLost l) = refl
lose_as i u (Some why) InInbox = refl
lose_as i u (Some why) AtWork = refl
lose_as i u (Some why) (Answered os) = refl
lose_as i u (Some why) (LegLost l) = refl

legs_as : (f g : SubNo → LegPlace → LegPlace) → ((u : SubNo) (p : LegPlace) → f u p ≡ g u p) → (legs : List Leg) → on_legs f legs ≡ on_legs g legs
legs_as f g same [] = refl
legs_as f g same (leg ∷ legs) = λ i. record { sub = leg.sub; place = same leg.sub leg.place i } ∷ legs_as f g same legs i

module _ (core : Core) (step : Step) (killed : List (Option Why)) (x : Killing core step killed) where
  inc_same : (s : StageNo) → incarnation_at core.stages.items s ≡ incarnation core.journal.steps s
  inc_same s = incarnation_is core s x.holds

  stage_same : (s : StageNo) (p : Place) → lost_to (loss_in (incarnation_at core.stages.items s) s (reason_at killed s)) p ≡ lost_with (incarnation core.journal.steps s) s (reason_in (kill_set core.topology core.journal.steps step) s) p
  stage_same s p = lost_as (incarnation_at core.stages.items s) s (reason_at killed s) p ∙ λ i. lost_with (inc_same s i) s (x.reasons s i) p

  place_same : (p : BatchPlace) → batch_lost (reason_at killed) (incarnation_at core.stages.items) p ≡ batch_killed (kill_set core.topology core.journal.steps step) (incarnation core.journal.steps) p
  place_same (AtBatcher s) = λ i. dropped_in s (inc_same s i) (x.reasons s i)
  place_same (Sent legs) =
      ap Sent
      (legs_as (λ u p. lose_open (leg_loss (reason_at killed) (incarnation_at core.stages.items) u) p)
      (λ u. leg_lost (reason_in (kill_set core.topology core.journal.steps step) u.consumer) (incarnation core.journal.steps u.consumer) u)
      (λ u p. lose_as (incarnation_at core.stages.items u.consumer) u (reason_at killed u.consumer) p ∙ λ i. leg_lost (x.reasons u.consumer i) (inc_same u.consumer i) u p) legs)
  place_same (Dropped l) = refl

  -- the batches after the kill
  pub batch_same : (b : ℕ) → after_kill (reason_at killed) (incarnation_at core.stages.items) (batch core.topology core.journal.steps) b ≡ batch core.topology (step ∷ core.journal.steps) b
  batch_same b = each (batch core.topology core.journal.steps b) ∙ sym (batch_of core.topology core.journal.steps step b x.kills)
    where
      each : (o : Option Batch) → lost_batch (reason_at killed) (incarnation_at core.stages.items) o ≡ option_map (λ y. change_place y (batch_killed (kill_set core.topology core.journal.steps step) (incarnation core.journal.steps) y.place)) o
      each None = refl
      each (Some y) = ap (λ p. Some (change_place y p)) (place_same y.place)

-- A message of a batch

final_stays : (why : StageNo → Option Why) (inc : StageNo → ℕ) (p : Place) → is_final (Some p) ≡ true → (place_lost why inc p ≡ p) × (place_loss why inc p ≡ None)
final_stays why inc (Acked o) h = (refl, refl)
final_stays why inc (Lost l) h = (refl, refl)
final_stays why inc _ h = cc

in_batch_stays : (why : StageNo → Option Why) (inc : StageNo → ℕ) (b : ℕ) (o : Option Batch) (n : ℕ) → (place_lost why inc (place_in_batch b o n) ≡ place_in_batch b o n) × (place_loss why inc (place_in_batch b o n) ≡ None)
in_batch_stays why inc b None n = (refl, refl)
in_batch_stays why inc b (Some y) n = by y.place (unwrap_or (position (λ m. m == n) y.numbers) 0)
  where
    by : (p : BatchPlace) (k : ℕ) → (place_lost why inc (place_by_batch b p k) ≡ place_by_batch b p k) × (place_loss why inc (place_by_batch b p k) ≡ None)
    by (AtBatcher s) k = (refl, refl)
    by (Dropped l) k = (refl, refl)
    by (Sent legs) k = either (is_settled legs)
      where
        either : (c : Bool) → (place_lost why inc (if c then settled_as (lost_leg legs) (failed_leg legs k) else InBatch (record { 0 = b })) ≡ (if c then settled_as (lost_leg legs) (failed_leg legs k) else InBatch (record { 0 = b })))
            × (place_loss why inc (if c then settled_as (lost_leg legs) (failed_leg legs k) else InBatch (record { 0 = b })) ≡ None)
        either true = final_stays why inc (settled_as (lost_leg legs) (failed_leg legs k)) (settled_final legs k)
        either false = (refl, refl)

batch_final : (b : ℕ) (o : Option Batch) (n : ℕ) → is_some o ≡ true → is_final (Some (place_in_batch b o n)) ≡ not (in_progress o)
batch_final b None n h = cc
batch_final b (Some y) n h = by y.place (unwrap_or (position (λ m. m == n) y.numbers) 0)
  where
    by : (p : BatchPlace) (k : ℕ) → is_final (Some (place_by_batch b p k)) ≡ not (going p)
    by (AtBatcher s) k = refl
    by (Dropped l) k = refl
    by (Sent legs) k = either (is_settled legs)
      where
        either : (c : Bool) → is_final (Some (if c then settled_as (lost_leg legs) (failed_leg legs k) else InBatch (record { 0 = b }))) ≡ not (not c)
        either true = settled_final legs k
        either false = refl

-- where a message of no batch stands
out_of_batch : (f : ℕ → Option Batch) (n i : ℕ) (s : StageNo) (o : Option Why) (p : Place) → by_batch f n p ≡ p → lost_with i s o p ≡ by_batch f n (lost_with i s o p)
out_of_batch f n i s None p h = sym h
out_of_batch f n i s (Some why) p h = refl

one_place : (core : Core) (step : Step) (killed : List (Option Why)) → Killing core step killed → (n : ℕ) (p : Place)
    → place_lost (reason_at killed) (incarnation_at core.stages.items) (by_batch (after_kill (reason_at killed) (incarnation_at core.stages.items) (batch core.topology core.journal.steps)) n p)
    ≡ by_batch (batch core.topology (step ∷ core.journal.steps)) n (killed_place (kill_set core.topology core.journal.steps step) (incarnation core.journal.steps) p)
one_place core step killed x n (Waiting s) =
    stage_same core step killed x s (Waiting s) ∙ out_of_batch (batch core.topology (step ∷ core.journal.steps)) n (incarnation core.journal.steps s) s (reason_in (kill_set core.topology core.journal.steps step) s) (Waiting s) refl
one_place core step killed x n (Inbox u) =
    stage_same core step killed x u.consumer (Inbox u) ∙ out_of_batch (batch core.topology (step ∷ core.journal.steps)) n (incarnation core.journal.steps u.consumer) u.consumer (reason_in (kill_set core.topology core.journal.steps step) u.consumer) (Inbox u) refl
one_place core step killed x n (Running s) =
    stage_same core step killed x s (Running s) ∙ out_of_batch (batch core.topology (step ∷ core.journal.steps)) n (incarnation core.journal.steps s) s (reason_in (kill_set core.topology core.journal.steps step) s) (Running s) refl
one_place core step killed x n (Gathered s) =
    stage_same core step killed x s (Gathered s) ∙ out_of_batch (batch core.topology (step ∷ core.journal.steps)) n (incarnation core.journal.steps s) s (reason_in (kill_set core.topology core.journal.steps step) s) (Gathered s) refl
one_place core step killed x n (InBatch b) =
    (in_batch_stays (reason_at killed) (incarnation_at core.stages.items) b.0 (after_kill (reason_at killed) (incarnation_at core.stages.items) (batch core.topology core.journal.steps) b.0) n).0
    ∙ ap (λ o. place_in_batch b.0 o n) (batch_same core step killed x b.0)
one_place core step killed x n (Acked o) = refl
one_place core step killed x n (Lost l) = refl

mapped_place : (core : Core) (step : Step) (killed : List (Option Why)) → Killing core step killed → (n : ℕ) (o : Option Place)
    → option_map (place_lost (reason_at killed) (incarnation_at core.stages.items)) (option_map (by_batch (after_kill (reason_at killed) (incarnation_at core.stages.items) (batch core.topology core.journal.steps)) n) o)
    ≡ option_map (λ p. by_batch (batch core.topology (step ∷ core.journal.steps)) n (killed_place (kill_set core.topology core.journal.steps step) (incarnation core.journal.steps) p)) o
mapped_place core step killed x n None = refl
mapped_place core step killed x n (Some p) = ap Some (one_place core step killed x n p)

-- The marks

-- what the passes make of a mark
abbrev marked_twice : (why : StageNo → Option Why) (inc : StageNo → ℕ) (f : ℕ → Option Batch) (e n : ℕ) → Option Place → ℕ → ℕ
marked_twice why inc f e n o m = marked_to (loss_at why inc (option_map (by_batch f n) o)) e (if left_batch f o then e else m)

killed_mark : (i j e m : ℕ) (s : StageNo) (one other : Option Why) (f : ℕ → Option Batch) (n : ℕ) (p : Place) → one ≡ other → is_final (Some p) ≡ false → by_batch f n p ≡ p → m ≡ 0
    → marked_to (loss_in i s one) e m ≡ (if is_final (Some (by_batch f n (lost_with j s other p))) then e else 0)
killed_mark i j e m s None other f n p same h k z = z ∙ (ap (λ b. if b then e else 0) (sym (ap (λ q. is_final (Some q)) k ∙ h)) ∙ ap (λ o. if is_final (Some (by_batch f n (lost_with j s o p))) then e else 0) same)
killed_mark i j e m s (Some why) other f n p same h k z = ap (λ o. if is_final (Some (by_batch f n (lost_with j s o p))) then e else 0) same

one_mark : (core : Core) (step : Step) (killed : List (Option Why)) → Killing core step killed → (n m : ℕ) (o : Option Place) → place core.topology core.journal.steps n ≡ o → (is_final o ≡ false → m ≡ 0)
    → marked_twice (reason_at killed) (incarnation_at core.stages.items) (after_kill (reason_at killed) (incarnation_at core.stages.items) (batch core.topology core.journal.steps)) (length core.journal.steps) n o m
    ≡ (if is_final o then m else (if is_final (option_map (λ p. by_batch (batch core.topology (step ∷ core.journal.steps)) n (killed_place (kill_set core.topology core.journal.steps step) (incarnation core.journal.steps) p)) o) then length core.journal.steps else 0))
one_mark core step killed x n m None at zero = zero refl
one_mark core step killed x n m (Some (Waiting s)) at zero = killed_mark (incarnation_at core.stages.items s) (incarnation core.journal.steps s) (length core.journal.steps) m s (reason_at killed s) (reason_in (kill_set core.topology core.journal.steps step) s) (batch core.topology (step ∷ core.journal.steps)) n (Waiting s) (x.reasons s) refl refl (zero refl)
one_mark core step killed x n m (Some (Inbox u)) at zero = killed_mark (incarnation_at core.stages.items u.consumer) (incarnation core.journal.steps u.consumer) (length core.journal.steps) m u.consumer (reason_at killed u.consumer) (reason_in (kill_set core.topology core.journal.steps step) u.consumer) (batch core.topology (step ∷ core.journal.steps)) n (Inbox u) (x.reasons u.consumer) refl refl (zero refl)
one_mark core step killed x n m (Some (Running s)) at zero = killed_mark (incarnation_at core.stages.items s) (incarnation core.journal.steps s) (length core.journal.steps) m s (reason_at killed s) (reason_in (kill_set core.topology core.journal.steps step) s) (batch core.topology (step ∷ core.journal.steps)) n (Running s) (x.reasons s) refl refl (zero refl)
one_mark core step killed x n m (Some (Gathered s)) at zero = killed_mark (incarnation_at core.stages.items s) (incarnation core.journal.steps s) (length core.journal.steps) m s (reason_at killed s) (reason_in (kill_set core.topology core.journal.steps step) s) (batch core.topology (step ∷ core.journal.steps)) n (Gathered s) (x.reasons s) refl refl (zero refl)
one_mark core step killed x n m (Some (Acked o)) at zero = refl
one_mark core step killed x n m (Some (Lost l)) at zero = refl
one_mark core step killed x n m (Some (InBatch b)) at zero =
    ap (λ loss. marked_to loss e (if not (in_progress (A b.0)) then e else m)) (in_batch_stays (reason_at killed) (incarnation_at core.stages.items) b.0 (A b.0) n).1
    ∙ (ap (λ k. if not (in_progress (A b.0)) then e else k) (zero refl)
    ∙ (ap (λ o. if not (in_progress o) then e else 0) (batch_same core step killed x b.0)
    ∙ ap (λ c. if c then e else 0) (sym (batch_final b.0 (batch core.topology (step ∷ core.journal.steps) b.0) n there))))
  where
    A : ℕ → Option Batch
    A = after_kill (reason_at killed) (incarnation_at core.stages.items) (batch core.topology core.journal.steps)

    e : ℕ
    e = length core.journal.steps

    some_map : {C D : Type 0} (f : C → D) (o : Option C) → is_some o ≡ true → is_some (option_map f o) ≡ true
    some_map f None h = cc
    some_map f (Some c) h = refl

    progress_some : (o : Option Batch) → in_progress o ≡ true → is_some o ≡ true
    progress_some None h = cc
    progress_some (Some y) h = refl

    there : is_some (batch core.topology (step ∷ core.journal.steps) b.0) ≡ true
    there =
        ap is_some (batch_of core.topology core.journal.steps step b.0 x.kills)
        ∙ some_map (λ y. change_place y (batch_killed (kill_set core.topology core.journal.steps step) (incarnation core.journal.steps) y.place)) (batch core.topology core.journal.steps b.0)
        (progress_some (batch core.topology core.journal.steps b.0) (in_batch_going core.topology core.journal.steps n b at))

-- All together

pub lost_after : (core : Core) (step : Step) (killed : List (Option Why)) (middle : List Place) (places : Vec Place Global) (half : List ℕ) (settled : Vec ℕ Global) (legs : List (ℕ × Ends)) → Killing core step killed
    → ((i : ℕ) → slice_get middle i ≡ option_map (by_batch (after_kill (reason_at killed) (incarnation_at core.stages.items) (batch core.topology core.journal.steps)) (suc i)) (slice_get core.places.items i)) → length middle ≡ length core.places.items
    → ((i : ℕ) → slice_get places.items i ≡ option_map (place_lost (reason_at killed) (incarnation_at core.stages.items)) (slice_get middle i)) → length places.items ≡ length middle
    → ((i : ℕ) → slice_get half i ≡ option_map (λ old. if left_batch (after_kill (reason_at killed) (incarnation_at core.stages.items) (batch core.topology core.journal.steps)) (slice_get core.places.items i) then length core.journal.steps else old) (slice_get core.settled.items i)) → length half ≡ length core.settled.items
    → ((i : ℕ) → slice_get settled.items i ≡ option_map (marked_to (loss_at (reason_at killed) (incarnation_at core.stages.items) (slice_get middle i)) (length core.journal.steps)) (slice_get half i)) → length settled.items ≡ length half
    → ((i : ℕ) → sent_in legs (suc i) ≡ ends_in_progress (after_kill (reason_at killed) (incarnation_at core.stages.items) (batch core.topology core.journal.steps) (suc i)))
    → AreLost core step places settled legs
lost_after core step killed middle places half settled legs x first first-len second second-len third third-len fourth fourth-len ends =
    record {
      places-len = second-len ∙ first-len;
      settled-len = fourth-len ∙ third-len;
      placed = λ i.
          second i
          ∙ (ap (option_map (place_lost why inc)) (first i ∙ ap (option_map (by_batch A (suc i))) (x.holds.fields.places i))
          ∙ (mapped_place core step killed x (suc i) (place topology before (suc i)) ∙ sym (places_of topology before step (suc i) x.kills)));
      marks = λ i below.
          fourth i
          ∙ (ap (λ o. option_map (marked_to (loss_at why inc o) e) (slice_get half i)) (first i ∙ ap (option_map (by_batch A (suc i))) (x.holds.fields.places i))
          ∙ (ap (option_map (marked_to (loss_at why inc (option_map (by_batch A (suc i)) (place topology before (suc i)))) e))
          (third i ∙ (ap (λ o. option_map (λ old. if left_batch A o then e else old) (slice_get core.settled.items i)) (x.holds.fields.places i) ∙ ap (option_map (λ old. if left_batch A (place topology before (suc i)) then e else old)) (x.holds.fields.settled i below)))
          ∙ ap Some
          (one_mark core step killed x (suc i) (mark topology before (suc i)) (place topology before (suc i)) refl (λ open_yet. mark_is topology before (suc i) ∙ open_unsettled topology before (suc i) open_yet)
          ∙ (ap (λ o. if is_final (place topology before (suc i)) then mark topology before (suc i) else (if is_final o then e else 0)) (sym (places_of topology before step (suc i) x.kills))
          ∙ sym (mark_of topology before step (suc i) x.kills)))));
      ended = λ i. ends i ∙ ap ends_in_progress (batch_same core step killed x (suc i));
    }
  where
    topology : Topology
    topology = core.topology

    before : History
    before = core.journal.steps

    why : StageNo → Option Why
    why = reason_at killed

    inc : StageNo → ℕ
    inc = incarnation_at core.stages.items

    A : ℕ → Option Batch
    A = after_kill (reason_at killed) (incarnation_at core.stages.items) (batch core.topology core.journal.steps)

    e : ℕ
    e = length core.journal.steps
