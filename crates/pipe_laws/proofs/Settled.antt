-- What is settled stays so, whatever follows.
use Rattle.std.proofs.Common.{◌≡◌, ℕ, zero, suc, ◌+◌, ◌≤◌, List, [], ◌∷◌, ◌++◌, Bool, true, false, refl, ap, ◌∙◌, Some, None, Option, arith}
use Rattle.std.specs.Prelude.{option_map, if◌then◌else◌, IsTrue, ◌==◌, slice_get, is_some}
use Rattle.std.proofs.lemmas.Bool.{eqb-true}
use Rattle.pipe_types.specs.declared.numbers.SubNo.{SubNo}
use Rattle.pipe_types.specs.declared.numbers.StageNo.{StageNo}
use Rattle.pipe_types.specs.declared.topology.Topology.{Topology}
use Rattle.pipe_types.specs.declared.message.Outcome.{Outcome}
use Rattle.pipe_types.specs.declared.message.Loss.{Loss}
use Rattle.pipe_types.specs.declared.message.Why.{Why}
use Rattle.pipe_types.specs.declared.message.Place.{Place}
use Rattle.pipe_types.specs.declared.message.Place.TheVariants.{Inbox, Acked, Lost}
use Rattle.pipe_types.specs.declared.message.BatchEnd.TheVariants.{Outcomes}
use Rattle.pipe_types.specs.declared.step.Step.{Step}
use Rattle.pipe_types.specs.declared.step.Step.TheVariants.{Accept, Dispatch, Take, Done, Gather, Close, Wrote, Child, ChildEnd, Kill, Late, Halt}
use Rattle.pipe_types.specs.declared.step.LateAnswer.TheVariants.{Records}
use Rattle.pipe_model.specs.History.{History, closed}
use Rattle.pipe_model.specs.Content.{has_crash}
use Rattle.pipe_model.specs.Batches.{Batch, BatchPlace, AtBatcher, Sent, Dropped, Leg, LegPlace, InInbox, AtWork, Answered, LegLost, on_legs, leg_taken, leg_answered, leg_lost, batch_sent, batch_on_legs, batch_killed}
use Rattle.pipe_model.specs.Lives.{KillSet, reason_in}
use Rattle.pipe_model.specs.Flow.{View, place, place_after, view_of, batch, among, change_place, new_batch, next_units, closing}
use Rattle.pipe_model.specs.Moves.{is_final}
use Rattle.pipe_model.specs.Claims.{StaysSettled, LegStaysSettled, leg_at, is_settled_leg}

-- an acknowledged message stays so after each step
acked_after : (topology : Topology) (before : History) (view : View) (step : Step) (n : ℕ) (o : Outcome) → view.place n ≡ Some (Acked o) → place_after topology before view step n ≡ Some (Acked o)
acked_after topology before view (Accept s records) n o e = rw e refl
acked_after topology before view (Late s slot i (Records records)) n o e = rw e refl
acked_after topology before view (Dispatch s) n o e = rw e refl
acked_after topology before view (Take s u k) n o e = rw e refl
acked_after topology before view (Done s replies) n o e = either (has_crash replies) (view.place n) _ e refl
  where
    either : (b : Bool) (p : Option Place) (move : Place → Place) → p ≡ Some (Acked o) → move (Acked o) ≡ Acked o → (if b then p else option_map move p) ≡ Some (Acked o)
    either true p move e stays = e
    either false p move e stays = ap (option_map move) e ∙ ap Some stays
acked_after topology before view (Gather s m) n o e = rw e refl
acked_after topology before view (Close s first trigger) n o e = rw e refl
acked_after topology before view (Wrote s bytes end) n o e = rw e refl
acked_after topology before view (Child s m slot) n o e = rw e refl
acked_after topology before view (ChildEnd s slot reply) n o e = rw e refl
acked_after topology before view (Kill s why) n o e = rw e refl
acked_after topology before view Halt n o e = rw e refl
acked_after topology before view _ n o e = e

-- a lost message stays so after each step
lost_after : (topology : Topology) (before : History) (view : View) (step : Step) (n : ℕ) (l : Loss) → view.place n ≡ Some (Lost l) → place_after topology before view step n ≡ Some (Lost l)
lost_after topology before view (Accept s records) n l e = rw e refl
lost_after topology before view (Late s slot i (Records records)) n l e = rw e refl
lost_after topology before view (Dispatch s) n l e = rw e refl
lost_after topology before view (Take s u k) n l e = rw e refl
lost_after topology before view (Done s replies) n l e = either (has_crash replies) (view.place n) _ e refl
  where
    either : (b : Bool) (p : Option Place) (move : Place → Place) → p ≡ Some (Lost l) → move (Lost l) ≡ Lost l → (if b then p else option_map move p) ≡ Some (Lost l)
    either true p move e stays = e
    either false p move e stays = ap (option_map move) e ∙ ap Some stays
lost_after topology before view (Gather s m) n l e = rw e refl
lost_after topology before view (Close s first trigger) n l e = rw e refl
lost_after topology before view (Wrote s bytes end) n l e = rw e refl
lost_after topology before view (Child s m slot) n l e = rw e refl
lost_after topology before view (ChildEnd s slot reply) n l e = rw e refl
lost_after topology before view (Kill s why) n l e = rw e refl
lost_after topology before view Halt n l e = rw e refl
lost_after topology before view _ n l e = e

pub acked_stays : (topology : Topology) (later before : History) (n : ℕ) (o : Outcome) → place topology before n ≡ Some (Acked o) → place topology (later ++ before) n ≡ Some (Acked o)
acked_stays topology [] before n o e = e
acked_stays topology (step ∷ later) before n o e =
    acked_after topology (later ++ before) (view_of topology (later ++ before)) step n o (acked_stays topology later before n o e)

pub lost_stays : (topology : Topology) (later before : History) (n : ℕ) (l : Loss) → place topology before n ≡ Some (Lost l) → place topology (later ++ before) n ≡ Some (Lost l)
lost_stays topology [] before n l e = e
lost_stays topology (step ∷ later) before n l e =
    lost_after topology (later ++ before) (view_of topology (later ++ before)) step n l (lost_stays topology later before n l e)

pub stays_settled : (topology : Topology) (later before : History) (n : ℕ) → StaysSettled topology later before n
stays_settled topology later before n = by_place (place topology before n) refl
  where
    by_place : (p : Option Place) → place topology before n ≡ p → IsTrue (is_final p) → place topology (later ++ before) n ≡ p
    by_place (Some (Acked o)) e final = acked_stays topology later before n o e
    by_place (Some (Lost l)) e final = lost_stays topology later before n l e
    by_place _ e final = cc

-- Legs

abbrev pub a_leg : SubNo → LegPlace → Leg
a_leg u place = record { sub = u; place = place }

abbrev pub a_batch : List ℕ → BatchPlace → Batch
a_batch numbers place = record { numbers = numbers; place = place }

-- a change of places that leaves what is settled
pub record Spares (change : SubNo → LegPlace → LegPlace) : Type 0 where
  pub answered : (u : SubNo) (outcomes : List Outcome) → change u (Answered outcomes) ≡ Answered outcomes
  pub lost : (u : SubNo) (loss : Loss) → change u (LegLost loss) ≡ LegLost loss

one_leg_kept : (change : SubNo → LegPlace → LegPlace) → Spares change → (u : SubNo) (p : LegPlace) → is_settled_leg (Some (a_leg u p)) ≡ true → a_leg u (change u p) ≡ a_leg u p
one_leg_kept change spares u InInbox h = cc
one_leg_kept change spares u AtWork h = cc
one_leg_kept change spares u (Answered outcomes) h = ap (a_leg u) (spares.answered u outcomes)
one_leg_kept change spares u (LegLost loss) h = ap (a_leg u) (spares.lost u loss)

leg_kept : (change : SubNo → LegPlace → LegPlace) → Spares change → (legs : List Leg) (i : ℕ) → is_settled_leg (slice_get legs i) ≡ true → slice_get (on_legs change legs) i ≡ slice_get legs i
leg_kept change spares [] i h = refl
leg_kept change spares (leg ∷ legs) zero h = ap Some (one_leg_kept change spares leg.sub leg.place h)
leg_kept change spares (leg ∷ legs) (suc i) h = leg_kept change spares legs i h

-- the change keeps each settled leg
Keeps : (BatchPlace → BatchPlace) → ℕ → Type 0
Keeps change i = (numbers : List ℕ) (place : BatchPlace) → is_settled_leg (leg_at (Some (a_batch numbers place)) i) ≡ true → leg_at (Some (a_batch numbers (change place))) i ≡ leg_at (Some (a_batch numbers place)) i

on_legs_keeps : (change : SubNo → LegPlace → LegPlace) → Spares change → (i : ℕ) → Keeps (batch_on_legs change) i
unfolding Keeps
on_legs_keeps change spares i numbers (AtBatcher s) h = cc
on_legs_keeps change spares i numbers (Sent legs) h = leg_kept change spares legs i h
on_legs_keeps change spares i numbers (Dropped loss) h = cc

sent_keeps : (s : StageNo) (is_alone : Bool) (subs : List SubNo) (i : ℕ) → Keeps (batch_sent s is_alone subs) i
unfolding Keeps
sent_keeps s is_alone [] i numbers (AtBatcher t) h = cc
sent_keeps s is_alone [] i numbers (Sent legs) h = refl
sent_keeps s is_alone [] i numbers (Dropped loss) h = cc
sent_keeps s is_alone (u ∷ subs) i numbers (AtBatcher t) h = cc
sent_keeps s is_alone (u ∷ subs) i numbers (Sent legs) h = refl
sent_keeps s is_alone (u ∷ subs) i numbers (Dropped loss) h = cc

taken_spares : (s : StageNo) → Spares (leg_taken s)
taken_spares s = record { answered = λ u o. refl; lost = λ u l. refl }

answered_spares : (s : StageNo) (outcomes : List Outcome) → Spares (leg_answered s outcomes)
answered_spares s outcomes = record { answered = λ u o. refl; lost = λ u l. refl }

lost_spares : (set : KillSet) (incarnation : StageNo → ℕ) → Spares (λ u. leg_lost (reason_in set u.consumer) (incarnation u.consumer) u)
lost_spares set incarnation =
    record {
      answered = λ u o. by_answered (reason_in set u.consumer) (incarnation u.consumer) u o;
      lost = λ u l. by_lost (reason_in set u.consumer) (incarnation u.consumer) u l;
    }
  where
    by_answered : (why : Option Why) (i : ℕ) (u : SubNo) (o : List Outcome) → leg_lost why i u (Answered o) ≡ Answered o
    by_answered None i u o = refl
    by_answered (Some why) i u o = refl

    by_lost : (why : Option Why) (i : ℕ) (u : SubNo) (l : Loss) → leg_lost why i u (LegLost l) ≡ LegLost l
    by_lost None i u l = refl
    by_lost (Some why) i u l = refl

killed_keeps : (set : KillSet) (incarnation : StageNo → ℕ) (i : ℕ) → Keeps (batch_killed set incarnation) i
unfolding Keeps
killed_keeps set incarnation i numbers (AtBatcher s) h = cc
killed_keeps set incarnation i numbers (Sent legs) h = leg_kept _ (lost_spares set incarnation) legs i h
killed_keeps set incarnation i numbers (Dropped loss) h = cc

-- on a batch that may be missing
maybe_kept : (change : BatchPlace → BatchPlace) (i : ℕ) → Keeps change i → (old : Option Batch) → is_settled_leg (leg_at old i) ≡ true → leg_at (option_map (λ x. change_place x (change x.place)) old) i ≡ leg_at old i
unfolding Keeps
maybe_kept change i keeps None h = refl
maybe_kept change i keeps (Some x) h = keeps x.numbers x.place h

pub is_some_map : {A B : Type 0} (f : A → B) (o : Option A) → is_some (option_map f o) ≡ true → is_some o ≡ true
is_some_map f None h = h
is_some_map f (Some x) h = refl

-- a batch that stands has a number from 1, and was closed
pub batch_within : (topology : Topology) (before : History) (b : ℕ) → is_some (batch topology before b) ≡ true → (1 ≤ b) × (b ≤ closed before)
batch_within topology [] b h = (cc, cc)
batch_within topology (Close s first trigger ∷ before) b h =
    either (closing before (view_of topology before) s first.0) (b == closed before + 1) refl h (batch_within topology before b)
  where
    either : (numbers : List ℕ) (t : Bool) → (b == closed before + 1) ≡ t → is_some (new_batch t numbers s (batch topology before b)) ≡ true → (is_some (batch topology before b) ≡ true → (1 ≤ b) × (b ≤ closed before)) → (1 ≤ b) × (b ≤ closed before + 1)
    either numbers true e h rest = let is : b ≡ closed before + 1 = eqb-true b _ e in (omega arith, omega arith)
    either numbers false e h rest = let old = rest h in (old.0, omega (arith, old.1))
batch_within topology (Dispatch s ∷ before) b h = batch_within topology before b (is_some_map _ (batch topology before b) h)
batch_within topology (Take s u k ∷ before) b h =
    batch_within topology before b (either (among (next_units topology (view_of topology before) s u k) b) _ (batch topology before b) h)
  where
    either : (t : Bool) (f : Batch → Batch) (o : Option Batch) → is_some (if t then option_map f o else o) ≡ true → is_some o ≡ true
    either true f o h = is_some_map f o h
    either false f o h = h
batch_within topology (Wrote s bytes (Outcomes outcomes) ∷ before) b h = batch_within topology before b (is_some_map _ (batch topology before b) h)
batch_within topology (Kill s why ∷ before) b h = batch_within topology before b (is_some_map _ (batch topology before b) h)
batch_within topology (Halt ∷ before) b h = batch_within topology before b (is_some_map _ (batch topology before b) h)
batch_within topology (_ ∷ before) b h = batch_within topology before b h

pub batch_closed : (topology : Topology) (before : History) (b : ℕ) → is_some (batch topology before b) ≡ true → b ≤ closed before
batch_closed topology before b h = (batch_within topology before b h).1

settled_exists : (o : Option Batch) (i : ℕ) → is_settled_leg (leg_at o i) ≡ true → is_some o ≡ true
settled_exists None i h = h
settled_exists (Some x) i h = refl

leg_after : (topology : Topology) (before : History) (step : Step) (b i : ℕ) → is_settled_leg (leg_at (batch topology before b) i) ≡ true → leg_at (batch topology (step ∷ before) b) i ≡ leg_at (batch topology before b) i
leg_after topology before (Close s first trigger) b i h =
    either (closing before (view_of topology before) s first.0) (b == closed before + 1) refl (batch_closed topology before b (settled_exists (batch topology before b) i h))
  where
    either : (numbers : List ℕ) (t : Bool) → (b == closed before + 1) ≡ t → b ≤ closed before → leg_at (new_batch t numbers s (batch topology before b)) i ≡ leg_at (batch topology before b) i
    either numbers true e below = absurd (let is : b ≡ closed before + 1 = eqb-true b _ e in omega arith)
    either numbers false e below = refl
leg_after topology before (Dispatch s) b i h = maybe_kept _ i (sent_keeps s _ _ i) (batch topology before b) h
leg_after topology before (Take s u k) b i h =
    either (among (next_units topology (view_of topology before) s u k) b) (batch topology before b) h
  where
    either : (t : Bool) (o : Option Batch) → is_settled_leg (leg_at o i) ≡ true → leg_at (if t then option_map (λ x. change_place x (batch_on_legs (leg_taken s) x.place)) o else o) i ≡ leg_at o i
    either true o h = maybe_kept _ i (on_legs_keeps (leg_taken s) (taken_spares s) i) o h
    either false o h = refl
leg_after topology before (Wrote s bytes (Outcomes outcomes)) b i h =
    maybe_kept _ i (on_legs_keeps (leg_answered s outcomes) (answered_spares s outcomes) i) (batch topology before b) h
leg_after topology before (Kill s why) b i h = maybe_kept _ i (killed_keeps _ _ i) (batch topology before b) h
leg_after topology before Halt b i h = maybe_kept _ i (killed_keeps _ _ i) (batch topology before b) h
leg_after topology before _ b i h = refl

pub leg_stays_settled : (topology : Topology) (later before : History) (b i : ℕ) → LegStaysSettled topology later before b i
leg_stays_settled topology [] before b i h = refl
leg_stays_settled topology (step ∷ later) before b i h =
    let same : leg_at (batch topology (later ++ before) b) i ≡ leg_at (batch topology before b) i = leg_stays_settled topology later before b i h in
    leg_after topology (later ++ before) step b i (ap is_settled_leg same ∙ h) ∙ same
