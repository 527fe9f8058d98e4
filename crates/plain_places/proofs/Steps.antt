-- What a step does to one place and to one batch is what its change does.
use Rattle.std.proofs.Common.{◌≡◌, ℕ, Bool, true, false, Option, Some, None, refl, ap, sym}
use Rattle.std.specs.Prelude.{if◌then◌else◌, ◌==◌, ◌&&◌, option_map}
use Rattle.std.proofs.lemmas.Bool.{eqb-true}
use Rattle.pipe_types.specs.declared.numbers.StageNo.{StageNo}
use Rattle.pipe_types.specs.declared.topology.Topology.{Topology}
use Rattle.pipe_types.specs.declared.message.BatchEnd.TheVariants.{Outcomes}
use Rattle.pipe_types.specs.declared.message.Reply.{Reply}
use Rattle.pipe_types.specs.declared.message.Place.{Place}
use Rattle.pipe_types.specs.declared.message.Place.TheVariants.{Running}
use Rattle.pipe_types.specs.declared.step.Step.{Step}
use Rattle.pipe_types.specs.declared.step.Step.TheVariants.{Accept, Dispatch, Take, Done, Gather, Close, Wrote, Child, ChildEnd, Kill, Late, Halt}
use Rattle.pipe_types.specs.declared.step.LateAnswer.TheVariants.{Records}
use Rattle.pipe_types.specs.Numbers.{same_stage}
use Rattle.pipe_types.specs.Stages.{spec_of}
use Rattle.pipe_model.specs.History.{History, incarnation, accepted, accepted_after, closed, closed_after}
use Rattle.pipe_model.specs.Posts.{in_slot, crashes}
use Rattle.pipe_model.specs.Content.{has_crash}
use Rattle.pipe_model.specs.Batches as model
use Rattle.pipe_model.specs.Flow.{View, place_after, batch_after, child_ended, child_place, runs_again, done, has_batchers_in, chunk_by, among, next_units, change_place}
use Rattle.plain_places.specs.Moves.{Kept, Answered, again_in, moved_by, place_change, place_changed, count_changed, batch_change, batch_changed, closed_changed}

kept : (o : Option Place) → o ≡ option_map (λ p. p) o
kept None = refl
kept (Some p) = refl

child_alike : (topology : Topology) (before : History) (s : StageNo) (ended : Option ℕ) (i : ℕ) (reply : Reply) (n : ℕ) (p : Place)
    → child_ended (runs_again (spec_of topology s) (crashes before n)) ended s i reply n p ≡ child_ended (again_in topology before s ended) ended s i reply n p
child_alike topology before s None i reply n (Running t) = by (same_stage s t)
  where
    by : (b : Bool)
        → (if b && false then child_place (runs_again (spec_of topology s) (crashes before n)) s i reply else Running t) ≡ (if b && false then child_place false s i reply else Running t)
    by true = refl
    by false = refl
child_alike topology before s (Some m) i reply n (Running t) = by (same_stage s t) (m == n) (λ e. ap (λ k. runs_again (spec_of topology s) (crashes before k)) (sym (eqb-true m n e)))
  where
    by : (b e : Bool) → (e ≡ true → runs_again (spec_of topology s) (crashes before n) ≡ runs_again (spec_of topology s) (crashes before m))
        → (if b && e then child_place (runs_again (spec_of topology s) (crashes before n)) s i reply else Running t)
        ≡ (if b && e then child_place (runs_again (spec_of topology s) (crashes before m)) s i reply else Running t)
    by true true same = ap (λ again. child_place again s i reply) (same refl)
    by true false same = refl
    by false e same = refl
child_alike topology before s None i reply n p = refl
child_alike topology before s (Some m) i reply n p = refl

option_alike : (f g : Place → Place) → ((p : Place) → f p ≡ g p) → (o : Option Place) → option_map f o ≡ option_map g o
option_alike f g same None = refl
option_alike f g same (Some p) = ap Some (same p)

pub place_step : (topology : Topology) (before : History) (view : View) (step : Step) (n : ℕ)
    → place_after topology before view step n ≡ place_changed before (place_change topology before view step) n (view.place n)
place_step topology before view (Accept s records) n = refl
place_step topology before view (Late s slot i (Records records)) n = refl
place_step topology before view (Dispatch s) n = refl
place_step topology before view (Take s u k) n = refl
place_step topology before view (Done s replies) n = by (has_crash replies)
  where
    by : (b : Bool)
        → (if b then view.place n else option_map (done (has_batchers_in (spec_of topology s)) (chunk_by view s) replies s n) (view.place n))
        ≡ option_map (moved_by before (if b then Kept else Answered (has_batchers_in (spec_of topology s)) (chunk_by view s) replies s) n) (view.place n)
    by true = kept (view.place n)
    by false = refl
place_step topology before view (Gather s m) n = refl
place_step topology before view (Close s first trigger) n = refl
place_step topology before view (Wrote s bytes end) n = refl
place_step topology before view (Child s m slot) n = refl
place_step topology before view (ChildEnd s slot reply) n =
    option_alike
    (child_ended (runs_again (spec_of topology s) (crashes before n)) (in_slot before s slot) s (incarnation before s) reply n)
    (child_ended (again_in topology before s (in_slot before s slot)) (in_slot before s slot) s (incarnation before s) reply n)
    (child_alike topology before s (in_slot before s slot) (incarnation before s) reply n)
    (view.place n)
place_step topology before view (Kill s why) n = refl
place_step topology before view Halt n = refl
place_step topology before view step n = kept (view.place n)

pub accepted_step : (topology : Topology) (before : History) (view : View) (step : Step) → accepted_after step (accepted before) ≡ count_changed (place_change topology before view step) (accepted before)
accepted_step topology before view (Accept s records) = refl
accepted_step topology before view (Late s slot i (Records records)) = refl
accepted_step topology before view step = refl

stays : (o : Option model.Batch) → o ≡ option_map (λ x. change_place x x.place) o
stays None = refl
stays (Some x) = refl

pub batch_step : (topology : Topology) (before : History) (view : View) (step : Step) (b : ℕ)
    → batch_after topology before view step b ≡ batch_changed before (batch_change topology before view step) b (view.batch b)
batch_step topology before view (Close s first trigger) b = refl
batch_step topology before view (Dispatch s) b = refl
batch_step topology before view (Take s u k) b = by (among (next_units topology view s u k) b) (view.batch b)
  where
    by : (yes : Bool) (o : Option model.Batch)
        → (if yes then option_map (λ x. change_place x (model.batch_on_legs (model.leg_taken s) x.place)) o else o)
        ≡ option_map (λ x. change_place x (if yes then model.batch_on_legs (model.leg_taken s) x.place else x.place)) o
    by true o = refl
    by false o = stays o
batch_step topology before view (Wrote s bytes (Outcomes outcomes)) b = refl
batch_step topology before view (Kill s why) b = refl
batch_step topology before view Halt b = refl
batch_step topology before view step b = stays (view.batch b)

pub closed_step : (topology : Topology) (before : History) (view : View) (step : Step) → closed_after step (closed before) ≡ closed_changed (batch_change topology before view step) (closed before)
closed_step topology before view (Close s first trigger) = refl
closed_step topology before view (Wrote s bytes (Outcomes outcomes)) = refl
closed_step topology before view step = refl
