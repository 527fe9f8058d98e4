-- What one more step adds to what was taken, counted and handled.
use Rattle.std.proofs.Common.{◌≡◌, ℕ, ◌+◌, List, [], ◌∷◌, length, take, ap, sym, ◌∙◌, refl, arith}
use Rattle.std.proofs.lemmas.Bool.Decides.{nat_tests}
use Rattle.std.specs.Prelude.{Bool, true, false, if◌then◌else◌, ◌&&◌, ◌||◌, Option, Some, None, option_map}
use Rattle.pipe_types.specs.declared.numbers.StageNo.{StageNo}
use Rattle.pipe_types.specs.declared.numbers.SubNo.{SubNo}
use Rattle.pipe_types.specs.declared.topology.Topology.{Topology}
use Rattle.pipe_types.specs.declared.topology.StageSpec.{StageSpec}
use Rattle.pipe_types.specs.declared.message.BatchEnd.{BatchEnd}
use Rattle.pipe_types.specs.declared.message.BatchEnd.TheVariants.{Outcomes, Crashed}
use Rattle.pipe_types.specs.declared.message.Place.{Place}
use Rattle.pipe_types.specs.declared.message.Place.TheVariants.{Inbox}
use Rattle.pipe_types.specs.declared.step.Step.{Step}
use Rattle.pipe_types.specs.declared.step.Step.TheVariants.{Take, Done, Gather, Wrote, ChildEnd, Restart}
use Rattle.pipe_types.specs.Numbers.{same_stage, same_sub}
use Rattle.pipe_types.specs.Stages.{spec_of}
use Rattle.pipe_types.specs.Handlers.{counted}
use Rattle.pipe_model.specs.History.{History}
use Rattle.pipe_model.specs.Posts.{last_take, in_slot}
use Rattle.pipe_model.specs.Content.{has_crash}
use Rattle.pipe_model.specs.Flow.{place, sent_to, inbox, units_on, is_number, runs_again, in_inbox_by}
use Rattle.pipe_model.specs.Ledger.{handled, handled_after, taken_on, came_on, crashed_reply, crashes_of}
use Rattle.pipe_model.specs.Work.{taken_units, count, batch_of}
use Rattle.pipe_laws.proofs.Tests.{same_stage-true, same_stage-self}
use Rattle.plain_works.specs.declared.works.TakeRow.{TakeRow}
use Rattle.plain_works.specs.declared.works.CountRow.{CountRow}
use Rattle.plain_works.specs.declared.works.HandledRow.{HandledRow}
use Rattle.plain_works.specs.declared.works.Works.{Works}
use Rattle.plain_works.specs.Works.{units_by, count_by, is_on, handled_by, WorksStand, led_by, taken_of, handling_of, step_takes, with_taken, after_batch, step_counts, with_count, of_take, of_inbox, subs_for, step_handles, with_handled}

-- Taken

take_more : (topology : Topology) (before : History) (step : Step) (s : StageNo) → taken_units topology (step ∷ before) s ≡ with_taken (step_takes topology before step) s (taken_units topology before s)
take_more topology before (Take t u k) s = by (same_stage s t) refl
  where
    by : (b : Bool) → same_stage s t ≡ b
        → (if b then take k (units_on u (inbox topology before s)) else taken_units topology before s) ≡ (if b then take k (units_on u (inbox topology before t)) else taken_units topology before s)
    by true is = ap (λ c. take k (units_on u (inbox topology before c))) (same_stage-true s t is)
    by false is = refl
take_more topology before _ s = refl

-- Counted

wrote_self : (topology : Topology) (before : History) (t : StageNo) (bytes : ℕ) (end : BatchEnd)
    → count topology (Wrote t bytes end ∷ before) t ≡ after_batch (spec_of topology t) (count topology before t) (batch_of topology before t)
wrote_self topology before t bytes end = by (spec_of topology t) refl
  where
    by : (o : Option StageSpec) → spec_of topology t ≡ o
        → count topology (Wrote t bytes end ∷ before) t ≡ after_batch (spec_of topology t) (count topology before t) (batch_of topology before t)
    by None is = rw (same_stage-self t, is) refl
    by (Some spec) is = rw (same_stage-self t, is) refl

count_more : (topology : Topology) (before : History) (step : Step) (s : StageNo) → count topology (step ∷ before) s ≡ with_count (step_counts topology before step) s (count topology before s)
count_more topology before (Restart t) s = refl
count_more topology before (Done t replies) s = by (same_stage s t) refl
  where
    by : (b : Bool) → same_stage s t ≡ b
        → (if b then counted (count topology before s) (length replies) else count topology before s) ≡ (if b then counted (count topology before t) (length replies) else count topology before s)
    by true is = ap (λ c. counted (count topology before c) (length replies)) (same_stage-true s t is)
    by false is = refl
count_more topology before (Wrote t bytes end) s = by (same_stage s t) refl (wrote_self topology before t bytes end)
  where
    by : (b : Bool) → same_stage s t ≡ b
        → count topology (Wrote t bytes end ∷ before) t ≡ after_batch (spec_of topology t) (count topology before t) (batch_of topology before t)
        → count topology (Wrote t bytes end ∷ before) s
        ≡ (if same_stage s t then after_batch (spec_of topology t) (count topology before t) (batch_of topology before t) else count topology before s)
    by true is self =
        ap (λ c. count topology (Wrote t bytes end ∷ before) c) (same_stage-true s t is)
        ∙ self
        ∙ ap (λ b. if b then after_batch (spec_of topology t) (count topology before t) (batch_of topology before t) else count topology before s) (sym is)
    by false is self = rw is refl
count_more topology before _ s = refl

-- Handled

same_sub_flips : (u v : SubNo) → same_sub u v ≡ same_sub v u
same_sub_flips u v = grind (arith, nat_tests)

on_one : (v u : SubNo) (old k : ℕ) → old + (if same_sub v u then k else 0) ≡ with_handled (Some (v ∷ [], k)) u old
on_one v u old k = by (same_sub v u)
  where
    by : (b : Bool) → old + (if b then k else 0) ≡ (if b || false then old + k else old)
    by true = refl
    by false = omega arith

take_is : (taken : Option (SubNo × ℕ)) (u : SubNo) (old : ℕ) → old + taken_on taken u ≡ with_handled (of_take taken) u old
take_is None u old = omega arith
take_is (Some taken) u old = on_one taken.0 u old taken.1

inbox_is : (place : Option Place) (u : SubNo) (old : ℕ) → (if in_inbox_by u place then old + 1 else old) ≡ with_handled (of_inbox place) u old
inbox_is (Some (Inbox v)) u old = ap (λ b. if b then old + 1 else old) (same_sub_flips u v) ∙ by (same_sub v u)
  where
    by : (b : Bool) → (if b then old + 1 else old) ≡ (if b || false then old + 1 else old)
    by true = refl
    by false = refl
inbox_is _ u old = refl

came_is : (units : List (SubNo × ℕ)) (m : Option ℕ) (u : SubNo) → came_on units m u ≡ is_on (subs_for units m) u
came_is [] m u = refl
came_is (d ∷ units) m u = by (is_number m d.1) (came_is units m u)
  where
    by : (b : Bool) → came_on units m u ≡ is_on (subs_for units m) u → ((b && same_sub d.0 u) || came_on units m u) ≡ is_on (if b then d.0 ∷ subs_for units m else subs_for units m) u
    by true rest = ap (λ c. same_sub d.0 u || c) rest
    by false rest = rest

handled_more : (topology : Topology) (before : History) (step : Step) (u : SubNo) (old : ℕ) → handled_after topology before step u old ≡ with_handled (step_handles topology before step) u old
handled_more topology before (Done s replies) u old = by (has_crash replies) (take_is (last_take before s) u old)
  where
    by : (b : Bool) → old + taken_on (last_take before s) u ≡ with_handled (of_take (last_take before s)) u old
        → (if b then old else old + taken_on (last_take before s) u) ≡ with_handled (if b then None else of_take (last_take before s)) u old
    by true is = refl
    by false is = is
handled_more topology before (Wrote s bytes (Outcomes outcomes)) u old = take_is (last_take before s) u old
handled_more topology before (Wrote s bytes Crashed) u old = refl
handled_more topology before (Gather s m) u old = inbox_is (place topology before m.0) u old
handled_more topology before (ChildEnd s slot reply) u old =
    by (crashed_reply reply && runs_again (spec_of topology s) (crashes_of before (in_slot before s slot))) (came_is (sent_to topology before s) (in_slot before s slot) u)
  where
    by : (b : Bool) → came_on (sent_to topology before s) (in_slot before s slot) u ≡ is_on (subs_for (sent_to topology before s) (in_slot before s slot)) u
        → (if b then old else (if came_on (sent_to topology before s) (in_slot before s slot) u then old + 1 else old))
        ≡ with_handled (if b then None else Some (subs_for (sent_to topology before s) (in_slot before s slot), 1)) u old
    by true is = refl
    by false is = ap (λ c. if c then old + 1 else old) is
handled_more topology before _ u old = refl

-- what one more row changes
pub takes_led : (row : Option TakeRow) (rows : List TakeRow) (s : StageNo) → units_by (led_by row rows) s ≡ with_taken (option_map taken_of row) s (units_by rows s)
takes_led None rows s = refl
takes_led (Some row) rows s = refl

pub counts_led : (row : Option CountRow) (rows : List CountRow) (s : StageNo) → count_by (led_by row rows) s ≡ with_count row s (count_by rows s)
counts_led None rows s = refl
counts_led (Some row) rows s = refl

pub handled_led : (row : Option HandledRow) (rows : List HandledRow) (u : SubNo) → handled_by (led_by row rows) u ≡ with_handled (option_map handling_of row) u (handled_by rows u)
handled_led None rows u = refl
handled_led (Some row) rows u = refl

-- the works after one more step
pub stand_next : (topology : Topology) (before : History) (step : Step) (works after : Works)
    → ((s : StageNo) → units_by after.takes.items s ≡ with_taken (step_takes topology before step) s (units_by works.takes.items s))
    → ((s : StageNo) → count_by after.counts.items s ≡ with_count (step_counts topology before step) s (count_by works.counts.items s))
    → ((u : SubNo) → handled_by after.handled.items u ≡ with_handled (step_handles topology before step) u (handled_by works.handled.items u))
    → WorksStand topology before works → WorksStand topology (step ∷ before) after
stand_next topology before step works after takes counts handles stand =
    record {
      taken = λ s. takes s ∙ ap (λ old. with_taken (step_takes topology before step) s old) (stand.taken s) ∙ sym (take_more topology before step s);
      counts = λ s. counts s ∙ ap (λ old. with_count (step_counts topology before step) s old) (stand.counts s) ∙ sym (count_more topology before step s);
      handles = λ u.
          handles u
          ∙ ap (λ old. with_handled (step_handles topology before step) u old) (stand.handles u)
          ∙ sym (handled_more topology before step u (handled topology before u));
    }
