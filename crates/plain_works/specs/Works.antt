-- What was taken, handled and counted, as rows, the newest first.
use Rattle.std.specs.Prelude.{◌≡◌, ℕ, ◌+◌, Bool, false, if◌then◌else◌, List, [], ◌∷◌, length, take, ◌&&◌, ◌||◌, Option, Some, None}
use Rattle.pipe_types.specs.declared.numbers.StageNo.{StageNo}
use Rattle.pipe_types.specs.declared.numbers.SubNo.{SubNo}
use Rattle.pipe_types.specs.declared.topology.Topology.{Topology}
use Rattle.pipe_types.specs.declared.topology.StageSpec.{StageSpec}
use Rattle.pipe_types.specs.declared.message.Message.{Message}
use Rattle.pipe_types.specs.declared.message.BatchEnd.TheVariants.{Outcomes}
use Rattle.pipe_types.specs.declared.message.Place.{Place}
use Rattle.pipe_types.specs.declared.message.Place.TheVariants.{Inbox}
use Rattle.pipe_types.specs.declared.step.Step.{Step}
use Rattle.pipe_types.specs.declared.step.Step.TheVariants.{Take, Done, Gather, Wrote, ChildEnd, Restart}
use Rattle.pipe_types.specs.Numbers.{same_stage, same_sub}
use Rattle.pipe_types.specs.Stages.{spec_of}
use Rattle.pipe_types.specs.Handlers.{counted, count_after_batch}
use Rattle.pipe_model.specs.History.{History}
use Rattle.pipe_model.specs.Posts.{last_take, in_slot}
use Rattle.pipe_model.specs.Content.{has_crash}
use Rattle.pipe_model.specs.Flow.{place, sent_to, inbox, units_on, is_number, runs_again}
use Rattle.pipe_model.specs.Ledger.{handled, crashed_reply, crashes_of}
use Rattle.pipe_model.specs.Work.{taken_units, count, batch_of}
use Rattle.plain_works.specs.declared.works.TakeRow.{TakeRow}
use Rattle.plain_works.specs.declared.works.CountRow.{CountRow}
use Rattle.plain_works.specs.declared.works.HandledRow.{HandledRow}
use Rattle.plain_works.specs.declared.works.Works.{Works}

-- Rows

-- the units of the stage's newest row
abbrev pub units_by : List TakeRow → StageNo → List ℕ
units_by [] s = []
units_by (row ∷ rows) s = if same_stage s row.stage then row.units.items else units_by rows s

abbrev pub units_in : Option TakeRow → List ℕ
units_in None = []
units_in (Some row) = row.units.items

-- the count of the stage's newest row
abbrev pub count_by : List CountRow → StageNo → ℕ
count_by [] s = 0
count_by (row ∷ rows) s = if same_stage s row.stage then row.count else count_by rows s

-- the subscription is one of these
abbrev pub is_on : List SubNo → SubNo → Bool
is_on [] u = false
is_on (v ∷ subs) u = same_sub v u || is_on subs u

-- the units of the rows that count on the subscription
abbrev pub handled_by : List HandledRow → SubNo → ℕ
handled_by [] u = 0
handled_by (row ∷ rows) u = if is_on row.subs.items u then handled_by rows u + row.units else handled_by rows u

-- these are the works of the history
pub record WorksStand (topology : Topology) (before : History) (works : Works) : Type 0 where
  pub taken : (s : StageNo) → units_by works.takes.items s ≡ taken_units topology before s
  pub counts : (s : StageNo) → count_by works.counts.items s ≡ count topology before s
  pub handles : (u : SubNo) → handled_by works.handled.items u ≡ handled topology before u

-- What a step adds

-- the rows, and in front of them one more, where there is one
abbrev pub led_by : {A : Type 0} → Option A → List A → List A
led_by None rows = rows
led_by (Some row) rows = row ∷ rows

-- a stage and the units that it takes
abbrev pub Taken : Type 0
Taken = StageNo × List ℕ

abbrev pub taken_of : TakeRow → Taken
taken_of row = (row.stage, row.units.items)

-- the units that a take of the stage takes
abbrev pub step_takes : Topology → History → Step → Option Taken
step_takes topology before (Take t u k) = Some (t, take k (units_on u (inbox topology before t)))
step_takes topology before _ = None

abbrev pub with_taken : Option Taken → StageNo → List ℕ → List ℕ
with_taken None s old = old
with_taken (Some taken) s old = if same_stage s taken.0 then taken.1 else old

-- the count after these messages of a stage that may be missing
abbrev pub after_batch : Option StageSpec → (old : ℕ) → List Message → ℕ
after_batch None old messages = old
after_batch (Some spec) old messages = count_after_batch spec old messages

-- the new count of the stage that the step is of
abbrev pub step_counts : Topology → History → Step → Option CountRow
step_counts topology before (Restart t) = Some (record { stage = t; count = 0 })
step_counts topology before (Done t replies) = Some (record { stage = t; count = counted (count topology before t) (length replies) })
step_counts topology before (Wrote t bytes end) =
    Some (record { stage = t; count = after_batch (spec_of topology t) (count topology before t) (batch_of topology before t) })
step_counts topology before _ = None

abbrev pub with_count : Option CountRow → StageNo → ℕ → ℕ
with_count None s old = old
with_count (Some row) s old = if same_stage s row.stage then row.count else old

-- subscriptions, and how many units were handled on each of them
abbrev pub Handling : Type 0
Handling = List SubNo × ℕ

abbrev pub handling_of : HandledRow → Handling
handling_of row = (row.subs.items, row.units)

abbrev pub of_take : Option (SubNo × ℕ) → Option Handling
of_take None = None
of_take (Some taken) = Some (taken.0 ∷ [], taken.1)

abbrev pub of_inbox : Option Place → Option Handling
of_inbox (Some (Inbox u)) = Some (u ∷ [], 1)
of_inbox _ = None

-- the subscriptions on which the message was sent
abbrev pub subs_for : List (SubNo × ℕ) → Option ℕ → List SubNo
subs_for [] m = []
subs_for (d ∷ units) m = if is_number m d.1 then d.0 ∷ subs_for units m else subs_for units m

-- the units that the step handles
abbrev pub step_handles : Topology → History → Step → Option Handling
step_handles topology before (Done s replies) = if has_crash replies then None else of_take (last_take before s)
step_handles topology before (Wrote s bytes (Outcomes outcomes)) = of_take (last_take before s)
step_handles topology before (Gather s m) = of_inbox (place topology before m.0)
step_handles topology before (ChildEnd s slot reply) =
    if crashed_reply reply && runs_again (spec_of topology s) (crashes_of before (in_slot before s slot))
    then None
    else Some (subs_for (sent_to topology before s) (in_slot before s slot), 1)
step_handles topology before _ = None

abbrev pub with_handled : Option Handling → SubNo → ℕ → ℕ
with_handled None u old = old
with_handled (Some handling) u old = if is_on handling.0 u then old + handling.1 else old
