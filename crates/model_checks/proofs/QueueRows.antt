-- What each step leaves in the queues, on worked journals.
use Rattle.std.proofs.Common.{◌≡◌, refl}
use Rattle.std.specs.Prelude.{ℕ, true, false, List, [], ◌∷◌, map, length, codes, take, Some}
use Rattle.pipe_types.specs.declared.topology.Topology.{Topology}
use Rattle.pipe_types.specs.declared.step.Step.{Step}
use Rattle.pipe_types.specs.declared.step.Step.TheVariants.{Ask, Fetch, Accept, Dispatch, Kill}
use Rattle.pipe_types.specs.declared.topology.CancelMode.TheVariants.{Temporary, Permanent}
use Rattle.pipe_types.specs.declared.message.Why.TheVariants.{Kill as ByKill, Crash as ByCrash}
use Rattle.pipe_types.specs.Numbers.{stage}
use Rattle.pipe_model.specs.History.{History, history}
use Rattle.pipe_model.specs.Flow.{waiting, inbox, sent, batch, units_on, numbers_in}
use Rattle.pipe_model.specs.Ledger.{handled}
use Rattle.pipe_model.specs.Work.{taken_units}
use Rattle.pipe_model.specs.Standing.{running, gathered_in, at_work, working_on, is_clear, all_clear, is_clear_above}
use Rattle.model_checks.proofs.Base.{producer, processor, with_stages, sub, supervised}
use Rattle.model_checks.proofs.Broadcast.{both, until_taken}
use Rattle.model_checks.proofs.Children.{four_runs}
use Rattle.model_checks.proofs.Flows.{cascading, three_deep}

-- the journal of the first n of these steps
abbrev first : ℕ → List Step → History
first n steps = history (take n steps)

-- A batch on two legs, from the records on

records_wait : map (λ n. waiting both (first n until_taken) (stage 1)) (5 ∷ 6 ∷ 7 ∷ []) ≡ [] ∷ (1 ∷ 2 ∷ []) ∷ [] ∷ []
records_wait = refl

stand_in_the_inbox : map (λ n. inbox both (first n until_taken) (stage 2)) (7 ∷ 8 ∷ []) ≡ ((sub 2 1 1, 1) ∷ (sub 2 1 1, 2) ∷ []) ∷ [] ∷ []
stand_in_the_inbox = refl

run_as_taken : map (λ n. running both (first n until_taken) (stage 2)) (7 ∷ 8 ∷ 9 ∷ []) ≡ [] ∷ (1 ∷ 2 ∷ []) ∷ [] ∷ []
run_as_taken = refl

wait_again : map (λ n. waiting both (first n until_taken) (stage 2)) (9 ∷ 10 ∷ []) ≡ (1 ∷ 2 ∷ []) ∷ [] ∷ []
wait_again = refl

are_gathered : map (λ n. gathered_in both (first n until_taken) (stage 3)) (10 ∷ 11 ∷ 12 ∷ 13 ∷ []) ≡ [] ∷ (1 ∷ []) ∷ (1 ∷ 2 ∷ []) ∷ [] ∷ []
are_gathered = refl

leave_the_inbox : map (λ n. inbox both (first n until_taken) (stage 3)) (10 ∷ 11 ∷ 12 ∷ [])
    ≡ ((sub 3 2 1, 1) ∷ (sub 3 2 1, 2) ∷ []) ∷ ((sub 3 2 1, 2) ∷ []) ∷ [] ∷ []
leave_the_inbox = refl

batch_waits : map (λ n. waiting both (first n until_taken) (stage 3)) (13 ∷ 14 ∷ []) ≡ (1 ∷ []) ∷ [] ∷ []
batch_waits = refl

-- the batch stands in both inboxes, and each writer works on it once it took it
on_two_legs : map (λ c. inbox both (first 14 until_taken) (stage c)) (4 ∷ 5 ∷ []) ≡ ((sub 4 3 1, 1) ∷ []) ∷ ((sub 5 3 1, 1) ∷ []) ∷ []
on_two_legs = refl

first_works : map (λ c. at_work both (first 15 until_taken) (stage c)) (4 ∷ 5 ∷ []) ≡ ((sub 4 3 1, 1) ∷ []) ∷ [] ∷ []
first_works = refl

works_as_taken : map (λ n. taken_units both (first n until_taken) (stage 5)) (15 ∷ 16 ∷ []) ≡ [] ∷ (1 ∷ []) ∷ []
works_as_taken = refl

-- what was sent is handled, in the inbox, or at work
ledger : map
    (λ n. sent both (first n until_taken) (sub 4 3 1) ∷ handled both (first n until_taken) (sub 4 3 1)
    ∷ length (units_on (sub 4 3 1) (inbox both (first n until_taken) (stage 4))) ∷ length (working_on both (first n until_taken) (sub 4 3 1)) ∷ [])
    (13 ∷ 14 ∷ 15 ∷ [])
    ≡ (0 ∷ 0 ∷ 0 ∷ 0 ∷ []) ∷ (1 ∷ 0 ∷ 1 ∷ 0 ∷ []) ∷ (1 ∷ 0 ∷ 0 ∷ 1 ∷ []) ∷ []
ledger = refl

-- after the batch is on its legs nothing is left above the writers
clear_but_writers : map (λ s. is_clear both (first 16 until_taken) (stage s)) (1 ∷ 2 ∷ 3 ∷ 4 ∷ 5 ∷ []) ≡ true ∷ true ∷ true ∷ false ∷ false ∷ []
clear_but_writers = refl

clear_above : map (λ n. is_clear_above both (first n until_taken) (stage 3)) (9 ∷ 11 ∷ 12 ∷ []) ≡ false ∷ false ∷ true ∷ []
clear_above = refl

-- a batch keeps its numbers
keeps_numbers : map (λ n. numbers_in (batch both (first n until_taken) 1)) (13 ∷ 16 ∷ []) ≡ (1 ∷ 2 ∷ []) ∷ (1 ∷ 2 ∷ []) ∷ []
keeps_numbers = refl

-- A kill and its cascade

-- with the batcher killed nothing is left in it, and its batch processor is killed with it only where the mode says so
cascade_clears_both : map (λ s. is_clear (cascading Permanent) (Kill (stage 3) ByCrash ∷ history three_deep) (stage s)) (3 ∷ 4 ∷ []) ≡ true ∷ true ∷ []
cascade_clears_both = refl

kill_clears_one : map (λ s. is_clear (cascading Temporary) (Kill (stage 3) ByCrash ∷ history three_deep) (stage s)) (3 ∷ 4 ∷ []) ≡ true ∷ false ∷ []
kill_clears_one = refl

stood_deep : map (λ s. waiting (cascading Permanent) (history three_deep) (stage s)) (3 ∷ 4 ∷ []) ≡ (2 ∷ []) ∷ [] ∷ []
stood_deep = refl

killed_batcher : gathered_in both (Kill (stage 3) ByKill ∷ first 12 until_taken) (stage 3) ≡ []
killed_batcher = refl

killed_writer : map (λ c. at_work both (Kill (stage 5) ByKill ∷ first 16 until_taken) (stage c)) (4 ∷ 5 ∷ []) ≡ ((sub 4 3 1, 1) ∷ []) ∷ [] ∷ []
killed_writer = refl

-- A supervisor's children

child_takes_its_unit : map (λ n. inbox supervised (first n four_runs) (stage 2)) (4 ∷ 5 ∷ 6 ∷ []) ≡ ((sub 2 1 1, 1) ∷ (sub 2 1 1, 2) ∷ []) ∷ ((sub 2 1 1, 2) ∷ []) ∷ [] ∷ []
child_takes_its_unit = refl

-- a message that runs again stands there until its last crash
runs_until_the_last : map (λ n. running supervised (first n four_runs) (stage 2)) (6 ∷ 7 ∷ 8 ∷ 10 ∷ 15 ∷ []) ≡ (1 ∷ 2 ∷ []) ∷ (1 ∷ 2 ∷ []) ∷ (2 ∷ []) ∷ (2 ∷ []) ∷ [] ∷ []
runs_until_the_last = refl

all_clear_at_the_end : map (λ n. all_clear supervised (first n four_runs)) (14 ∷ 15 ∷ []) ≡ false ∷ true ∷ []
all_clear_at_the_end = refl

-- An overflow

-- a producer that keeps the last two
abbrev short : Topology
short = with_stages (record (producer 1 (codes "p") 0) { size = Some 2 } ∷ processor 2 (codes "processors.0") 0 [] ∷ [])

abbrev four_records : List Step
four_records = Fetch (stage 1) 10 ∷ Accept (stage 1) (codes "a" ∷ codes "b" ∷ codes "c" ∷ codes "d" ∷ []) ∷ Dispatch (stage 1) ∷ []

-- what is over the size leaves the queue
last_two_stay : map (λ n. waiting short (first n four_records) (stage 1)) (2 ∷ 3 ∷ []) ≡ (1 ∷ 2 ∷ 3 ∷ 4 ∷ []) ∷ (3 ∷ 4 ∷ []) ∷ []
last_two_stay = refl

-- Demand

-- three of four go where three were asked for, and the last waits
abbrev three_asked : List Step
three_asked = Ask (sub 2 1 1) 3 ∷ four_records

one_is_left : waiting short (history three_asked) (stage 1) ≡ 4 ∷ []
one_is_left = refl

three_are_sent : map (λ d. d.1) (inbox short (history three_asked) (stage 2)) ≡ 1 ∷ 2 ∷ 3 ∷ []
three_are_sent = refl
