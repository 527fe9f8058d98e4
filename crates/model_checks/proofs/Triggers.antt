-- What closes a batch.
use Rattle.std.proofs.Common.{◌≡◌, refl}
use Rattle.std.specs.Prelude.{true, List, [], ◌∷◌, ◌++◌, map, codes, replicate}
use Rattle.pipe_types.specs.declared.topology.Topology.{Topology}
use Rattle.pipe_types.specs.declared.topology.Rule.TheVariants.{Key, Flush as FlushRule}
use Rattle.pipe_types.specs.declared.message.Reply.TheVariants.{Pass}
use Rattle.pipe_types.specs.declared.message.Outcome.TheVariants.{Successful}
use Rattle.pipe_types.specs.declared.message.BatchEnd.TheVariants.{Outcomes}
use Rattle.pipe_types.specs.declared.message.Trigger.TheVariants.{Size, Flush, Timeout}
use Rattle.pipe_types.specs.declared.message.Why.TheVariants.{Kill as ByKill}
use Rattle.pipe_types.specs.declared.step.Step.{Step}
use Rattle.pipe_types.specs.declared.step.Step.TheVariants.{Ask, Fetch, Accept, Dispatch, Take, Done, Gather, Close, Wrote, Kill, Tick, Drain}
use Rattle.pipe_types.specs.declared.step.DrainCause.TheVariants.{Control}
use Rattle.pipe_types.specs.Numbers.{stage, message_no}
use Rattle.pipe_model.specs.History.{history}
use Rattle.pipe_model.specs.Moves.{StepMove, Job, move}
use Rattle.model_checks.proofs.Base.{may_come_after, is_refused_after, producer, processor, with_stages, sub, msg, keyed, feeding, batcher, batch_processor, by_key, two_batchers, one_batcher}

-- Timeout

-- one message is gathered at 100
abbrev gathered_at_100 : List Step
gathered_at_100 =
    Tick 100 ∷ Ask (sub 2 1 1) 10 ∷ Ask (sub 3 2 1) 3 ∷ Ask (sub 4 3 1) 1 ∷ Fetch (stage 1) 10 ∷ Accept (stage 1) (codes "x" ∷ [])
    ∷ Dispatch (stage 1)
    ∷ Take (stage 2) (sub 2 1 1) 1 ∷ Done (stage 2) (Pass (keyed 1 (codes "x")) ∷ []) ∷ Dispatch (stage 2) ∷ Gather (stage 3) (message_no 1)
    ∷ []

-- at 1099 it does not close yet, and at 1100 it does
too_early : is_refused_after by_key (gathered_at_100 ++ Tick 1099 ∷ []) (Close (stage 3) (message_no 1) Timeout) ≡ true
too_early = refl

in_time : may_come_after by_key (gathered_at_100 ++ Tick 1100 ∷ []) (Close (stage 3) (message_no 1) Timeout) ≡ true
in_time = refl

moves_in_time : map (λ t. move by_key (history (gathered_at_100 ++ Tick t ∷ []))) (1099 ∷ 1100 ∷ []) ≡ Job (stage 1)
    ∷ StepMove (Close (stage 3) (message_no 1) Timeout) ∷ []
moves_in_time = refl

-- Flush

-- a message in flush mode closes its batch, though the batch is short
abbrev flushing : Topology
flushing = one_batcher (FlushRule (codes "!") ∷ [])

abbrev flush_mode : List Step
flush_mode =
    Ask (sub 2 1 1) 10 ∷ Ask (sub 3 2 1) 3 ∷ Ask (sub 4 3 1) 1 ∷ Fetch (stage 1) 10
    ∷ Accept (stage 1) (codes "x" ∷ codes "!" ∷ codes "y" ∷ []) ∷ Dispatch (stage 1)
    ∷ Take (stage 2) (sub 2 1 1) 3
    ∷ Done (stage 2) (Pass (msg 1 (codes "x")) ∷ Pass (record (msg 2 (codes "!")) { flush = true }) ∷ Pass (msg 3 (codes "y")) ∷ [])
    ∷ Dispatch (stage 2) ∷ Gather (stage 3) (message_no 1) ∷ Gather (stage 3) (message_no 2) ∷ []

closes_by_flush : may_come_after flushing flush_mode (Close (stage 3) (message_no 1) Flush) ≡ true
closes_by_flush = refl

-- nothing joins a batch behind a message in flush mode, until it has closed
nothing_joins : is_refused_after flushing flush_mode (Gather (stage 3) (message_no 3)) ≡ true
nothing_joins = refl

abbrev flushed : List Step
flushed =
    flush_mode ++ Close (stage 3) (message_no 1) Flush ∷ Dispatch (stage 3) ∷ Take (stage 4) (sub 4 3 1) 1
    ∷ Wrote (stage 4) 4 (Outcomes (Successful ∷ Successful ∷ [])) ∷ Ask (sub 4 3 1) 1 ∷ []

begins_a_new_one : may_come_after flushing flushed (Gather (stage 3) (message_no 3)) ≡ true
begins_a_new_one = refl

-- at the drain a batch closes once nothing more can come to its batcher
abbrev draining : List Step
draining = gathered_at_100 ++ Drain Control ∷ []

closes_when_dry : may_come_after by_key draining (Close (stage 3) (message_no 1) Flush) ≡ true
closes_when_dry = refl

-- not while a fetch is out
not_while_fetching : is_refused_after by_key (gathered_at_100 ++ Fetch (stage 1) 9 ∷ Drain Control ∷ [])
    (Close (stage 3) (message_no 1) Flush) ≡ true
not_while_fetching = refl

-- not while the fetch of a killed producer is out
not_while_late : is_refused_after by_key (gathered_at_100 ++ Fetch (stage 1) 9 ∷ Kill (stage 1) ByKill ∷ Drain Control ∷ [])
    (Close (stage 3) (message_no 1) Flush) ≡ true
not_while_late = refl

-- not while a message stands in the inbox of the processor, runs there, waits there, or stands in the inbox of the batcher
abbrev another_line : List Step
another_line = gathered_at_100 ++ Fetch (stage 1) 9 ∷ Accept (stage 1) (codes "y" ∷ []) ∷ Dispatch (stage 1) ∷ Drain Control ∷ []

not_while_in_an_inbox : is_refused_after by_key another_line (Close (stage 3) (message_no 1) Flush) ≡ true
not_while_in_an_inbox = refl

not_while_running : is_refused_after by_key (another_line ++ Take (stage 2) (sub 2 1 1) 1 ∷ []) (Close (stage 3) (message_no 1) Flush)
    ≡ true
not_while_running = refl

not_while_waiting : is_refused_after by_key (another_line ++ Take (stage 2) (sub 2 1 1) 1 ∷ Done (stage 2) (Pass (keyed 2 (codes "y")) ∷ [])
    ∷ []) (Close (stage 3) (message_no 1) Flush) ≡ true
not_while_waiting = refl

not_while_to_be_gathered : is_refused_after by_key (another_line ++ Take (stage 2) (sub 2 1 1) 1
    ∷ Done (stage 2) (Pass (keyed 2 (codes "y")) ∷ []) ∷ Dispatch (stage 2) ∷ []) (Close (stage 3) (message_no 1) Flush) ≡ true
not_while_to_be_gathered = refl

-- not while a message waits in a producer
abbrev pushing : Topology
pushing =
    with_stages
    (record (producer 1 (codes "p") 0) { push = true } ∷ record
    (feeding 1 (processor 2 (codes "processors.0") 0 (Key 0 ∷ []))) { min = 0; max = 1 }
    ∷ batcher 3 (codes "b") 0 ∷ batch_processor 4 (codes "b.0") 0 0 ∷ [])

abbrev one_left_behind : List Step
one_left_behind =
    Ask (sub 2 1 1) 1 ∷ Ask (sub 3 2 1) 3 ∷ Ask (sub 4 3 1) 1 ∷ Fetch (stage 1) 1000 ∷ Accept (stage 1) (codes "x" ∷ codes "y" ∷ [])
    ∷ Dispatch (stage 1)
    ∷ Take (stage 2) (sub 2 1 1) 1 ∷ Done (stage 2) (Pass (keyed 1 (codes "x")) ∷ []) ∷ Dispatch (stage 2) ∷ Gather (stage 3) (message_no 1)
    ∷ Drain Control ∷ []

not_while_in_a_producer : is_refused_after pushing one_left_behind (Close (stage 3) (message_no 1) Flush) ≡ true
not_while_in_a_producer = refl

-- what was lost does not count
closes_after_a_loss : may_come_after pushing (one_left_behind ++ Kill (stage 1) ByKill ∷ []) (Close (stage 3) (message_no 1) Flush) ≡ true
closes_after_a_loss = refl

-- what stands in another batcher does not count
abbrev one_in_each : List Step
one_in_each =
    Ask (sub 2 1 1) 10 ∷ Ask (sub 3 2 1) 3 ∷ Ask (sub 4 2 1) 3 ∷ Ask (sub 5 3 1) 1 ∷ Fetch (stage 1) 10
    ∷ Accept (stage 1) (codes "x" ∷ codes "cold" ∷ []) ∷ Dispatch (stage 1)
    ∷ Take (stage 2) (sub 2 1 1) 2 ∷ Done (stage 2) (Pass (msg 1 (codes "x")) ∷ Pass (record (msg 2 (codes "cold")) { batcher = 1 }) ∷ [])
    ∷ Dispatch (stage 2)
    ∷ Gather (stage 3) (message_no 1) ∷ Drain Control ∷ []

closes_beside_another : may_come_after (two_batchers 0) one_in_each (Close (stage 3) (message_no 1) Flush) ≡ true
closes_beside_another = refl

-- then both keys' batches close, in the order of their first messages
abbrev both_gathered : List Step
both_gathered =
    another_line ++ Take (stage 2) (sub 2 1 1) 1 ∷ Done (stage 2) (Pass (keyed 2 (codes "y")) ∷ []) ∷ Dispatch (stage 2)
    ∷ Gather (stage 3) (message_no 2) ∷ Ask (sub 3 2 1) 2 ∷ []

first_closes_first : move by_key (history both_gathered) ≡ StepMove (Close (stage 3) (message_no 1) Flush)
first_closes_first = refl

-- any open batch may close, whatever the order
any_may_close : may_come_after by_key both_gathered (Close (stage 3) (message_no 2) Flush) ≡ true
any_may_close = refl

-- Size

-- a full batch closes by its size, though its time has passed too
abbrev three_of_a_key : List Step
three_of_a_key =
    Ask (sub 2 1 1) 10 ∷ Ask (sub 3 2 1) 3 ∷ Ask (sub 4 3 1) 1 ∷ Fetch (stage 1) 10 ∷ Accept (stage 1) (replicate 3 (codes "x"))
    ∷ Dispatch (stage 1)
    ∷ Take (stage 2) (sub 2 1 1) 3 ∷ Done (stage 2) (Pass (keyed 1 (codes "x")) ∷ Pass (keyed 2 (codes "x")) ∷ Pass (keyed 3 (codes "x"))
    ∷ [])
    ∷ Dispatch (stage 2) ∷ Gather (stage 3) (message_no 1) ∷ Gather (stage 3) (message_no 2) ∷ []

not_full_yet : is_refused_after by_key three_of_a_key (Close (stage 3) (message_no 1) Size) ≡ true
not_full_yet = refl

abbrev full : List Step
full = three_of_a_key ++ Ask (sub 3 2 1) 2 ∷ Gather (stage 3) (message_no 3) ∷ Tick 1000 ∷ []

closes_by_size : may_come_after by_key full (Close (stage 3) (message_no 1) Size) ≡ true
closes_by_size = refl

not_by_timeout_then : is_refused_after by_key full (Close (stage 3) (message_no 1) Timeout) ≡ true
not_by_timeout_then = refl
