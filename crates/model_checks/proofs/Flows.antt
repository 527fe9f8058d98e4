-- More of what flows: two producers, closed subscriptions, routes, keys, cascades and halts.
use Rattle.std.proofs.Common.{◌≡◌, refl}
use Rattle.std.specs.Prelude.{true, List, [], ◌∷◌, ◌++◌, map, codes, Some}
use Rattle.pipe_types.specs.declared.topology.Topology.{Topology}
use Rattle.pipe_types.specs.declared.topology.Rule.TheVariants.{Require, Route, Key}
use Rattle.pipe_types.specs.declared.topology.Dispatch.TheVariants.{Partition}
use Rattle.pipe_types.specs.declared.topology.CancelMode.{CancelMode}
use Rattle.pipe_types.specs.declared.topology.CancelMode.TheVariants.{Temporary, Permanent}
use Rattle.pipe_types.specs.declared.message.Message.{Message}
use Rattle.pipe_types.specs.declared.message.Reply.TheVariants.{Pass}
use Rattle.pipe_types.specs.declared.message.Outcome.TheVariants.{Successful, Failed}
use Rattle.pipe_types.specs.declared.message.BatchEnd.TheVariants.{Outcomes}
use Rattle.pipe_types.specs.declared.message.Trigger.TheVariants.{Size, Timeout}
use Rattle.pipe_types.specs.declared.message.Why.TheVariants.{Crash as ByCrash, Kill as ByKill, Stop as ByStop, Cancelled, Limit as ByLimit}
use Rattle.pipe_types.specs.declared.message.Loss.TheVariants.{Killed}
use Rattle.pipe_types.specs.declared.message.Place.TheVariants.{Waiting, Inbox, InBatch, Acked, Lost}
use Rattle.pipe_types.specs.declared.step.Step.{Step}
use Rattle.pipe_types.specs.declared.step.Step.TheVariants.{Ask, Fetch, Accept, Dispatch, Take, Done, Gather, Close, Wrote, Kill, Late, Restart, Tick, Halt}
use Rattle.pipe_types.specs.declared.step.LateAnswer.TheVariants.{Records, Quiet as LateQuiet}
use Rattle.pipe_types.specs.Numbers.{stage, message_no, batch_no}
use Rattle.pipe_model.specs.History.{history}
use Rattle.pipe_model.specs.Flow.{place, inbox}
use Rattle.pipe_model.specs.Ledger.{handled, due}
use Rattle.pipe_model.specs.Legal.{bound}
use Rattle.pipe_model.specs.Acknowledgements.{acknowledgements}
use Rattle.pipe_model.specs.Outside.{fed}
use Rattle.model_checks.proofs.Base.{is_run, producer, processor, with_stages, one_each, sub, msg, passes, keyed, feeding, batcher, batch_processor, two_producers, by_key, limited, two_batchers}

-- Two producers in one batch

abbrev two_sources : Topology
two_sources =
    with_stages
    (producer 1 (codes "p") 0 ∷ producer 2 (codes "q") 1 ∷ feeding 1 (processor 3 (codes "processors.0") 0 []) ∷ batcher 4 (codes "b") 0
    ∷ record (batch_processor 5 (codes "b.0") 0 0) { rules = Require (codes "b") ∷ [] } ∷ [])

abbrev from_q : Message
from_q = record (msg 1 (codes "a")) { producer = stage 2 }

abbrev mixed_batch : List Step
mixed_batch =
    Ask (sub 3 1 1) 10 ∷ Ask (sub 3 2 1) 10 ∷ Ask (sub 4 3 1) 3 ∷ Ask (sub 5 4 1) 1 ∷ Fetch (stage 2) 10 ∷ Fetch (stage 1) 10
    ∷ Accept (stage 2) (codes "a" ∷ []) ∷ Dispatch (stage 2) ∷ Accept (stage 1) (codes "b" ∷ codes "c" ∷ []) ∷ Dispatch (stage 1)
    ∷ Take (stage 3) (sub 3 2 1) 1 ∷ Done (stage 3) (Pass from_q ∷ []) ∷ Take (stage 3) (sub 3 1 1) 2
    ∷ Done (stage 3) (passes 2 (codes "b" ∷ codes "c" ∷ []))
    ∷ Dispatch (stage 3) ∷ Gather (stage 4) (message_no 1) ∷ Gather (stage 4) (message_no 2) ∷ Ask (sub 4 3 1) 2
    ∷ Gather (stage 4) (message_no 3)
    ∷ Close (stage 4) (message_no 1) Size ∷ Dispatch (stage 4) ∷ Take (stage 5) (sub 5 4 1) 1
    ∷ Wrote (stage 5) 2 (Outcomes (Failed (codes "require") ∷ Successful ∷ Failed (codes "require") ∷ [])) ∷ []

mixed_legal : is_run two_sources mixed_batch ≡ true
mixed_legal = refl

-- one entry for each producer, in their order, with both its sides
mixed_acknowledged : acknowledgements two_sources (history mixed_batch)
    ≡ record { producer = stage 1; successful = 2 ∷ []; failed = 3 ∷ [] } ∷ record { producer = stage 2; successful = []; failed = 1 ∷ [] }
    ∷ []
mixed_acknowledged = refl

-- each source's records are its own
mixed_fed : map (fed (history mixed_batch)) (stage 1 ∷ stage 2 ∷ []) ≡ (codes "b" ∷ codes "c" ∷ []) ∷ (codes "a" ∷ []) ∷ []
mixed_fed = refl

-- What came on a subscription that closed

-- the processor was killed, and then the batcher, each after it had sent on
abbrev passed_on : List Step
passed_on =
    Ask (sub 2 1 1) 10 ∷ Ask (sub 3 2 1) 3 ∷ Ask (sub 4 3 1) 1 ∷ Fetch (stage 1) 10 ∷ Accept (stage 1) (codes "x" ∷ []) ∷ Dispatch (stage 1)
    ∷ Take (stage 2) (sub 2 1 1) 1 ∷ Done (stage 2) (Pass (keyed 1 (codes "x")) ∷ []) ∷ Dispatch (stage 2) ∷ Kill (stage 2) ByKill
    ∷ Gather (stage 3) (message_no 1) ∷ Tick 1000 ∷ Close (stage 3) (message_no 1) Timeout ∷ Dispatch (stage 3) ∷ Kill (stage 3) ByKill
    ∷ Take (stage 4) (sub 4 3 1) 1 ∷ Wrote (stage 4) 2 (Outcomes (Successful ∷ [])) ∷ []

passed_on_legal : is_run by_key passed_on ≡ true
passed_on_legal = refl

passed_on_acked : place by_key (history passed_on) 1 ≡ Some (Acked Successful)
passed_on_acked = refl

passed_on_handled : map (handled by_key (history passed_on)) (sub 2 1 1 ∷ sub 3 2 1 ∷ sub 4 3 1 ∷ []) ≡ 1 ∷ 1 ∷ 1 ∷ []
passed_on_handled = refl

passed_on_due : map (due by_key (history passed_on)) (sub 2 1 1 ∷ sub 3 2 1 ∷ sub 4 3 1 ∷ []) ≡ 0 ∷ 0 ∷ 0 ∷ []
passed_on_due = refl

-- Routes

-- the second batcher is killed before anything is sent to it: its message waits, and holds back no other
abbrev held_back : List Step
held_back =
    Ask (sub 2 1 1) 10 ∷ Ask (sub 3 2 1) 3 ∷ Ask (sub 4 2 1) 3 ∷ Fetch (stage 1) 10 ∷ Accept (stage 1) (codes "cold" ∷ codes "hot" ∷ [])
    ∷ Dispatch (stage 1)
    ∷ Take (stage 2) (sub 2 1 1) 2 ∷ Kill (stage 4) ByStop ∷ Done (stage 2)
    (Pass (record (msg 1 (codes "cold")) { batcher = 1 }) ∷ Pass (msg 2 (codes "hot")) ∷ [])
    ∷ Dispatch (stage 2) ∷ []

held_back_legal : is_run (two_batchers 1) held_back ≡ true
held_back_legal = refl

held_back_places : map (place (two_batchers 1) (history held_back)) (1 ∷ 2 ∷ []) ≡ Some (Waiting (stage 2)) ∷ Some (Inbox (sub 3 2 1)) ∷ []
held_back_places = refl

-- after the restart it goes on the new subscription
abbrev sent_anew : List Step
sent_anew = held_back ++ Restart (stage 4) ∷ Ask (sub 4 2 2) 3 ∷ Dispatch (stage 2) ∷ []

sent_anew_legal : is_run (two_batchers 1) sent_anew ≡ true
sent_anew_legal = refl

sent_anew_place : place (two_batchers 1) (history sent_anew) 1 ≡ Some (Inbox (sub 4 2 2))
sent_anew_place = refl

-- a kill of the processor loses what waits in it
lost_while_waiting : map (place (two_batchers 1) (history (held_back ++ Kill (stage 2) ByKill ∷ []))) (1 ∷ 2 ∷ [])
    ≡ Some (Lost (Killed (stage 2) 1 ByKill)) ∷ Some (Inbox (sub 3 2 1)) ∷ []
lost_while_waiting = refl

-- Batches to batch processors by key

abbrev keys_apart : Topology
keys_apart =
    with_stages
    (producer 1 (codes "p") 0 ∷ feeding 1 (processor 2 (codes "processors.0") 0 (Key 0 ∷ []))
    ∷ record (batcher 3 (codes "b") 0) { dispatch = Partition; parts = 2; batch_size = 1 } ∷ batch_processor 4 (codes "b.0") 0 0
    ∷ batch_processor 5 (codes "b.1") 0 1 ∷ [])

-- the key `a` is of partition 1, and `b` of partition 0
abbrev sent_apart : List Step
sent_apart =
    Ask (sub 2 1 1) 10 ∷ Ask (sub 3 2 1) 3 ∷ Ask (sub 4 3 1) 1 ∷ Ask (sub 5 3 1) 1 ∷ Fetch (stage 1) 10
    ∷ Accept (stage 1) (codes "a" ∷ codes "b" ∷ []) ∷ Dispatch (stage 1)
    ∷ Take (stage 2) (sub 2 1 1) 2 ∷ Done (stage 2) (Pass (keyed 1 (codes "a")) ∷ Pass (keyed 2 (codes "b")) ∷ []) ∷ Dispatch (stage 2)
    ∷ Gather (stage 3) (message_no 1) ∷ Gather (stage 3) (message_no 2) ∷ Close (stage 3) (message_no 2) Size
    ∷ Close (stage 3) (message_no 1) Size ∷ Dispatch (stage 3) ∷ []

sent_apart_legal : is_run keys_apart sent_apart ≡ true
sent_apart_legal = refl

-- batches are numbered as they close: batch 1 has message 2
batches_by_closing : map (place keys_apart (history sent_apart)) (1 ∷ 2 ∷ []) ≡ Some (InBatch (batch_no 2)) ∷ Some (InBatch (batch_no 1))
    ∷ []
batches_by_closing = refl

sent_apart_inboxes : map (inbox keys_apart (history sent_apart)) (stage 4 ∷ stage 5 ∷ []) ≡ ((sub 4 3 1, 1) ∷ []) ∷ ((sub 5 3 1, 2) ∷ [])
    ∷ []
sent_apart_inboxes = refl

-- Batches in a cascade and in a halt

abbrev pub cascading : CancelMode → Topology
cascading mode =
    with_stages
    (producer 1 (codes "p") 0 ∷ feeding 1 (processor 2 (codes "processors.0") 0 (Key 0 ∷ []))
    ∷ record (batcher 3 (codes "b") 0) { batch_size = 1 }
    ∷ record (batch_processor 4 (codes "b.0") 0 0) { mode = mode } ∷ [])

-- batch 1 stands in the inbox of the batch processor, batch 2 waits in the batcher, and message 3 stands in its inbox
abbrev pub three_deep : List Step
three_deep =
    Ask (sub 2 1 1) 10 ∷ Ask (sub 3 2 1) 3 ∷ Ask (sub 4 3 1) 1 ∷ Fetch (stage 1) 10
    ∷ Accept (stage 1) (codes "x" ∷ codes "y" ∷ codes "z" ∷ []) ∷ Dispatch (stage 1)
    ∷ Take (stage 2) (sub 2 1 1) 3 ∷ Done (stage 2) (Pass (keyed 1 (codes "x")) ∷ Pass (keyed 2 (codes "y")) ∷ Pass (keyed 3 (codes "z"))
    ∷ []) ∷ Dispatch (stage 2)
    ∷ Gather (stage 3) (message_no 1) ∷ Gather (stage 3) (message_no 2) ∷ Close (stage 3) (message_no 1) Size
    ∷ Close (stage 3) (message_no 2) Size ∷ Dispatch (stage 3) ∷ []

three_deep_legal : is_run (cascading Permanent) three_deep ≡ true
three_deep_legal = refl

cascade_loses_both : map (place (cascading Permanent) (history (three_deep ++ Kill (stage 3) ByCrash ∷ []))) (1 ∷ 2 ∷ 3 ∷ [])
    ≡ Some (Lost (Killed (stage 4) 1 (Cancelled (sub 4 3 1)))) ∷ Some (Lost (Killed (stage 3) 1 ByCrash))
    ∷ Some (Lost (Killed (stage 3) 1 ByCrash)) ∷ []
cascade_loses_both = refl

kill_loses_one : map (place (cascading Temporary) (history (three_deep ++ Kill (stage 3) ByStop ∷ []))) (1 ∷ 2 ∷ 3 ∷ [])
    ≡ Some (InBatch (batch_no 1)) ∷ Some (Lost (Killed (stage 3) 1 ByStop)) ∷ Some (Lost (Killed (stage 3) 1 ByStop)) ∷ []
kill_loses_one = refl

-- a halt loses all that is left, each with its stage
abbrev halting : Topology
halting = record (cascading Temporary) { limits = limited 0 5000 }

abbrev halted_deep : List Step
halted_deep = three_deep ++ Kill (stage 1) ByKill ∷ Halt ∷ []

halted_legal : is_run halting halted_deep ≡ true
halted_legal = refl

halt_loses_all : map (place halting (history halted_deep)) (1 ∷ 2 ∷ 3 ∷ []) ≡ Some (Lost (Killed (stage 4) 1 ByLimit))
    ∷ Some (Lost (Killed (stage 3) 1 ByLimit)) ∷ Some (Lost (Killed (stage 3) 1 ByLimit)) ∷ []
halt_loses_all = refl

-- a lost message carries the incarnation of its stage
second_incarnation : place one_each (history (Kill (stage 1) ByKill ∷ Restart (stage 1) ∷ Ask (sub 2 1 2) 10 ∷ Fetch (stage 1) 10
    ∷ Kill (stage 1) ByStop ∷ Late (stage 1) 0 2 (Records (codes "x" ∷ [])) ∷ [])) 1 ≡ Some (Lost (Killed (stage 1) 2 ByStop))
second_incarnation = refl

-- What a fetch keeps for itself

abbrev five_records : Topology
five_records = record two_producers { record_limit = 5 }

-- the fetch of a killed producer is out until its late answer
abbrev killed_fetch : List Step
killed_fetch = Ask (sub 3 1 1) 10 ∷ Ask (sub 3 2 1) 10 ∷ Fetch (stage 2) 5 ∷ Kill (stage 2) ByKill ∷ []

keeps_its_bound : bound five_records (history killed_fetch) (stage 1) ≡ 0
keeps_its_bound = refl

gives_it_back : map (λ answer. bound five_records (history (killed_fetch ++ Late (stage 2) 0 1 answer ∷ [])) (stage 1))
    (LateQuiet ∷ Records (codes "x" ∷ codes "y" ∷ []) ∷ []) ≡ 5 ∷ 3 ∷ []
gives_it_back = refl
