-- Rows: a gather, a close, and the end of a batch.
use Rattle.std.proofs.Common.{◌≡◌, refl}
use Rattle.std.specs.Prelude.{ℕ, zero, suc, ◌+◌, true, List, [], ◌∷◌, ◌++◌, map, codes, drop, take, replicate, Option, Some, None}
use Rattle.pipe_types.specs.declared.topology.Topology.{Topology}
use Rattle.pipe_types.specs.declared.topology.Rule.TheVariants.{Flush as FlushRule, Crash as CrashRule, FailEvery}
use Rattle.pipe_types.specs.declared.topology.Kind.TheVariants.{Own}
use Rattle.pipe_types.specs.declared.message.Reply.{Reply}
use Rattle.pipe_types.specs.declared.message.Reply.TheVariants.{Pass}
use Rattle.pipe_types.specs.declared.message.Outcome.TheVariants.{Successful, Failed}
use Rattle.pipe_types.specs.declared.message.BatchEnd.TheVariants.{Outcomes, Crashed as CrashedEnd}
use Rattle.pipe_types.specs.declared.message.Trigger.TheVariants.{Size, Flush, Timeout}
use Rattle.pipe_types.specs.declared.message.Why.TheVariants.{Crash as ByCrash, Kill as ByKill, Stop as ByStop}
use Rattle.pipe_types.specs.declared.message.Loss.TheVariants.{Killed}
use Rattle.pipe_types.specs.declared.message.Place.TheVariants.{Lost}
use Rattle.pipe_types.specs.declared.step.Step.{Step}
use Rattle.pipe_types.specs.declared.step.Step.TheVariants.{Ask, Fetch, Accept, Dispatch, Take, Done, Gather, Close, Wrote, Kill, Tick, Drain}
use Rattle.pipe_types.specs.declared.step.DrainCause.TheVariants.{Control}
use Rattle.pipe_types.specs.Numbers.{stage, message_no}
use Rattle.pipe_model.specs.History.{history}
use Rattle.pipe_model.specs.Flow.{place}
use Rattle.model_checks.proofs.Base.{may_come_after, is_refused_after, producer, processor, with_stages, sub, msg, passes, keyed, feeding, batcher, batch_processor, by_key, each_may_come_after, none_may_come_after, one_batcher, of_one_for, of_one}

-- so many lines `x`, and then one `y`, stand in the inbox of the batcher
abbrev lines_to_the_batcher : ℕ → List Step
lines_to_the_batcher n =
    Ask (sub 2 1 1) 10 ∷ Ask (sub 3 2 1) 3 ∷ Ask (sub 4 3 1) 1 ∷ Fetch (stage 1) 10
    ∷ Accept (stage 1) (replicate n (codes "x") ++ codes "y" ∷ []) ∷ Dispatch (stage 1)
    ∷ Take (stage 2) (sub 2 1 1) (n + 1) ∷ Done (stage 2) (keyed_from 1 n) ∷ Dispatch (stage 2) ∷ []
  where
    keyed_from : ℕ → ℕ → List Reply
    keyed_from m zero = Pass (keyed m (codes "y")) ∷ []
    keyed_from m (suc k) = Pass (keyed m (codes "x")) ∷ keyed_from (m + 1) k

abbrev two_sent : List Step
two_sent = lines_to_the_batcher 1

-- Gather

-- the first of the inbox, and no other
gather_first : may_come_after by_key two_sent (Gather (stage 3) (message_no 1)) ≡ true
gather_first = refl

gather_second : is_refused_after by_key two_sent (Gather (stage 3) (message_no 2)) ≡ true
gather_second = refl

gather_next : may_come_after by_key (two_sent ++ Gather (stage 3) (message_no 1) ∷ []) (Gather (stage 3) (message_no 2)) ≡ true
gather_next = refl

gather_again : is_refused_after by_key (two_sent ++ Gather (stage 3) (message_no 1) ∷ []) (Gather (stage 3) (message_no 1)) ≡ true
gather_again = refl

-- nothing from an empty inbox
gather_from_nothing : is_refused_after by_key (take 3 two_sent) (Gather (stage 3) (message_no 0)) ≡ true
gather_from_nothing = refl

-- only a batcher
gather_by_a_processor : is_refused_after by_key (take 6 two_sent) (Gather (stage 2) (message_no 1)) ≡ true
gather_by_a_processor = refl

-- not by a dead one
gather_while_dead : is_refused_after by_key (two_sent ++ Kill (stage 3) ByKill ∷ []) (Gather (stage 3) (message_no 1)) ≡ true
gather_while_dead = refl

-- only where the batch processors have asked for more than waits
gather_without_room : is_refused_after by_key (take 2 two_sent ++ drop 3 two_sent) (Gather (stage 3) (message_no 1)) ≡ true
gather_without_room = refl

gather_over_what_waits : is_refused_after of_one (two_sent ++ Gather (stage 3) (message_no 1) ∷ Close (stage 3) (message_no 1) Size ∷ [])
    (Gather (stage 3) (message_no 2)) ≡ true
gather_over_what_waits = refl

-- not into a full batch of its key, and into another key's all the same
gather_into_a_full : is_refused_after of_one (lines_to_the_batcher 2 ++ Gather (stage 3) (message_no 1) ∷ [])
    (Gather (stage 3) (message_no 2)) ≡ true
gather_into_a_full = refl

gather_beside_a_full : may_come_after of_one (two_sent ++ Gather (stage 3) (message_no 1) ∷ []) (Gather (stage 3) (message_no 2)) ≡ true
gather_beside_a_full = refl

-- not behind a message in flush mode
abbrev flushing : Topology
flushing = one_batcher (FlushRule (codes "x") ∷ [])

abbrev flush_first : List Step
flush_first =
    take 7 two_sent ++ Done (stage 2) (Pass (record (msg 1 (codes "x")) { flush = true }) ∷ Pass (msg 2 (codes "y")) ∷ [])
    ∷ Dispatch (stage 2)
    ∷ Gather (stage 3) (message_no 1) ∷ []

gather_behind_a_flush : is_refused_after flushing flush_first (Gather (stage 3) (message_no 2)) ≡ true
gather_behind_a_flush = refl

-- Close

abbrev gathered_two : List Step
gathered_two = two_sent ++ Gather (stage 3) (message_no 1) ∷ Gather (stage 3) (message_no 2) ∷ []

-- by the trigger that holds
close_by_size : may_come_after of_one gathered_two (Close (stage 3) (message_no 1) Size) ≡ true
close_by_size = refl

close_by_flush : may_come_after flushing flush_first (Close (stage 3) (message_no 1) Flush) ≡ true
close_by_flush = refl

close_by_timeout : may_come_after by_key (gathered_two ++ Tick 1000 ∷ []) (Close (stage 3) (message_no 1) Timeout) ≡ true
close_by_timeout = refl

-- by none before
close_too_early : is_refused_after by_key (gathered_two ++ Tick 999 ∷ []) (Close (stage 3) (message_no 1) Timeout) ≡ true
close_too_early = refl

close_while_short : is_refused_after by_key gathered_two (Close (stage 3) (message_no 1) Size) ≡ true
close_while_short = refl

close_while_not_dry : is_refused_after by_key gathered_two (Close (stage 3) (message_no 1) Flush) ≡ true
close_while_not_dry = refl

-- the time of a batch begins with its first message
abbrev gathered_apart : List Step
gathered_apart =
    lines_to_the_batcher 2 ++ Gather (stage 3) (message_no 1) ∷ Tick 500 ∷ Gather (stage 3) (message_no 2) ∷ Ask (sub 3 2 1) 2
    ∷ Gather (stage 3) (message_no 3) ∷ Tick 1000 ∷ []

close_from_the_first : may_come_after by_key gathered_apart (Close (stage 3) (message_no 1) Timeout) ≡ true
close_from_the_first = refl

close_of_the_later : is_refused_after by_key gathered_apart (Close (stage 3) (message_no 3) Timeout) ≡ true
close_of_the_later = refl

-- not by a later trigger than the first that holds
close_by_the_later : is_refused_after of_one (gathered_two ++ Tick 1000 ∷ []) (Close (stage 3) (message_no 1) Timeout) ≡ true
close_by_the_later = refl

close_full_by_flush : is_refused_after of_one (gathered_two ++ Drain Control ∷ []) (Close (stage 3) (message_no 1) Flush) ≡ true
close_full_by_flush = refl

close_dry_by_timeout : is_refused_after by_key (gathered_two ++ Drain Control ∷ Tick 1000 ∷ []) (Close (stage 3) (message_no 1) Timeout)
    ≡ true
close_dry_by_timeout = refl

-- named by the first message of the batch
close_by_the_second : is_refused_after by_key gathered_apart (Close (stage 3) (message_no 2) Timeout) ≡ true
close_by_the_second = refl

-- an open batch alone
close_of_what_is_not_gathered : is_refused_after of_one two_sent (Close (stage 3) (message_no 1) Size) ≡ true
close_of_what_is_not_gathered = refl

close_of_nothing : is_refused_after of_one two_sent (Close (stage 3) (message_no 0) Size) ≡ true
close_of_nothing = refl

close_again : is_refused_after of_one (gathered_two ++ Close (stage 3) (message_no 1) Size ∷ []) (Close (stage 3) (message_no 1) Size)
    ≡ true
close_again = refl

-- by its own batcher, which lives
close_by_a_processor : is_refused_after of_one gathered_two (Close (stage 2) (message_no 1) Size) ≡ true
close_by_a_processor = refl

close_while_dead : is_refused_after of_one (gathered_two ++ Kill (stage 3) ByKill ∷ []) (Close (stage 3) (message_no 1) Size) ≡ true
close_while_dead = refl

-- what was gathered in a killed batcher is lost
gathered_is_lost : map (place of_one (history (gathered_two ++ Kill (stage 3) ByStop ∷ []))) (1 ∷ 2 ∷ [])
    ≡ replicate 2 (Some (Lost (Killed (stage 3) 1 ByStop)))
gathered_is_lost = refl

-- Wrote

abbrev taken_batch : List Step
taken_batch = gathered_two ++ Close (stage 3) (message_no 1) Size ∷ Dispatch (stage 3) ∷ Take (stage 4) (sub 4 3 1) 1 ∷ []

-- the whole text, and the handler's end
wrote_as_handled : each_may_come_after of_one taken_batch (
    Wrote (stage 4) 2 (Outcomes (Successful ∷ []))
    -- less of it, and every success failed by the sink
    ∷ Wrote (stage 4) 1 (Outcomes (Failed (codes "sink") ∷ []))
    ∷ Wrote (stage 4) 0 (Outcomes (Failed (codes "sink") ∷ []))
    ∷ []) ≡ true
wrote_as_handled = refl

-- not more, nor less with a success, nor all with a failure of the sink
wrote_otherwise : none_may_come_after of_one taken_batch (
    Wrote (stage 4) 3 (Outcomes (Successful ∷ []))
    ∷ Wrote (stage 4) 1 (Outcomes (Successful ∷ []))
    ∷ Wrote (stage 4) 2 (Outcomes (Failed (codes "sink") ∷ []))
    -- one outcome a message, the handler's
    ∷ Wrote (stage 4) 2 (Outcomes [])
    ∷ Wrote (stage 4) 2 (Outcomes (Successful ∷ Successful ∷ []))
    ∷ Wrote (stage 4) 1 (Outcomes (Failed (codes "no") ∷ []))
    ∷ Wrote (stage 4) 0 CrashedEnd
    ∷ []) ≡ true
wrote_otherwise = refl

-- a crash of the handler's, with no bytes; it owes the kill
abbrev crashing : Topology
crashing = of_one_for (record (batch_processor 4 (codes "b.0") 0 0) { rules = CrashRule (codes "x") ∷ [] })

crash_without_bytes : may_come_after crashing taken_batch (Wrote (stage 4) 0 CrashedEnd) ≡ true
crash_without_bytes = refl

crash_with_bytes : is_refused_after crashing taken_batch (Wrote (stage 4) 1 CrashedEnd) ≡ true
crash_with_bytes = refl

crash_as_a_failure : is_refused_after crashing taken_batch (Wrote (stage 4) 0 (Outcomes (Failed (codes "sink") ∷ []))) ≡ true
crash_as_a_failure = refl

crash_owes_the_kill : may_come_after crashing (taken_batch ++ Wrote (stage 4) 0 CrashedEnd ∷ []) (Kill (stage 4) ByCrash) ≡ true
crash_owes_the_kill = refl

crash_owes_it_now : is_refused_after crashing (taken_batch ++ Wrote (stage 4) 0 CrashedEnd ∷ []) (Tick 0) ≡ true
crash_owes_it_now = refl

-- without a sink no bytes, and no failure of a sink
abbrev no_sink : Topology
no_sink = of_one_for (record (batch_processor 4 (codes "b.0") 0 0) { edge = None })

no_sink_no_bytes : may_come_after no_sink taken_batch (Wrote (stage 4) 0 (Outcomes (Successful ∷ []))) ≡ true
no_sink_no_bytes = refl

no_sink_with_bytes : is_refused_after no_sink taken_batch (Wrote (stage 4) 2 (Outcomes (Successful ∷ []))) ≡ true
no_sink_with_bytes = refl

no_sink_to_fail : is_refused_after no_sink taken_batch (Wrote (stage 4) 0 (Outcomes (Failed (codes "sink") ∷ []))) ≡ true
no_sink_to_fail = refl

-- the count goes on from batch to batch
abbrev every_second : Topology
every_second = of_one_for (record (batch_processor 4 (codes "b.0") 0 0) { rules = FailEvery 2 ∷ [] })

abbrev second_batch : List Step
second_batch =
    taken_batch ++ Wrote (stage 4) 2 (Outcomes (Successful ∷ [])) ∷ Ask (sub 4 3 1) 1 ∷ Close (stage 3) (message_no 2) Size
    ∷ Dispatch (stage 3)
    ∷ Take (stage 4) (sub 4 3 1) 1 ∷ []

second_fails : may_come_after every_second second_batch (Wrote (stage 4) 0 (Outcomes (Failed (codes "every") ∷ []))) ≡ true
second_fails = refl

second_passes_not : is_refused_after every_second second_batch (Wrote (stage 4) 2 (Outcomes (Successful ∷ []))) ≡ true
second_passes_not = refl

-- only while the take is out, by a batch processor that lives
wrote_untaken : is_refused_after of_one (gathered_two ++ Close (stage 3) (message_no 1) Size ∷ Dispatch (stage 3) ∷ [])
    (Wrote (stage 4) 2 (Outcomes (Successful ∷ []))) ≡ true
wrote_untaken = refl

wrote_twice : is_refused_after of_one (taken_batch ++ Wrote (stage 4) 2 (Outcomes (Successful ∷ [])) ∷ [])
    (Wrote (stage 4) 2 (Outcomes (Successful ∷ []))) ≡ true
wrote_twice = refl

wrote_while_dead : is_refused_after of_one (taken_batch ++ Kill (stage 4) ByKill ∷ []) (Wrote (stage 4) 2 (Outcomes (Successful ∷ [])))
    ≡ true
wrote_while_dead = refl

wrote_by_a_processor : is_refused_after of_one (take 7 two_sent) (Wrote (stage 2) 0 (Outcomes [])) ≡ true
wrote_by_a_processor = refl

-- An own handler's end

abbrev own : (has_sink : Option (List ℕ)) → Topology
own sink =
    with_stages
    (producer 1 (codes "p") 0 ∷ feeding 1 (processor 2 (codes "processors.0") 0 []) ∷ record (batcher 3 (codes "b") 0) { batch_size = 2 }
    ∷ record (batch_processor 4 (codes "b.0") 0 0) { kind = Own; edge = sink } ∷ [])

abbrev taken_pair : List Step
taken_pair =
    take 7 two_sent ++ Done (stage 2) (passes 1 (codes "x" ∷ codes "y" ∷ [])) ∷ Dispatch (stage 2) ∷ Gather (stage 3) (message_no 1)
    ∷ Gather (stage 3) (message_no 2)
    ∷ Close (stage 3) (message_no 1) Size ∷ Dispatch (stage 3) ∷ Take (stage 4) (sub 4 3 1) 1 ∷ []

abbrev sink : Option (List ℕ)
sink = Some (codes "mem:s")

-- all of the text of its successes
own_all : may_come_after (own sink) taken_pair (Wrote (stage 4) 2 (Outcomes (Successful ∷ Failed (codes "no") ∷ []))) ≡ true
own_all = refl

own_none : may_come_after (own sink) taken_pair (Wrote (stage 4) 0 (Outcomes (Failed (codes "no") ∷ Failed (codes "no") ∷ []))) ≡ true
own_none = refl

own_more : is_refused_after (own sink) taken_pair (Wrote (stage 4) 4 (Outcomes (Successful ∷ Failed (codes "no") ∷ []))) ≡ true
own_more = refl

own_less_with_success : is_refused_after (own sink) taken_pair (Wrote (stage 4) 1 (Outcomes (Successful ∷ Failed (codes "no") ∷ []))) ≡ true
own_less_with_success = refl

-- less, and every success failed by the sink
own_less : may_come_after (own sink) taken_pair (Wrote (stage 4) 3 (Outcomes (Failed (codes "sink") ∷ Failed (codes "sink") ∷ []))) ≡ true
own_less = refl

own_otherwise : none_may_come_after (own sink) taken_pair (
    Wrote (stage 4) 2 (Outcomes (Failed (codes "sink") ∷ Failed (codes "no") ∷ []))
    ∷ Wrote (stage 4) 4 (Outcomes (Failed (codes "sink") ∷ Failed (codes "sink") ∷ []))
    -- a failure of the sink beside a success is none of the three ends
    ∷ Wrote (stage 4) 2 (Outcomes (Failed (codes "sink") ∷ Successful ∷ []))
    -- one outcome a message
    ∷ Wrote (stage 4) 2 (Outcomes (Successful ∷ []))
    ∷ Wrote (stage 4) 4 (Outcomes (replicate 3 Successful))
    ∷ []) ≡ true
own_otherwise = refl

-- a crash without bytes
own_crash : may_come_after (own sink) taken_pair (Wrote (stage 4) 0 CrashedEnd) ≡ true
own_crash = refl

own_crash_with_bytes : is_refused_after (own sink) taken_pair (Wrote (stage 4) 1 CrashedEnd) ≡ true
own_crash_with_bytes = refl

-- without a sink no bytes, and `sink` is no reason
own_no_sink : may_come_after (own None) taken_pair (Wrote (stage 4) 0 (Outcomes (Successful ∷ Successful ∷ []))) ≡ true
own_no_sink = refl

own_no_sink_with_bytes : is_refused_after (own None) taken_pair (Wrote (stage 4) 4 (Outcomes (Successful ∷ Successful ∷ []))) ≡ true
own_no_sink_with_bytes = refl

own_no_sink_failed : is_refused_after (own None) taken_pair (Wrote (stage 4) 0
    (Outcomes (Failed (codes "sink") ∷ Failed (codes "sink") ∷ []))) ≡ true
own_no_sink_failed = refl
