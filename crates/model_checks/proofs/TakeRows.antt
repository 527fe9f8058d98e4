-- Rows: a take, and the replies to it.
use Rattle.std.proofs.Common.{◌≡◌, refl}
use Rattle.std.specs.Prelude.{true, List, [], ◌∷◌, ◌++◌, map, codes, replicate, Some}
use Rattle.pipe_types.specs.declared.topology.Topology.{Topology}
use Rattle.pipe_types.specs.declared.topology.StageSpec.{StageSpec}
use Rattle.pipe_types.specs.declared.topology.Rule.TheVariants.{Require, Crash as CrashRule}
use Rattle.pipe_types.specs.declared.topology.Kind.TheVariants.{Own}
use Rattle.pipe_types.specs.declared.message.Reply.TheVariants.{Pass, Failed as FailedReply, Raised, Crashed}
use Rattle.pipe_types.specs.declared.message.Trigger.TheVariants.{Timeout}
use Rattle.pipe_types.specs.declared.message.Why.TheVariants.{Kill as ByKill}
use Rattle.pipe_types.specs.declared.message.Place.TheVariants.{Inbox, Running}
use Rattle.pipe_types.specs.declared.step.Step.{Step}
use Rattle.pipe_types.specs.declared.step.Step.TheVariants.{Ask, Fetch, Accept, Dispatch, Take, Done, Gather, Close, Kill, Tick}
use Rattle.pipe_types.specs.Numbers.{stage, message_no}
use Rattle.pipe_model.specs.History.{history}
use Rattle.pipe_model.specs.Flow.{place}
use Rattle.model_checks.proofs.Base.{may_come_after, is_refused_after, producer, processor, with_stages, one_each, sub, msg, passes, keyed, feeding, batcher, batch_processor, one_ruled, two_producers, by_key, supervised, none_may_come_after}

-- one line stands in the inbox of the processor
abbrev sent_one : List Step
sent_one = Ask (sub 2 1 1) 10 ∷ Fetch (stage 1) 10 ∷ Accept (stage 1) (codes "x" ∷ []) ∷ Dispatch (stage 1) ∷ []

abbrev sent_seven : List Step
sent_seven = Ask (sub 2 1 1) 10 ∷ Fetch (stage 1) 10 ∷ Accept (stage 1) (replicate 7 (codes "x")) ∷ Dispatch (stage 1) ∷ []

abbrev taken_one : List Step
taken_one = sent_one ++ Take (stage 2) (sub 2 1 1) 1 ∷ []

-- Take

-- all that is there, and no more than the maximum less the minimum
take_one : may_come_after one_each sent_one (Take (stage 2) (sub 2 1 1) 1) ≡ true
take_one = refl

take_five : may_come_after one_each sent_seven (Take (stage 2) (sub 2 1 1) 5) ≡ true
take_five = refl

take_four : is_refused_after one_each sent_seven (Take (stage 2) (sub 2 1 1) 4) ≡ true
take_four = refl

take_seven : is_refused_after one_each sent_seven (Take (stage 2) (sub 2 1 1) 7) ≡ true
take_seven = refl

take_two_of_one : is_refused_after one_each sent_one (Take (stage 2) (sub 2 1 1) 2) ≡ true
take_two_of_one = refl

-- not from an empty inbox
take_nothing : is_refused_after one_each (Ask (sub 2 1 1) 10 ∷ []) (Take (stage 2) (sub 2 1 1) 0) ≡ true
take_nothing = refl

take_none : is_refused_after one_each sent_one (Take (stage 2) (sub 2 1 1) 0) ≡ true
take_none = refl

-- from the subscription of the first unit, and of that alone: one of the second producer came first, then two of the first
abbrev from_two : List Step
from_two =
    Ask (sub 3 1 1) 10 ∷ Ask (sub 3 2 1) 10 ∷ Fetch (stage 1) 10 ∷ Fetch (stage 2) 10 ∷ Accept (stage 2) (codes "x" ∷ [])
    ∷ Dispatch (stage 2)
    ∷ Accept (stage 1) (codes "y" ∷ codes "z" ∷ []) ∷ Dispatch (stage 1) ∷ []

take_of_the_first : may_come_after two_producers from_two (Take (stage 3) (sub 3 2 1) 1) ≡ true
take_of_the_first = refl

take_of_the_other : is_refused_after two_producers from_two (Take (stage 3) (sub 3 1 1) 2) ≡ true
take_of_the_other = refl

take_of_both : is_refused_after two_producers from_two (Take (stage 3) (sub 3 2 1) 3) ≡ true
take_of_both = refl

-- units of one subscription are taken together, though others stand between them
abbrev between : List Step
between = from_two ++ Fetch (stage 2) 9 ∷ Accept (stage 2) (codes "w" ∷ []) ∷ Dispatch (stage 2) ∷ []

take_around : may_come_after two_producers between (Take (stage 3) (sub 3 2 1) 2) ≡ true
take_around = refl

runs_around : map (place two_producers (history (between ++ Take (stage 3) (sub 3 2 1) 2 ∷ []))) (1 ∷ 2 ∷ 3 ∷ 4 ∷ [])
    ≡ Some (Running (stage 3)) ∷ Some (Inbox (sub 3 1 1)) ∷ Some (Inbox (sub 3 1 1)) ∷ Some (Running (stage 3)) ∷ []
runs_around = refl

-- a closed subscription's units are taken like others
take_of_a_closed : may_come_after one_each (sent_one ++ Kill (stage 1) ByKill ∷ []) (Take (stage 2) (sub 2 1 1) 1) ≡ true
take_of_a_closed = refl

take_of_a_later : is_refused_after one_each sent_one (Take (stage 2) (sub 2 1 2) 1) ≡ true
take_of_a_later = refl

-- not while it is out
take_while_out : is_refused_after one_each (sent_seven ++ Take (stage 2) (sub 2 1 1) 5 ∷ []) (Take (stage 2) (sub 2 1 1) 2) ≡ true
take_while_out = refl

-- not by a dead stage
take_while_dead : is_refused_after one_each (sent_one ++ Kill (stage 2) ByKill ∷ []) (Take (stage 2) (sub 2 1 1) 1) ≡ true
take_while_dead = refl

-- not by a producer, a supervisor or a batcher
take_by_a_producer : is_refused_after one_each sent_one (Take (stage 1) (sub 2 1 1) 1) ≡ true
take_by_a_producer = refl

take_by_a_supervisor : is_refused_after supervised (Ask (sub 2 1 1) 2 ∷ Fetch (stage 1) 2 ∷ Accept (stage 1) (codes "x" ∷ [])
    ∷ Dispatch (stage 1) ∷ []) (Take (stage 2) (sub 2 1 1) 1) ≡ true
take_by_a_supervisor = refl

abbrev to_the_batcher : List Step
to_the_batcher =
    Ask (sub 2 1 1) 10 ∷ Ask (sub 3 2 1) 3 ∷ Ask (sub 4 3 1) 1 ∷ Fetch (stage 1) 10 ∷ Accept (stage 1) (codes "x" ∷ []) ∷ Dispatch (stage 1)
    ∷ Take (stage 2) (sub 2 1 1) 1
    ∷ Done (stage 2) (Pass (keyed 1 (codes "x")) ∷ []) ∷ Dispatch (stage 2) ∷ []

take_by_a_batcher : is_refused_after by_key to_the_batcher (Take (stage 3) (sub 3 2 1) 1) ≡ true
take_by_a_batcher = refl

-- a processor with batchers takes only where they have asked for more than waits in it
take_without_room : is_refused_after by_key sent_one (Take (stage 2) (sub 2 1 1) 1) ≡ true
take_without_room = refl

take_with_room : may_come_after by_key (sent_one ++ Ask (sub 3 2 1) 3 ∷ []) (Take (stage 2) (sub 2 1 1) 1) ≡ true
take_with_room = refl

-- two batchers of which the second alone asked; three messages for the first wait, and the second asked for three
abbrev two_batchers : Topology
two_batchers =
    with_stages
    (producer 1 (codes "p") 0 ∷ feeding 2 (record (processor 2 (codes "processors.0") 0 []) { min = 7 }) ∷ batcher 3 (codes "b") 0
    ∷ batcher 4 (codes "c") 1
    ∷ batch_processor 5 (codes "b.0") 0 0 ∷ batch_processor 6 (codes "c.0") 1 0 ∷ [])

abbrev three_wait : List Step
three_wait =
    Ask (sub 2 1 1) 10 ∷ Ask (sub 4 2 1) 3 ∷ Fetch (stage 1) 10 ∷ Accept (stage 1) (replicate 7 (codes "x")) ∷ Dispatch (stage 1)
    ∷ Take (stage 2) (sub 2 1 1) 3 ∷ Done (stage 2) (passes 1 (replicate 3 (codes "x"))) ∷ []

take_over_what_waits : is_refused_after two_batchers three_wait (Take (stage 2) (sub 2 1 1) 3) ≡ true
take_over_what_waits = refl

take_once_more_asked : may_come_after two_batchers (three_wait ++ Ask (sub 3 2 1) 3 ∷ []) (Take (stage 2) (sub 2 1 1) 3) ≡ true
take_once_more_asked = refl

-- a batch processor takes one batch
abbrev two_batches : List Step
two_batches =
    to_the_batcher ++ Gather (stage 3) (message_no 1) ∷ Tick 1000 ∷ Close (stage 3) (message_no 1) Timeout ∷ Dispatch (stage 3) ∷ []

take_a_batch : may_come_after by_key two_batches (Take (stage 4) (sub 4 3 1) 1) ≡ true
take_a_batch = refl

-- Done

-- one reply a message, as the handler makes it
done_pass : may_come_after one_each taken_one (Done (stage 2) (passes 1 (codes "x" ∷ []))) ≡ true
done_pass = refl

done_otherwise : none_may_come_after one_each taken_one (
    Done (stage 2) []
    ∷ Done (stage 2) (passes 1 (codes "x" ∷ codes "x" ∷ []))
    -- no other reply, payload, key, batcher, flush mode, number or producer
    ∷ Done (stage 2) (FailedReply (codes "no") ∷ [])
    ∷ Done (stage 2) (Crashed ∷ [])
    ∷ Done (stage 2) (passes 1 (codes "y" ∷ []))
    ∷ Done (stage 2) (Pass (keyed 1 (codes "x")) ∷ [])
    ∷ Done (stage 2) (Pass (record (msg 1 (codes "x")) { batcher = 1 }) ∷ [])
    ∷ Done (stage 2) (Pass (record (msg 1 (codes "x")) { flush = true }) ∷ [])
    ∷ Done (stage 2) (passes 2 (codes "x" ∷ []))
    ∷ Done (stage 2) (Pass (record (msg 1 (codes "x")) { producer = stage 2 }) ∷ [])
    ∷ []) ≡ true
done_otherwise = refl

-- a failure and a raise carry the stage's own reason, and are not each other
abbrev renamed : StageSpec → StageSpec
renamed spec = record spec { failed = Some (codes "mine") }

abbrev requiring : Topology
requiring = with_stages (producer 1 (codes "p") 0 ∷ renamed (processor 2 (codes "processors.0") 0 (Require (codes "y") ∷ [])) ∷ [])

done_own_reason : may_come_after requiring taken_one (Done (stage 2) (FailedReply (codes "mine") ∷ [])) ≡ true
done_own_reason = refl

done_first_reason : is_refused_after requiring taken_one (Done (stage 2) (FailedReply (codes "require") ∷ [])) ≡ true
done_first_reason = refl

done_raised_for_failed : is_refused_after requiring taken_one (Done (stage 2) (Raised (codes "mine") ∷ [])) ≡ true
done_raised_for_failed = refl

-- a crash ends the list, and nothing follows it
abbrev taken_three : List Step
taken_three =
    Ask (sub 2 1 1) 10 ∷ Fetch (stage 1) 10 ∷ Accept (stage 1) (codes "a" ∷ codes "!" ∷ codes "b" ∷ []) ∷ Dispatch (stage 1)
    ∷ Take (stage 2) (sub 2 1 1) 3 ∷ []

abbrev crashing : Topology
crashing = one_ruled (CrashRule (codes "!") ∷ [])

done_to_the_crash : may_come_after crashing taken_three (Done (stage 2) (Pass (msg 1 (codes "a")) ∷ Crashed ∷ [])) ≡ true
done_to_the_crash = refl

done_not_at_the_crash : none_may_come_after crashing taken_three (
    Done (stage 2) (Pass (msg 1 (codes "a")) ∷ Crashed ∷ Pass (msg 3 (codes "b")) ∷ [])
    ∷ Done (stage 2) (Pass (msg 1 (codes "a")) ∷ [])
    ∷ Done (stage 2) (Crashed ∷ [])
    ∷ []) ≡ true
done_not_at_the_crash = refl

-- only while the take is out
done_untaken : is_refused_after one_each sent_one (Done (stage 2) (passes 1 (codes "x" ∷ []))) ≡ true
done_untaken = refl

done_twice : is_refused_after one_each (taken_one ++ Done (stage 2) (passes 1 (codes "x" ∷ [])) ∷ [])
    (Done (stage 2) (passes 1 (codes "x" ∷ []))) ≡ true
done_twice = refl

-- not from a killed incarnation
done_while_dead : is_refused_after one_each (taken_one ++ Kill (stage 2) ByKill ∷ []) (Done (stage 2) (passes 1 (codes "x" ∷ []))) ≡ true
done_while_dead = refl

-- not by another stage
done_by_a_producer : is_refused_after one_each (Ask (sub 2 1 1) 10 ∷ Fetch (stage 1) 10 ∷ []) (Done (stage 1) []) ≡ true
done_by_a_producer = refl

done_by_a_batch_processor : is_refused_after by_key (two_batches ++ Take (stage 4) (sub 4 3 1) 1 ∷ [])
    (Done (stage 4) (Pass (keyed 1 (codes "x")) ∷ [])) ≡ true
done_by_a_batch_processor = refl

-- An own handler's replies

-- any payload, key, flush mode and batcher of the stage, but the number and the producer of the message
abbrev own : Topology
own = with_stages (producer 1 (codes "p") 0 ∷ record (processor 2 (codes "processors.0") 0 []) { kind = Own } ∷ [])

own_pass : may_come_after own taken_one (Done (stage 2) (Pass (record (keyed 1 (codes "other")) { flush = true }) ∷ [])) ≡ true
own_pass = refl

own_not_its_message : none_may_come_after own taken_one (
    Done (stage 2) (passes 2 (codes "x" ∷ []))
    ∷ Done (stage 2) (Pass (record (msg 1 (codes "x")) { producer = stage 2 }) ∷ [])
    ∷ Done (stage 2) (Pass (record (msg 1 (codes "x")) { batcher = 1 }) ∷ [])
    ∷ []) ≡ true
own_not_its_message = refl

own_failed : may_come_after own taken_one (Done (stage 2) (FailedReply (codes "no") ∷ [])) ≡ true
own_failed = refl

own_raised : may_come_after own taken_one (Done (stage 2) (Raised (codes "no") ∷ [])) ≡ true
own_raised = refl

-- the reason `sink` is the sink's alone
own_failed_by_sink : is_refused_after own taken_one (Done (stage 2) (FailedReply (codes "sink") ∷ [])) ≡ true
own_failed_by_sink = refl

own_raised_by_sink : is_refused_after own taken_one (Done (stage 2) (Raised (codes "sink") ∷ [])) ≡ true
own_raised_by_sink = refl

-- one reply a message, or no more, of which the last alone is a crash
own_all : may_come_after own taken_three (Done (stage 2) (passes 1 (codes "a" ∷ codes "b" ∷ codes "c" ∷ []))) ≡ true
own_all = refl

own_too_few : is_refused_after own taken_three (Done (stage 2) (passes 1 (codes "a" ∷ codes "b" ∷ []))) ≡ true
own_too_few = refl

own_too_many : is_refused_after own taken_three (Done (stage 2) (passes 1 (replicate 4 (codes "a")))) ≡ true
own_too_many = refl

own_crash_at_once : may_come_after own taken_three (Done (stage 2) (Crashed ∷ [])) ≡ true
own_crash_at_once = refl

own_crash_at_last : may_come_after own taken_three (Done (stage 2) (passes 1 (codes "a" ∷ codes "b" ∷ []) ++ Crashed ∷ [])) ≡ true
own_crash_at_last = refl

own_crash_not_at_last : none_may_come_after own taken_three (
    Done (stage 2) (Crashed ∷ passes 2 (codes "b" ∷ codes "c" ∷ []))
    ∷ Done (stage 2) (Crashed ∷ Crashed ∷ [])
    ∷ Done (stage 2) (passes 1 (replicate 3 (codes "a")) ++ Crashed ∷ [])
    ∷ []) ≡ true
own_crash_not_at_last = refl

-- with two batchers a message may name the second
abbrev own_feeding : Topology
own_feeding =
    with_stages
    (producer 1 (codes "p") 0 ∷ record (feeding 2 (processor 2 (codes "processors.0") 0 [])) { kind = Own } ∷ batcher 3 (codes "b") 0
    ∷ batcher 4 (codes "c") 1
    ∷ batch_processor 5 (codes "b.0") 0 0 ∷ batch_processor 6 (codes "c.0") 1 0 ∷ [])

abbrev taken_to_feed : List Step
taken_to_feed = Ask (sub 3 2 1) 3 ∷ taken_one

own_second_batcher : may_come_after own_feeding taken_to_feed (Done (stage 2) (Pass (record (msg 1 (codes "x")) { batcher = 1 }) ∷ []))
    ≡ true
own_second_batcher = refl

own_third_batcher : is_refused_after own_feeding taken_to_feed (Done (stage 2) (Pass (record (msg 1 (codes "x")) { batcher = 2 }) ∷ []))
    ≡ true
own_third_batcher = refl
