-- Rows: a dispatch, and the steps that are owed.
use Rattle.std.proofs.Common.{◌≡◌, refl}
use Rattle.std.specs.Prelude.{ℕ, true, List, [], ◌∷◌, ◌++◌, codes, Some}
use Rattle.pipe_types.specs.declared.topology.Topology.{Topology}
use Rattle.pipe_types.specs.declared.topology.Rule.TheVariants.{Crash as CrashRule}
use Rattle.pipe_types.specs.declared.topology.Dispatch.TheVariants.{Broadcast}
use Rattle.pipe_types.specs.declared.message.Reply.TheVariants.{Crashed}
use Rattle.pipe_types.specs.declared.message.Trigger.TheVariants.{Size}
use Rattle.pipe_types.specs.declared.message.Why.TheVariants.{Crash as ByCrash, Kill as ByKill}
use Rattle.pipe_types.specs.declared.step.Step.{Step}
use Rattle.pipe_types.specs.declared.step.Step.TheVariants.{Ask, Fetch, Accept, Dispatch, Take, Done, Gather, Close, Kill, Tick}
use Rattle.pipe_types.specs.Numbers.{stage, message_no}
use Rattle.model_checks.proofs.Base.{may_come_after, is_refused_after, producer, processor, with_stages, one_each, sub, passes, feeding, batcher, batch_processor, one_ruled, two_producers, none_may_come_after}

abbrev accepted_one : List Step
accepted_one = Ask (sub 2 1 1) 10 ∷ Fetch (stage 1) 10 ∷ Accept (stage 1) (codes "x" ∷ []) ∷ []

abbrev pushing : ℕ → Topology
pushing size = with_stages (record (producer 1 (codes "p") 0) { push = true; size = Some size } ∷ processor 2 (codes "processors.0") 0 []
    ∷ [])

abbrev pushed_two : List Step
pushed_two = Fetch (stage 1) 1000 ∷ Accept (stage 1) (codes "x" ∷ codes "y" ∷ []) ∷ []

-- Dispatch

-- where it sends something
sends_one : may_come_after one_each accepted_one (Dispatch (stage 1)) ≡ true
sends_one = refl

-- not where nothing waits
nothing_waits : is_refused_after one_each (Ask (sub 2 1 1) 10 ∷ []) (Dispatch (stage 1)) ≡ true
nothing_waits = refl

sent_already : is_refused_after one_each (accepted_one ++ Dispatch (stage 1) ∷ []) (Dispatch (stage 1)) ≡ true
sent_already = refl

-- not where nobody asked, and the buffer is not over its size
nobody_asked : is_refused_after (pushing 2) pushed_two (Dispatch (stage 1)) ≡ true
nobody_asked = refl

-- nobody asked, and the buffer is over its size
over_the_size : may_come_after (pushing 1) pushed_two (Dispatch (stage 1)) ≡ true
over_the_size = refl

-- once somebody asks
somebody_asked : may_come_after (pushing 2) (pushed_two ++ Ask (sub 2 1 1) 10 ∷ []) (Dispatch (stage 1)) ≡ true
somebody_asked = refl

-- not to a dead consumer
dead_consumer : is_refused_after (pushing 2) (Ask (sub 2 1 1) 10 ∷ Kill (stage 2) ByKill ∷ pushed_two) (Dispatch (stage 1)) ≡ true
dead_consumer = refl

-- not by a dead stage
dead_stage : is_refused_after (pushing 2) (pushed_two ++ Kill (stage 1) ByKill ∷ []) (Dispatch (stage 1)) ≡ true
dead_stage = refl

-- a processor without batchers, and a stage that is not there, have nothing to send
last_stage : is_refused_after one_each (accepted_one ++ Dispatch (stage 1) ∷ []) (Dispatch (stage 2)) ≡ true
last_stage = refl

unknown_stage : is_refused_after one_each (accepted_one ++ Dispatch (stage 1) ∷ []) (Dispatch (stage 5)) ≡ true
unknown_stage = refl

-- a broadcast waits for the least demand
abbrev both : Topology
both =
    with_stages
    (producer 1 (codes "p") 0 ∷ feeding 1 (processor 2 (codes "processors.0") 0 [])
    ∷ record (batcher 3 (codes "b") 0) { dispatch = Broadcast; batch_size = 1 }
    ∷ batch_processor 4 (codes "b.0") 0 0 ∷ batch_processor 5 (codes "b.1") 0 1 ∷ [])

abbrev one_closed : List Step
one_closed =
    Ask (sub 2 1 1) 10 ∷ Ask (sub 3 2 1) 3 ∷ Ask (sub 4 3 1) 1 ∷ Fetch (stage 1) 10 ∷ Accept (stage 1) (codes "x" ∷ []) ∷ Dispatch (stage 1)
    ∷ Take (stage 2) (sub 2 1 1) 1
    ∷ Done (stage 2) (passes 1 (codes "x" ∷ [])) ∷ Dispatch (stage 2) ∷ Gather (stage 3) (message_no 1)
    ∷ Close (stage 3) (message_no 1) Size ∷ []

waits_for_the_least : is_refused_after both one_closed (Dispatch (stage 3)) ≡ true
waits_for_the_least = refl

sends_to_both : may_come_after both (one_closed ++ Ask (sub 5 3 1) 1 ∷ []) (Dispatch (stage 3)) ≡ true
sends_to_both = refl

-- and does not wait for a dead one
sends_to_the_live : may_come_after both (one_closed ++ Kill (stage 5) ByKill ∷ []) (Dispatch (stage 3)) ≡ true
sends_to_the_live = refl

-- What is owed

-- after records that may be sent only their dispatch may come
owed_dispatch : is_refused_after one_each accepted_one (Tick 0) ≡ true
owed_dispatch = refl

owed_to_the_stage : is_refused_after two_producers (Ask (sub 3 1 1) 10 ∷ Ask (sub 3 2 1) 10 ∷ Fetch (stage 1) 10 ∷ Fetch (stage 2) 10
    ∷ Accept (stage 1) (codes "x" ∷ []) ∷ []) (Dispatch (stage 2)) ≡ true
owed_to_the_stage = refl

owed_before_a_kill : is_refused_after one_each accepted_one (Kill (stage 1) ByKill) ≡ true
owed_before_a_kill = refl

owed_over_the_size : is_refused_after (pushing 1) pushed_two (Ask (sub 2 1 1) 10) ≡ true
owed_over_the_size = refl

-- where it may not come none is owed
not_owed : may_come_after (pushing 2) pushed_two (Tick 0) ≡ true
not_owed = refl

-- after a crash only the kill of its stage may come, for the crash
abbrev crashed_chunk : List Step
crashed_chunk = accepted_one ++ Dispatch (stage 1) ∷ Take (stage 2) (sub 2 1 1) 1 ∷ Done (stage 2) (Crashed ∷ []) ∷ []

abbrev crashing : Topology
crashing = one_ruled (CrashRule [] ∷ [])

owed_kill : may_come_after crashing crashed_chunk (Kill (stage 2) ByCrash) ≡ true
owed_kill = refl

owed_first : none_may_come_after crashing crashed_chunk (
    Kill (stage 2) ByKill
    ∷ Kill (stage 1) ByCrash
    ∷ Tick 0
    ∷ []) ≡ true
owed_first = refl
