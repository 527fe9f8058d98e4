-- Rows: a fetch, and what answers it.
use Rattle.std.proofs.Common.{◌≡◌, refl}
use Rattle.std.specs.Prelude.{true, List, [], ◌∷◌, ◌++◌, codes, replicate}
use Rattle.pipe_types.specs.declared.topology.Topology.{Topology}
use Rattle.pipe_types.specs.declared.topology.Dispatch.TheVariants.{Partition}
use Rattle.pipe_types.specs.declared.message.Why.TheVariants.{Kill as ByKill}
use Rattle.pipe_types.specs.declared.step.Step.{Step}
use Rattle.pipe_types.specs.declared.step.Step.TheVariants.{Ask, Fetch, Accept, Quiet, SourceEnd, Dispatch, Take, Kill, Restart, Tick, Drain}
use Rattle.pipe_types.specs.declared.step.SourceHow.TheVariants.{End, Fault, TooLong, Limit as LimitHow}
use Rattle.pipe_types.specs.declared.step.DrainCause.TheVariants.{Sources, Control}
use Rattle.pipe_types.specs.Numbers.{stage}
use Rattle.model_checks.proofs.Base.{may_come_after, is_refused_after, producer, processor, with_stages, one_each, sub, two_processors, two_producers, by_key, each_may_come_after}

abbrev asked_ten : List Step
asked_ten = Ask (sub 2 1 1) 10 ∷ []

abbrev fetched : List Step
fetched = asked_ten ++ Fetch (stage 1) 10 ∷ []

abbrev pushing : Topology
pushing = with_stages (record (producer 1 (codes "p") 0) { push = true } ∷ processor 2 (codes "processors.0") 0 [] ∷ [])

-- Fetch

-- as many as was asked for
fetch_asked : may_come_after one_each asked_ten (Fetch (stage 1) 10) ≡ true
fetch_asked = refl

fetch_less : is_refused_after one_each asked_ten (Fetch (stage 1) 9) ≡ true
fetch_less = refl

fetch_more : is_refused_after one_each asked_ten (Fetch (stage 1) 11) ≡ true
fetch_more = refl

-- a pull producer fetches nothing that nobody asked for
fetch_nothing : is_refused_after one_each [] (Fetch (stage 1) 0) ≡ true
fetch_nothing = refl

fetch_unasked : is_refused_after one_each [] (Fetch (stage 1) 1) ≡ true
fetch_unasked = refl

-- a pushing one fetches a thousand
fetch_pushed : may_come_after pushing [] (Fetch (stage 1) 1000) ≡ true
fetch_pushed = refl

-- the sum of all its subscriptions
fetch_for_two : may_come_after two_processors (Ask (sub 2 1 1) 10 ∷ Ask (sub 3 1 1) 10 ∷ []) (Fetch (stage 1) 20) ≡ true
fetch_for_two = refl

-- less what waits: a partition without demand keeps its unit, and the other's demand is ten
abbrev one_waits : List Step
one_waits = Ask (sub 3 1 1) 10 ∷ Fetch (stage 1) 10 ∷ Accept (stage 1) (codes "b" ∷ []) ∷ []

abbrev by_payload : Topology
by_payload =
    with_stages
    (record (producer 1 (codes "p") 0) { dispatch = Partition; parts = 2 } ∷ processor 2 (codes "processors.0") 0 []
    ∷ processor 3 (codes "processors.1") 1 [] ∷ [])

fetch_less_what_waits : may_come_after by_payload one_waits (Fetch (stage 1) 9) ≡ true
fetch_less_what_waits = refl

fetch_over_what_waits : is_refused_after by_payload one_waits (Fetch (stage 1) 10) ≡ true
fetch_over_what_waits = refl

-- only a producer
fetch_of_a_processor : is_refused_after by_key (Ask (sub 2 1 1) 10 ∷ Ask (sub 3 2 1) 3 ∷ []) (Fetch (stage 2) 3) ≡ true
fetch_of_a_processor = refl

fetch_of_nobody : is_refused_after one_each asked_ten (Fetch (stage 7) 10) ≡ true
fetch_of_nobody = refl

-- not while it is out
fetch_while_out : is_refused_after pushing (Fetch (stage 1) 1000 ∷ []) (Fetch (stage 1) 1000) ≡ true
fetch_while_out = refl

-- not while it rests, and at the next tick again, which may have the same time
fetch_while_resting : is_refused_after one_each (fetched ++ Quiet (stage 1) ∷ []) (Fetch (stage 1) 10) ≡ true
fetch_while_resting = refl

fetch_after_a_tick : may_come_after one_each (fetched ++ Quiet (stage 1) ∷ Tick 0 ∷ []) (Fetch (stage 1) 10) ≡ true
fetch_after_a_tick = refl

-- a rest outlives a kill and a restart
fetch_after_a_restart : is_refused_after one_each (fetched ++ Quiet (stage 1) ∷ Kill (stage 1) ByKill ∷ Restart (stage 1)
    ∷ Ask (sub 2 1 2) 10 ∷ []) (Fetch (stage 1) 10) ≡ true
fetch_after_a_restart = refl

-- one producer's rest is not another's
fetch_of_the_other : may_come_after two_producers (Ask (sub 3 1 1) 10 ∷ Ask (sub 3 2 1) 10 ∷ Fetch (stage 1) 10 ∷ Quiet (stage 1) ∷ [])
    (Fetch (stage 2) 10) ≡ true
fetch_of_the_other = refl

-- not once its source has ended
fetch_after_the_end : is_refused_after one_each (fetched ++ SourceEnd (stage 1) End ∷ []) (Fetch (stage 1) 10) ≡ true
fetch_after_the_end = refl

-- not once the drain is on
fetch_after_the_drain : is_refused_after one_each (asked_ten ++ Drain Control ∷ []) (Fetch (stage 1) 10) ≡ true
fetch_after_the_drain = refl

-- not once the bytes have reached their limit
fetch_at_the_bytes : is_refused_after (record pushing { byte_limit = 1 }) (Fetch (stage 1) 1000 ∷ Accept (stage 1) (codes "x" ∷ []) ∷ [])
    (Fetch (stage 1) 1000) ≡ true
fetch_at_the_bytes = refl

-- no more than the records that are left
fetch_what_is_left : may_come_after (record pushing { record_limit = 3 }) (Fetch (stage 1) 3 ∷ Accept (stage 1) (codes "x" ∷ []) ∷ [])
    (Fetch (stage 1) 2) ≡ true
fetch_what_is_left = refl

fetch_over_what_is_left : is_refused_after (record pushing { record_limit = 3 })
    (Fetch (stage 1) 3 ∷ Accept (stage 1) (codes "x" ∷ []) ∷ []) (Fetch (stage 1) 3) ≡ true
fetch_over_what_is_left = refl

-- not by a dead producer
fetch_while_dead : is_refused_after pushing (Kill (stage 1) ByKill ∷ []) (Fetch (stage 1) 1000) ≡ true
fetch_while_dead = refl

-- Accept

-- from one record to as many as the fetch may bring
accept_one : may_come_after one_each fetched (Accept (stage 1) (codes "x" ∷ [])) ≡ true
accept_one = refl

accept_all : may_come_after one_each fetched (Accept (stage 1) (replicate 10 (codes "x"))) ≡ true
accept_all = refl

accept_none : is_refused_after one_each fetched (Accept (stage 1) []) ≡ true
accept_none = refl

accept_too_many : is_refused_after one_each fetched (Accept (stage 1) (replicate 11 (codes "x"))) ≡ true
accept_too_many = refl

-- an empty record is one
accept_empty : may_come_after one_each fetched (Accept (stage 1) ([] ∷ [])) ≡ true
accept_empty = refl

-- only while the fetch is out
accept_unfetched : is_refused_after one_each asked_ten (Accept (stage 1) (codes "x" ∷ [])) ≡ true
accept_unfetched = refl

accept_twice : is_refused_after one_each (fetched ++ Accept (stage 1) (codes "x" ∷ []) ∷ Dispatch (stage 1) ∷ [])
    (Accept (stage 1) (codes "x" ∷ [])) ≡ true
accept_twice = refl

-- the fetch of another is not enough
accept_of_the_other : is_refused_after two_producers (Ask (sub 3 1 1) 10 ∷ Fetch (stage 1) 10 ∷ []) (Accept (stage 2) (codes "x" ∷ []))
    ≡ true
accept_of_the_other = refl

-- nor what a processor has out
accept_of_a_processor : is_refused_after one_each (fetched ++ Accept (stage 1) (codes "x" ∷ []) ∷ Dispatch (stage 1)
    ∷ Take (stage 2) (sub 2 1 1) 1 ∷ []) (Accept (stage 2) (codes "x" ∷ [])) ≡ true
accept_of_a_processor = refl

-- not from a killed incarnation
accept_while_dead : is_refused_after one_each (fetched ++ Kill (stage 1) ByKill ∷ []) (Accept (stage 1) (codes "x" ∷ [])) ≡ true
accept_while_dead = refl

-- after the drain a fetch that is out still answers
accept_after_the_drain : may_come_after one_each (fetched ++ Drain Control ∷ []) (Accept (stage 1) (codes "x" ∷ [])) ≡ true
accept_after_the_drain = refl

-- Quiet

quiet_answer : may_come_after one_each fetched (Quiet (stage 1)) ≡ true
quiet_answer = refl

quiet_unfetched : is_refused_after one_each asked_ten (Quiet (stage 1)) ≡ true
quiet_unfetched = refl

quiet_while_dead : is_refused_after one_each (fetched ++ Kill (stage 1) ByKill ∷ []) (Quiet (stage 1)) ≡ true
quiet_while_dead = refl

quiet_of_a_processor : is_refused_after one_each (fetched ++ Accept (stage 1) (codes "x" ∷ []) ∷ Dispatch (stage 1)
    ∷ Take (stage 2) (sub 2 1 1) 1 ∷ []) (Quiet (stage 2)) ≡ true
quiet_of_a_processor = refl

-- after the drain a fetch that is out still answers
quiet_after_the_drain : may_come_after one_each (fetched ++ Drain Control ∷ []) (Quiet (stage 1)) ≡ true
quiet_after_the_drain = refl

-- The end of a source

ends_of_a_source : each_may_come_after one_each fetched (
    SourceEnd (stage 1) End
    ∷ SourceEnd (stage 1) Fault
    ∷ SourceEnd (stage 1) TooLong
    ∷ []) ≡ true
ends_of_a_source = refl

-- the limit ends the control source alone
end_by_the_limit : is_refused_after one_each fetched (SourceEnd (stage 1) LimitHow) ≡ true
end_by_the_limit = refl

end_unfetched : is_refused_after one_each asked_ten (SourceEnd (stage 1) End) ≡ true
end_unfetched = refl

end_while_dead : is_refused_after one_each (fetched ++ Kill (stage 1) ByKill ∷ []) (SourceEnd (stage 1) End) ≡ true
end_while_dead = refl

end_of_a_processor : is_refused_after one_each (fetched ++ Accept (stage 1) (codes "x" ∷ []) ∷ Dispatch (stage 1)
    ∷ Take (stage 2) (sub 2 1 1) 1 ∷ []) (SourceEnd (stage 2) End) ≡ true
end_of_a_processor = refl

-- the control source ends once, with no fetch, and by the limit only after ten thousand lines
control_end : may_come_after one_each [] (SourceEnd (stage 0) End) ≡ true
control_end = refl

control_end_by_fault : may_come_after one_each [] (SourceEnd (stage 0) Fault) ≡ true
control_end_by_fault = refl

control_end_twice : is_refused_after one_each (SourceEnd (stage 0) End ∷ []) (SourceEnd (stage 0) End) ≡ true
control_end_twice = refl

control_end_by_the_limit : is_refused_after one_each [] (SourceEnd (stage 0) LimitHow) ≡ true
control_end_by_the_limit = refl

-- it ends no producer's source, and answers no post
control_end_alone : is_refused_after one_each (SourceEnd (stage 0) End ∷ []) (Drain Sources) ≡ true
control_end_alone = refl

control_end_answers_nothing : may_come_after one_each (fetched ++ SourceEnd (stage 0) End ∷ []) (Quiet (stage 1)) ≡ true
control_end_answers_nothing = refl
