-- The order of moves.
use Rattle.std.proofs.Common.{◌≡◌, refl}
use Rattle.std.specs.Prelude.{true, List, [], ◌∷◌, ◌++◌, codes}
use Rattle.pipe_types.specs.declared.topology.Topology.{Topology}
use Rattle.pipe_types.specs.declared.topology.Rule.TheVariants.{Key, Flush as FlushRule}
use Rattle.pipe_types.specs.declared.message.Reply.TheVariants.{Pass}
use Rattle.pipe_types.specs.declared.message.Trigger.TheVariants.{Size, Flush}
use Rattle.pipe_types.specs.declared.message.Why.TheVariants.{Kill as ByKill}
use Rattle.pipe_types.specs.declared.step.Step.{Step}
use Rattle.pipe_types.specs.declared.step.Step.TheVariants.{Ask, Fetch, Accept, Quiet, SourceEnd, Dispatch, Take, Done, Gather, Close, Kill, Restart, Drain, Halt}
use Rattle.pipe_types.specs.declared.step.SourceHow.TheVariants.{End}
use Rattle.pipe_types.specs.declared.step.DrainCause.TheVariants.{Sources, Control}
use Rattle.pipe_types.specs.Numbers.{stage, message_no}
use Rattle.pipe_model.specs.History.{history}
use Rattle.pipe_model.specs.Moves.{Drained, StepMove, Job, JobsOut, Pause, move}
use Rattle.model_checks.proofs.Base.{producer, processor, with_stages, one_each, sub, keyed, feeding, batcher, batch_processor, two_producers, by_key, limited, of_one}

abbrev fetched : List Step
fetched = Ask (sub 2 1 1) 10 ∷ Fetch (stage 1) 10 ∷ []

-- a restart comes before the drain and before asks
restart_first : move one_each (history (Kill (stage 2) ByKill ∷ [])) ≡ StepMove (Restart (stage 2))
restart_first = refl

restart_before_the_drain : move one_each (history (fetched ++ Kill (stage 2) ByKill ∷ SourceEnd (stage 1) End ∷ []))
    ≡ StepMove (Restart (stage 2))
restart_before_the_drain = refl

-- the least stage that may be restarted: not one whose job is out
least_at_home : move one_each (history (fetched ++ Kill (stage 1) ByKill ∷ Kill (stage 2) ByKill ∷ [])) ≡ StepMove (Restart (stage 2))
least_at_home = refl

least_of_two : move one_each (history (Kill (stage 2) ByKill ∷ Kill (stage 1) ByKill ∷ [])) ≡ StepMove (Restart (stage 1))
least_of_two = refl

-- where its job is out the pipeline waits
waits_for_a_killed_job : move one_each (history (fetched ++ Kill (stage 1) ByKill ∷ [])) ≡ JobsOut
waits_for_a_killed_job = refl

-- past the limit of restarts the halt stands in the place of the restart
halt_in_its_place : move (record one_each { limits = limited 0 5000 }) (history (Kill (stage 2) ByKill ∷ [])) ≡ StepMove Halt
halt_in_its_place = refl

-- the drain comes before an ask
drain_before_an_ask : move one_each (history (fetched ++ SourceEnd (stage 1) End ∷ Kill (stage 2) ByKill ∷ Restart (stage 2) ∷ []))
    ≡ StepMove (Drain Sources)
drain_before_an_ask = refl

-- of subscriptions the least consumer, and then the least producer
least_producer : move two_producers (history (Ask (sub 3 2 1) 10 ∷ [])) ≡ StepMove (Ask (sub 3 1 1) 10)
least_producer = refl

least_consumer : move by_key [] ≡ StepMove (Ask (sub 2 1 1) 10)
least_consumer = refl

then_the_batcher : move by_key (history (Ask (sub 2 1 1) 10 ∷ [])) ≡ StepMove (Ask (sub 3 2 1) 3)
then_the_batcher = refl

-- an ask before a dispatch
abbrev pushing : Topology
pushing = with_stages (record (producer 1 (codes "p") 0) { push = true } ∷ processor 2 (codes "processors.0") 0 [] ∷ [])

ask_before_a_dispatch : move pushing (history (Fetch (stage 1) 1000 ∷ Accept (stage 1) (codes "x" ∷ []) ∷ []))
    ≡ StepMove (Ask (sub 2 1 1) 10)
ask_before_a_dispatch = refl

then_the_dispatch : move pushing (history (Fetch (stage 1) 1000 ∷ Accept (stage 1) (codes "x" ∷ []) ∷ Ask (sub 2 1 1) 10 ∷ []))
    ≡ StepMove (Dispatch (stage 1))
then_the_dispatch = refl

-- a dispatch before a close, a close before a gather, and a gather before a job
abbrev two_sent : List Step
two_sent =
    Ask (sub 2 1 1) 10 ∷ Ask (sub 3 2 1) 3 ∷ Ask (sub 4 3 1) 1 ∷ Fetch (stage 1) 10 ∷ Accept (stage 1) (codes "x" ∷ codes "y" ∷ [])
    ∷ Dispatch (stage 1)
    ∷ Take (stage 2) (sub 2 1 1) 2 ∷ Done (stage 2) (Pass (keyed 1 (codes "x")) ∷ Pass (keyed 2 (codes "y")) ∷ []) ∷ Dispatch (stage 2) ∷ []

gather_before_a_job : move of_one (history two_sent) ≡ StepMove (Gather (stage 3) (message_no 1))
gather_before_a_job = refl

close_before_a_gather : move of_one (history (two_sent ++ Gather (stage 3) (message_no 1) ∷ []))
    ≡ StepMove (Close (stage 3) (message_no 1) Size)
close_before_a_gather = refl

dispatch_before_a_close : move of_one (history (two_sent ++ Gather (stage 3) (message_no 1) ∷ Gather (stage 3) (message_no 2)
    ∷ Ask (sub 3 2 1) 2 ∷ Close (stage 3) (message_no 1) Size ∷ [])) ≡ StepMove (Dispatch (stage 3))
dispatch_before_a_close = refl

-- the first batch of a batcher that may close, also where an earlier one may not
abbrev second_full : List Step
second_full =
    Ask (sub 2 1 1) 10 ∷ Ask (sub 3 2 1) 3 ∷ Ask (sub 4 3 1) 1 ∷ Fetch (stage 1) 10 ∷ Accept (stage 1) (codes "x" ∷ codes "!" ∷ [])
    ∷ Dispatch (stage 1)
    ∷ Take (stage 2) (sub 2 1 1) 2 ∷ Done (stage 2) (Pass (keyed 1 (codes "x")) ∷ Pass (record (keyed 2 (codes "!")) { flush = true }) ∷ [])
    ∷ Dispatch (stage 2)
    ∷ Gather (stage 3) (message_no 1) ∷ Gather (stage 3) (message_no 2) ∷ Ask (sub 3 2 1) 2 ∷ []

first_that_may_close : move (with_stages (producer 1 (codes "p") 0
    ∷ feeding 1 (processor 2 (codes "processors.0") 0 (Key 0 ∷ FlushRule (codes "!") ∷ [])) ∷ batcher 3 (codes "b") 0
    ∷ batch_processor 4 (codes "b.0") 0 0 ∷ [])) (history second_full) ≡ StepMove (Close (stage 3) (message_no 2) Flush)
first_that_may_close = refl

-- jobs of the greatest stage first
greatest_job : move one_each (history (fetched ++ Accept (stage 1) (codes "x" ∷ []) ∷ Dispatch (stage 1) ∷ [])) ≡ Job (stage 2)
greatest_job = refl

next_job : move one_each (history (fetched ++ Accept (stage 1) (codes "x" ∷ []) ∷ Dispatch (stage 1) ∷ Take (stage 2) (sub 2 1 1) 1 ∷ []))
    ≡ Job (stage 1)
next_job = refl

-- then the jobs that are out, and then a pause
then_jobs_out : move one_each (history fetched) ≡ JobsOut
then_jobs_out = refl

then_a_pause : move one_each (history (fetched ++ Quiet (stage 1) ∷ [])) ≡ Pause
then_a_pause = refl

-- drained only with every job at home
not_drained_with_a_job : move one_each (history (fetched ++ Drain Control ∷ [])) ≡ JobsOut
not_drained_with_a_job = refl

drained_with_none : move one_each (history (fetched ++ Drain Control ∷ Quiet (stage 1) ∷ [])) ≡ Drained
drained_with_none = refl

-- a drained pipeline restarts nothing
drained_with_a_dead_stage : move one_each (history (Drain Control ∷ Kill (stage 2) ByKill ∷ [])) ≡ Drained
drained_with_a_dead_stage = refl

-- a drain by itself does not end what is still on its way
not_drained_with_a_message : move one_each (history (fetched ++ Accept (stage 1) (codes "x" ∷ []) ∷ Dispatch (stage 1) ∷ Drain Control
    ∷ [])) ≡ Job (stage 2)
not_drained_with_a_message = refl
