-- Rows: a kill, a late answer, a restart, and a halt.
use Rattle.std.proofs.Common.{◌≡◌, refl}
use Rattle.std.specs.Prelude.{true, List, [], ◌∷◌, ◌++◌, codes, replicate, Some}
use Rattle.pipe_types.specs.declared.topology.Topology.{Topology}
use Rattle.pipe_types.specs.declared.topology.Rule.TheVariants.{Key, Crash as CrashRule}
use Rattle.pipe_types.specs.declared.message.Reply.TheVariants.{Pass}
use Rattle.pipe_types.specs.declared.message.Outcome.TheVariants.{Successful, Failed}
use Rattle.pipe_types.specs.declared.message.BatchEnd.TheVariants.{Outcomes, Crashed as CrashedEnd}
use Rattle.pipe_types.specs.declared.message.Trigger.TheVariants.{Timeout}
use Rattle.pipe_types.specs.declared.message.Why.TheVariants.{Crash as ByCrash, Kill as ByKill, Stop as ByStop, Cancelled, Limit as ByLimit}
use Rattle.pipe_types.specs.declared.message.Loss.TheVariants.{Killed}
use Rattle.pipe_types.specs.declared.message.Place.TheVariants.{Lost}
use Rattle.pipe_types.specs.declared.step.Step.{Step}
use Rattle.pipe_types.specs.declared.step.Step.TheVariants.{Ask, Fetch, Accept, SourceEnd, Dispatch, Take, Done, Gather, Close, Child, Kill, Late, Restart, Tick, Drain, Halt, Refuse}
use Rattle.pipe_types.specs.declared.step.LateAnswer.TheVariants.{Records, Quiet as LateQuiet, Source, Wrote as LateWrote, Nothing}
use Rattle.pipe_types.specs.declared.step.SourceHow.TheVariants.{End, Fault, TooLong, Limit as LimitHow}
use Rattle.pipe_types.specs.declared.step.DrainCause.TheVariants.{Control}
use Rattle.pipe_types.specs.Numbers.{stage, message_no}
use Rattle.pipe_model.specs.History.{history}
use Rattle.pipe_model.specs.Flow.{place}
use Rattle.pipe_model.specs.Moves.{Halted, JobsOut, move}
use Rattle.model_checks.proofs.Base.{may_come_after, is_refused_after, producer, processor, with_stages, one_each, sub, keyed, feeding, batcher, batch_processor, strict, by_key, supervised, limited, each_may_come_after, none_may_come_after}

abbrev fetched : List Step
fetched = Ask (sub 2 1 1) 10 ∷ Fetch (stage 1) 10 ∷ []

abbrev late_fetch : List Step
late_fetch = fetched ++ Kill (stage 1) ByKill ∷ []

abbrev taken_one : List Step
taken_one = fetched ++ Accept (stage 1) (codes "x" ∷ []) ∷ Dispatch (stage 1) ∷ Take (stage 2) (sub 2 1 1) 1 ∷ []

-- Kill

-- a live stage, by a control line
kill_it : may_come_after one_each [] (Kill (stage 2) ByKill) ≡ true
kill_it = refl

stop_it : may_come_after one_each [] (Kill (stage 2) ByStop) ≡ true
stop_it = refl

kill_a_dead_one : is_refused_after one_each (Kill (stage 2) ByKill ∷ []) (Kill (stage 2) ByKill) ≡ true
kill_a_dead_one = refl

stop_a_dead_one : is_refused_after one_each (Kill (stage 2) ByKill ∷ []) (Kill (stage 2) ByStop) ≡ true
stop_a_dead_one = refl

kill_a_cancelled_one : is_refused_after strict (Kill (stage 1) ByKill ∷ []) (Kill (stage 2) ByKill) ≡ true
kill_a_cancelled_one = refl

kill_nobody : is_refused_after one_each [] (Kill (stage 3) ByKill) ≡ true
kill_nobody = refl

kill_the_control_source : is_refused_after one_each [] (Kill (stage 0) ByKill) ≡ true
kill_the_control_source = refl

kill_a_restarted_one : may_come_after one_each (Kill (stage 2) ByKill ∷ Restart (stage 2) ∷ []) (Kill (stage 2) ByStop) ≡ true
kill_a_restarted_one = refl

-- for a crash only where it is owed, and for no other reason
kills_of_nobody : none_may_come_after one_each [] (
    Kill (stage 2) ByCrash
    ∷ Kill (stage 2) ByLimit
    ∷ Kill (stage 2) (Cancelled (sub 2 1 1))
    ∷ []) ≡ true
kills_of_nobody = refl

-- not once the control source has ended
kill_after_the_lines : is_refused_after one_each (SourceEnd (stage 0) End ∷ []) (Kill (stage 2) ByKill) ≡ true
kill_after_the_lines = refl

-- Late

-- records as an accept's
late_records : may_come_after one_each late_fetch (Late (stage 1) 0 1 (Records (codes "x" ∷ []))) ≡ true
late_records = refl

late_all_records : may_come_after one_each late_fetch (Late (stage 1) 0 1 (Records (replicate 10 (codes "x")))) ≡ true
late_all_records = refl

late_no_records : is_refused_after one_each late_fetch (Late (stage 1) 0 1 (Records [])) ≡ true
late_no_records = refl

late_too_many_records : is_refused_after one_each late_fetch (Late (stage 1) 0 1 (Records (replicate 11 (codes "x")))) ≡ true
late_too_many_records = refl

-- quiet, or an end of the source that is not the limit
late_answers_of_a_fetch : each_may_come_after one_each late_fetch (
    Late (stage 1) 0 1 LateQuiet
    ∷ Late (stage 1) 0 1 (Source End)
    ∷ Late (stage 1) 0 1 (Source Fault)
    ∷ Late (stage 1) 0 1 (Source TooLong)
    ∷ []) ≡ true
late_answers_of_a_fetch = refl

late_but_of_no_fetch : none_may_come_after one_each late_fetch (
    Late (stage 1) 0 1 (Source LimitHow)
    -- no other answer to a fetch
    ∷ Late (stage 1) 0 1 Nothing
    ∷ Late (stage 1) 0 1 (LateWrote 0 CrashedEnd)
    ∷ []) ≡ true
late_but_of_no_fetch = refl

-- not of a live incarnation
late_while_live : is_refused_after one_each fetched (Late (stage 1) 0 1 LateQuiet) ≡ true
late_while_live = refl

-- not of a post that is not out
late_at_home : is_refused_after one_each (Kill (stage 1) ByKill ∷ []) (Late (stage 1) 0 1 LateQuiet) ≡ true
late_at_home = refl

late_twice : is_refused_after one_each (late_fetch ++ Late (stage 1) 0 1 LateQuiet ∷ []) (Late (stage 1) 0 1 LateQuiet) ≡ true
late_twice = refl

late_of_another_job : none_may_come_after one_each late_fetch (
    Late (stage 1) 1 1 LateQuiet
    -- not of another incarnation
    ∷ Late (stage 1) 0 2 LateQuiet
    ∷ Late (stage 1) 0 0 LateQuiet
    ∷ []) ≡ true
late_of_another_job = refl

-- the second incarnation's
late_of_the_second : may_come_after one_each (Kill (stage 1) ByKill ∷ Restart (stage 1) ∷ Ask (sub 2 1 2) 10 ∷ Fetch (stage 1) 10
    ∷ Kill (stage 1) ByKill ∷ []) (Late (stage 1) 0 2 LateQuiet) ≡ true
late_of_the_second = refl

-- nothing for a chunk
late_chunk : may_come_after one_each (taken_one ++ Kill (stage 2) ByKill ∷ []) (Late (stage 2) 0 1 Nothing) ≡ true
late_chunk = refl

late_but_of_no_chunk : none_may_come_after one_each (taken_one ++ Kill (stage 2) ByKill ∷ []) (
    Late (stage 2) 0 1 LateQuiet
    ∷ Late (stage 2) 0 1 (Source End)
    ∷ Late (stage 2) 0 1 (Records (codes "x" ∷ []))
    ∷ Late (stage 2) 0 1 (LateWrote 0 (Outcomes (Successful ∷ [])))
    ∷ []) ≡ true
late_but_of_no_chunk = refl

-- nothing for a child, by its slot
abbrev late_child : List Step
late_child =
    Ask (sub 2 1 1) 2 ∷ Fetch (stage 1) 2 ∷ Accept (stage 1) (codes "a" ∷ []) ∷ Dispatch (stage 1) ∷ Child (stage 2) (message_no 1) 1
    ∷ Kill (stage 2) ByKill ∷ []

late_in_its_slot : may_come_after supervised late_child (Late (stage 2) 1 1 Nothing) ≡ true
late_in_its_slot = refl

late_in_a_free_slot : is_refused_after supervised late_child (Late (stage 2) 0 1 Nothing) ≡ true
late_in_a_free_slot = refl

late_quiet_of_a_child : is_refused_after supervised late_child (Late (stage 2) 1 1 LateQuiet) ≡ true
late_quiet_of_a_child = refl

-- a batch's end and bytes as while it lives
abbrev late_batch : List Step
late_batch =
    Ask (sub 2 1 1) 10 ∷ Ask (sub 3 2 1) 3 ∷ Ask (sub 4 3 1) 1 ∷ Fetch (stage 1) 10 ∷ Accept (stage 1) (codes "q" ∷ []) ∷ Dispatch (stage 1)
    ∷ Take (stage 2) (sub 2 1 1) 1 ∷ Done (stage 2) (Pass (keyed 1 (codes "q")) ∷ []) ∷ Dispatch (stage 2) ∷ Gather (stage 3) (message_no 1)
    ∷ Tick 1000 ∷ Close (stage 3) (message_no 1) Timeout ∷ Dispatch (stage 3) ∷ Take (stage 4) (sub 4 3 1) 1 ∷ Kill (stage 4) ByKill ∷ []

late_write : may_come_after by_key late_batch (Late (stage 4) 0 1 (LateWrote 2 (Outcomes (Successful ∷ [])))) ≡ true
late_write = refl

late_short_write : may_come_after by_key late_batch (Late (stage 4) 0 1 (LateWrote 1 (Outcomes (Failed (codes "sink") ∷ [])))) ≡ true
late_short_write = refl

late_but_no_write : none_may_come_after by_key late_batch (
    Late (stage 4) 0 1 (LateWrote 3 (Outcomes (Successful ∷ [])))
    ∷ Late (stage 4) 0 1 (LateWrote 1 (Outcomes (Successful ∷ [])))
    ∷ Late (stage 4) 0 1 (LateWrote 0 CrashedEnd)
    ∷ Late (stage 4) 0 1 Nothing
    ∷ []) ≡ true
late_but_no_write = refl

-- a crash of a killed handler writes nothing and owes no kill
abbrev crashing : Topology
crashing =
    with_stages
    (producer 1 (codes "p") 0 ∷ feeding 1 (processor 2 (codes "processors.0") 0 (Key 0 ∷ [])) ∷ batcher 3 (codes "b") 0
    ∷ record (batch_processor 4 (codes "b.0") 0 0) { rules = CrashRule [] ∷ [] } ∷ [])

late_crash_of_a_crashing : may_come_after crashing late_batch (Late (stage 4) 0 1 (LateWrote 0 CrashedEnd)) ≡ true
late_crash_of_a_crashing = refl

late_crash_with_bytes : is_refused_after crashing late_batch (Late (stage 4) 0 1 (LateWrote 1 CrashedEnd)) ≡ true
late_crash_with_bytes = refl

late_crash_owes_nothing : may_come_after crashing (late_batch ++ Late (stage 4) 0 1 (LateWrote 0 CrashedEnd) ∷ []) (Restart (stage 4))
    ≡ true
late_crash_owes_nothing = refl

-- Restart

restart_it : may_come_after one_each (Kill (stage 1) ByKill ∷ []) (Restart (stage 1)) ≡ true
restart_it = refl

restart_a_live_one : is_refused_after one_each [] (Restart (stage 1)) ≡ true
restart_a_live_one = refl

restart_nobody : is_refused_after one_each [] (Restart (stage 3)) ≡ true
restart_nobody = refl

-- not while a post of it is out
restart_while_out : is_refused_after one_each late_fetch (Restart (stage 1)) ≡ true
restart_while_out = refl

restart_while_a_child_is_out : is_refused_after supervised late_child (Restart (stage 2)) ≡ true
restart_while_a_child_is_out = refl

restart_at_home : may_come_after one_each (late_fetch ++ Late (stage 1) 0 1 LateQuiet ∷ []) (Restart (stage 1)) ≡ true
restart_at_home = refl

-- another's post does not matter
restart_beside_a_fetch : may_come_after one_each (fetched ++ Kill (stage 2) ByKill ∷ []) (Restart (stage 2)) ≡ true
restart_beside_a_fetch = refl

-- not a producer whose source has ended, by an answer or a late one
restart_after_the_end : is_refused_after one_each (fetched ++ SourceEnd (stage 1) End ∷ Kill (stage 1) ByKill ∷ []) (Restart (stage 1))
    ≡ true
restart_after_the_end = refl

restart_after_a_late_end : is_refused_after one_each (late_fetch ++ Late (stage 1) 0 1 (Source Fault) ∷ []) (Restart (stage 1)) ≡ true
restart_after_a_late_end = refl

-- not a producer once the drain is on, and any other then too
restart_while_draining : is_refused_after one_each (Drain Control ∷ Kill (stage 1) ByKill ∷ []) (Restart (stage 1)) ≡ true
restart_while_draining = refl

restart_a_processor_while_draining : may_come_after one_each (Drain Control ∷ Kill (stage 2) ByKill ∷ []) (Restart (stage 2)) ≡ true
restart_a_processor_while_draining = refl

-- not past the limit of restarts
abbrev none_allowed : Topology
none_allowed = record one_each { limits = limited 0 5000 }

restart_past_the_limit : is_refused_after none_allowed (Kill (stage 2) ByKill ∷ []) (Restart (stage 2)) ≡ true
restart_past_the_limit = refl

-- not after a halt
restart_after_a_halt : is_refused_after none_allowed (Kill (stage 2) ByKill ∷ Halt ∷ []) (Restart (stage 2)) ≡ true
restart_after_a_halt = refl

-- Halt

halt_it : may_come_after none_allowed (Kill (stage 2) ByKill ∷ []) Halt ≡ true
halt_it = refl

-- not while a restart is allowed
halt_for_nothing : is_refused_after one_each (Kill (stage 2) ByKill ∷ []) Halt ≡ true
halt_for_nothing = refl

-- not while no stage needs one
halt_while_all_live : is_refused_after none_allowed [] Halt ≡ true
halt_while_all_live = refl

halt_for_an_ended_one : is_refused_after none_allowed (fetched ++ SourceEnd (stage 1) End ∷ Kill (stage 1) ByKill ∷ []) Halt ≡ true
halt_for_an_ended_one = refl

-- not while every such stage has a post out
halt_while_out : is_refused_after none_allowed late_fetch Halt ≡ true
halt_while_out = refl

halt_beside_one_that_is_out : may_come_after none_allowed (fetched ++ Kill (stage 2) ByKill ∷ []) Halt ≡ true
halt_beside_one_that_is_out = refl

halt_twice : is_refused_after none_allowed (Kill (stage 2) ByKill ∷ Halt ∷ []) Halt ≡ true
halt_twice = refl

-- after a halt only late answers come
abbrev halted : List Step
halted = fetched ++ Kill (stage 2) ByKill ∷ Halt ∷ []

late_after_a_halt : may_come_after none_allowed halted (Late (stage 1) 0 1 (Records (codes "x" ∷ []))) ≡ true
late_after_a_halt = refl

lost_by_the_halt : place none_allowed (history (halted ++ Late (stage 1) 0 1 (Records (codes "x" ∷ [])) ∷ [])) 1
    ≡ Some (Lost (Killed (stage 1) 1 ByLimit))
lost_by_the_halt = refl

nothing_after_a_halt : none_may_come_after none_allowed halted (
    Tick 5
    ∷ Refuse 2
    ∷ Drain Control
    ∷ SourceEnd (stage 0) End
    ∷ []) ≡ true
nothing_after_a_halt = refl

-- with a job out the pipeline waits for it
waits_after_a_halt : move none_allowed (history halted) ≡ JobsOut
waits_after_a_halt = refl

ends_after_a_halt : move none_allowed (history (halted ++ Late (stage 1) 0 1 LateQuiet ∷ [])) ≡ Halted
ends_after_a_halt = refl
