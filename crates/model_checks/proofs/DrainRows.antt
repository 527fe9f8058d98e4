-- Rows: a tick, a drain, and a refused line.
use Rattle.std.proofs.Common.{◌≡◌, refl}
use Rattle.std.specs.Prelude.{true, List, [], ◌∷◌, ◌++◌, codes}
use Rattle.pipe_types.specs.declared.topology.Rule.TheVariants.{Crash as CrashRule}
use Rattle.pipe_types.specs.declared.message.Reply.TheVariants.{Crashed}
use Rattle.pipe_types.specs.declared.message.Why.TheVariants.{Crash as ByCrash, Kill as ByKill, Stop as ByStop}
use Rattle.pipe_types.specs.declared.step.Step.{Step}
use Rattle.pipe_types.specs.declared.step.Step.TheVariants.{Ask, Fetch, Accept, Quiet, SourceEnd, Dispatch, Take, Done, Kill, Late, Tick, Drain, Refuse}
use Rattle.pipe_types.specs.declared.step.LateAnswer.TheVariants.{Source}
use Rattle.pipe_types.specs.declared.step.SourceHow.TheVariants.{End, Fault, TooLong}
use Rattle.pipe_types.specs.declared.step.DrainCause.TheVariants.{Sources, Control, Limit as LimitCause, Idle}
use Rattle.pipe_types.specs.Numbers.{stage}
use Rattle.pipe_model.specs.History.{history}
use Rattle.pipe_model.specs.Moves.{StepMove, move}
use Rattle.model_checks.proofs.Base.{may_come_after, is_refused_after, one_each, sub, one_ruled, two_processors, two_producers}

abbrev fetched : List Step
fetched = Ask (sub 2 1 1) 10 ∷ Fetch (stage 1) 10 ∷ []

-- Tick

-- the same time or a later one
tick_later : may_come_after one_each (Tick 5 ∷ []) (Tick 9) ≡ true
tick_later = refl

tick_again : may_come_after one_each (Tick 5 ∷ []) (Tick 5) ≡ true
tick_again = refl

tick_back : is_refused_after one_each (Tick 5 ∷ []) (Tick 4) ≡ true
tick_back = refl

tick_first : may_come_after one_each [] (Tick 0) ≡ true
tick_first = refl

-- Drain

-- where all sources have ended
drain_at_the_end : may_come_after one_each (fetched ++ SourceEnd (stage 1) Fault ∷ []) (Drain Sources) ≡ true
drain_at_the_end = refl

drain_at_a_late_end : may_come_after one_each (fetched ++ Kill (stage 1) ByKill ∷ Late (stage 1) 0 1 (Source TooLong) ∷ []) (Drain Sources)
    ≡ true
drain_at_a_late_end = refl

drain_before_the_end : is_refused_after one_each fetched (Drain Sources) ≡ true
drain_before_the_end = refl

-- not where one of two has
drain_at_one_end : is_refused_after two_producers (Ask (sub 3 1 1) 10 ∷ Fetch (stage 1) 10 ∷ SourceEnd (stage 1) End ∷ []) (Drain Sources)
    ≡ true
drain_at_one_end = refl

drain_at_both_ends : may_come_after two_producers (Ask (sub 3 1 1) 10 ∷ Fetch (stage 1) 10 ∷ SourceEnd (stage 1) End ∷ Ask (sub 3 2 1) 10
    ∷ Fetch (stage 2) 10 ∷ SourceEnd (stage 2) End ∷ []) (Drain Sources) ≡ true
drain_at_both_ends = refl

-- by a control line, while lines are read
drain_by_a_line : may_come_after one_each [] (Drain Control) ≡ true
drain_by_a_line = refl

drain_after_the_lines : is_refused_after one_each (SourceEnd (stage 0) End ∷ []) (Drain Control) ≡ true
drain_after_the_lines = refl

-- by the limit of records or of bytes
drain_by_records : may_come_after (record one_each { record_limit = 2 })
    (Ask (sub 2 1 1) 10 ∷ Fetch (stage 1) 2 ∷ Accept (stage 1) (codes "x" ∷ codes "y" ∷ []) ∷ Dispatch (stage 1) ∷ []) (Drain LimitCause)
    ≡ true
drain_by_records = refl

drain_by_fewer_records : is_refused_after (record one_each { record_limit = 3 })
    (Ask (sub 2 1 1) 10 ∷ Fetch (stage 1) 3 ∷ Accept (stage 1) (codes "x" ∷ codes "y" ∷ []) ∷ Dispatch (stage 1) ∷ []) (Drain LimitCause)
    ≡ true
drain_by_fewer_records = refl

drain_by_bytes : may_come_after (record one_each { byte_limit = 3 })
    (fetched ++ Accept (stage 1) (codes "xyz" ∷ []) ∷ Dispatch (stage 1) ∷ []) (Drain LimitCause) ≡ true
drain_by_bytes = refl

drain_by_fewer_bytes : is_refused_after (record one_each { byte_limit = 4 })
    (fetched ++ Accept (stage 1) (codes "xyz" ∷ []) ∷ Dispatch (stage 1) ∷ []) (Drain LimitCause) ≡ true
drain_by_fewer_bytes = refl

-- by idling
drain_by_idling : may_come_after (record one_each { idle_limit = 1 }) (fetched ++ Quiet (stage 1) ∷ []) (Drain Idle) ≡ true
drain_by_idling = refl

drain_by_less_idling : is_refused_after (record one_each { idle_limit = 2 }) (fetched ++ Quiet (stage 1) ∷ []) (Drain Idle) ≡ true
drain_by_less_idling = refl

drain_by_no_idling : is_refused_after one_each [] (Drain Idle) ≡ true
drain_by_no_idling = refl

-- any other step behind the quiet answers begins the row anew: a kill, an ask
drain_after_a_kill : is_refused_after (record one_each { idle_limit = 1 }) (fetched ++ Quiet (stage 1) ∷ Kill (stage 2) ByKill ∷ [])
    (Drain Idle) ≡ true
drain_after_a_kill = refl

drain_after_an_ask : is_refused_after (record two_processors { idle_limit = 1 }) (fetched ++ Quiet (stage 1) ∷ Ask (sub 3 1 1) 10 ∷ [])
    (Drain Idle) ≡ true
drain_after_an_ask = refl

-- once only, whatever the cause
drain_twice : is_refused_after one_each (Drain Control ∷ []) (Drain Control) ≡ true
drain_twice = refl

drain_for_another_cause : is_refused_after one_each (fetched ++ SourceEnd (stage 1) End ∷ Drain Control ∷ []) (Drain Sources) ≡ true
drain_for_another_cause = refl

-- of the causes that hold the pipeline takes the limit before idling
abbrev limit_and_end : List Step
limit_and_end =
    Ask (sub 3 1 1) 10 ∷ Ask (sub 3 2 1) 10 ∷ Fetch (stage 1) 10 ∷ Fetch (stage 2) 10 ∷ Accept (stage 1) (codes "xyz" ∷ [])
    ∷ Dispatch (stage 1) ∷ Quiet (stage 2) ∷ []

limit_before_idling : move (record two_producers { byte_limit = 3; idle_limit = 1 }) (history limit_and_end) ≡ StepMove (Drain LimitCause)
limit_before_idling = refl

idling_without_the_limit : move (record two_producers { byte_limit = 4; idle_limit = 1 }) (history limit_and_end) ≡ StepMove (Drain Idle)
idling_without_the_limit = refl

-- Refuse

-- the number after all lines that were read
refuse_first : may_come_after one_each [] (Refuse 1) ≡ true
refuse_first = refl

refuse_zero : is_refused_after one_each [] (Refuse 0) ≡ true
refuse_zero = refl

refuse_second_at_first : is_refused_after one_each [] (Refuse 2) ≡ true
refuse_second_at_first = refl

refuse_fourth : may_come_after one_each (Kill (stage 2) ByStop ∷ Refuse 2 ∷ Drain Control ∷ []) (Refuse 4) ≡ true
refuse_fourth = refl

-- a crash's kill and another drain are no lines
refuse_after_a_crash : may_come_after (one_ruled (CrashRule [] ∷ []))
    (fetched ++ Accept (stage 1) (codes "x" ∷ []) ∷ Dispatch (stage 1) ∷ Take (stage 2) (sub 2 1 1) 1 ∷ Done (stage 2) (Crashed ∷ [])
    ∷ Kill (stage 2) ByCrash ∷ []) (Refuse 1) ≡ true
refuse_after_a_crash = refl

refuse_after_a_drain : may_come_after one_each (fetched ++ SourceEnd (stage 1) End ∷ Drain Sources ∷ []) (Refuse 1) ≡ true
refuse_after_a_drain = refl

-- not once the lines have ended
refuse_after_the_lines : is_refused_after one_each (SourceEnd (stage 0) End ∷ []) (Refuse 1) ≡ true
refuse_after_the_lines = refl
