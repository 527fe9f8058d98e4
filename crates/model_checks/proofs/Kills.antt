-- Kills, cascades and restarts.
use Rattle.std.proofs.Common.{◌≡◌, refl}
use Rattle.std.specs.Prelude.{true, false, List, [], ◌∷◌, ◌++◌, map, codes, take, replicate, Some}
use Rattle.std.specs.Fmt.{digits}
use Rattle.pipe_types.specs.declared.topology.Topology.{Topology}
use Rattle.pipe_types.specs.declared.topology.CancelMode.{CancelMode}
use Rattle.pipe_types.specs.declared.topology.CancelMode.TheVariants.{Temporary, Transient, Permanent}
use Rattle.pipe_types.specs.declared.message.Outcome.TheVariants.{Successful}
use Rattle.pipe_types.specs.declared.message.Why.TheVariants.{Crash as ByCrash, Kill as ByKill, Stop as ByStop, Cancelled, Limit as ByLimit}
use Rattle.pipe_types.specs.declared.message.Loss.TheVariants.{Killed}
use Rattle.pipe_types.specs.declared.message.Place.TheVariants.{Acked, Lost}
use Rattle.pipe_types.specs.declared.step.Step.{Step}
use Rattle.pipe_types.specs.declared.step.Step.TheVariants.{Ask, Fetch, Accept, SourceEnd, Dispatch, Take, Done, Kill, Restart, Drain, Halt, Refuse}
use Rattle.pipe_types.specs.declared.step.SourceHow.TheVariants.{End}
use Rattle.pipe_types.specs.declared.step.DrainCause.TheVariants.{Sources}
use Rattle.pipe_types.specs.Numbers.{stage}
use Rattle.pipe_model.specs.History.{history, incarnation}
use Rattle.pipe_model.specs.Lives.{death, generation, is_live_sub, kill_set, exits}
use Rattle.pipe_model.specs.Flow.{place, open_demand}
use Rattle.pipe_model.specs.Ledger.{handled}
use Rattle.pipe_model.specs.Moves.{Halted, StepMove, move}
use Rattle.pipe_model.specs.Acknowledgements.{acknowledgements, is_lossless}
use Rattle.model_checks.proofs.Base.{is_run, is_sound, producer, processor, with_stages, one_each, sub, passes, feeding, batcher, batch_processor, strict, limited}

-- A kill of a producer takes the processor with it

abbrev both_killed : List Step
both_killed = Ask (sub 2 1 1) 10 ∷ Kill (stage 1) ByKill ∷ []

abbrev both_restarted : List Step
both_restarted =
    both_killed ++ Restart (stage 1) ∷ Restart (stage 2) ∷ Ask (sub 2 1 2) 10 ∷ Refuse 2 ∷ Fetch (stage 1) 10
    ∷ Accept (stage 1) (codes "x" ∷ [])
    ∷ Dispatch (stage 1) ∷ Take (stage 2) (sub 2 1 2) 1 ∷ Done (stage 2) (passes 1 (codes "x" ∷ [])) ∷ Fetch (stage 1) 9
    ∷ SourceEnd (stage 1) End
    ∷ Drain Sources ∷ []

is_legal_whole : is_run strict both_restarted ≡ true
is_legal_whole = refl

-- the first is killed by the line, and the second since its subscription closed
first_reason : death strict (history both_killed) (stage 1) ≡ Some ByKill
first_reason = refl

second_reason : death strict (history both_killed) (stage 2) ≡ Some (Cancelled (sub 2 1 1))
second_reason = refl

-- the least dead stage is restarted first
restarts_the_first : move strict (history both_killed) ≡ StepMove (Restart (stage 1))
restarts_the_first = refl

restarts_the_second : move strict (history (take 3 both_restarted)) ≡ StepMove (Restart (stage 2))
restarts_the_second = refl

-- only the second restart met a live neighbour, so it is generation 2
new_generation : generation strict (history both_restarted) (stage 2) (stage 1) ≡ 2
new_generation = refl

old_sub_is_closed : map (is_live_sub strict (history both_restarted)) (sub 2 1 1 ∷ sub 2 1 2 ∷ sub 2 1 3 ∷ []) ≡ false ∷ true ∷ false ∷ []
old_sub_is_closed = refl

new_incarnations : map (incarnation (history both_restarted)) (stage 1 ∷ stage 2 ∷ []) ≡ 2 ∷ 2 ∷ []
new_incarnations = refl

-- what came after the restart is acknowledged
is_acked : place strict (history both_restarted) 1 ≡ Some (Acked Successful)
is_acked = refl

is_not_lossless : is_lossless strict (history both_restarted) ≡ false
is_not_lossless = refl

-- What the killed stages hold is lost with them

-- a pushing producer, whose processor is killed with it
abbrev strict_push : Topology
strict_push =
    with_stages
    (record (producer 1 (codes "p") 0) { push = true } ∷ record (processor 2 (codes "processors.0") 0 []) { mode = Permanent } ∷ [])

abbrev killed_while_busy : List Step
killed_while_busy =
    Ask (sub 2 1 1) 10 ∷ Fetch (stage 1) 1000 ∷ Accept (stage 1) (replicate 12 (codes "x")) ∷ Dispatch (stage 1)
    ∷ Take (stage 2) (sub 2 1 1) 5
    ∷ Kill (stage 1) ByStop ∷ []

is_legal_busy : is_run strict_push killed_while_busy ≡ true
is_legal_busy = refl

-- message 1 ran, message 6 stood in the inbox, and message 11 waited in the producer
lost_with_the_stages : map (place strict_push (history killed_while_busy)) (1 ∷ 6 ∷ 11 ∷ [])
    ≡ Some (Lost (Killed (stage 2) 1 (Cancelled (sub 2 1 1)))) ∷ Some (Lost (Killed (stage 2) 1 (Cancelled (sub 2 1 1))))
    ∷ Some (Lost (Killed (stage 1) 1 ByStop)) ∷ []
lost_with_the_stages = refl

nothing_acknowledged : acknowledgements strict_push (history killed_while_busy) ≡ []
nothing_acknowledged = refl

-- What was sent before stays in the inbox of a stage that lives on, and is handled

abbrev temporary_push : Topology
temporary_push = with_stages (record (producer 1 (codes "p") 0) { push = true } ∷ processor 2 (codes "processors.0") 0 [] ∷ [])

abbrev handled_after_the_kill : List Step
handled_after_the_kill =
    killed_while_busy ++ Done (stage 2) (passes 1 (replicate 5 (codes "x"))) ∷ Restart (stage 1) ∷ Ask (sub 2 1 2) 10
    ∷ Take (stage 2) (sub 2 1 1) 5 ∷ Done (stage 2) (passes 6 (replicate 5 (codes "x"))) ∷ []

is_legal_temporary : is_run temporary_push handled_after_the_kill ≡ true
is_legal_temporary = refl

handled_on : map (place temporary_push (history handled_after_the_kill)) (1 ∷ 6 ∷ 11 ∷ []) ≡ Some (Acked Successful)
    ∷ Some (Acked Successful) ∷ Some (Lost (Killed (stage 1) 1 ByStop)) ∷ []
handled_on = refl

-- the closed subscription still counts what is handled, and has no open demand
closed_counts : map (handled temporary_push (history handled_after_the_kill)) (sub 2 1 1 ∷ sub 2 1 2 ∷ []) ≡ 10 ∷ 0 ∷ []
closed_counts = refl

closed_demand : map (open_demand temporary_push (history handled_after_the_kill)) (sub 2 1 1 ∷ sub 2 1 2 ∷ []) ≡ 0 ∷ 10 ∷ []
closed_demand = refl

closed_with_demand_left : map (λ s. open_demand one_each (history (Ask (sub 2 1 1) 10 ∷ Kill (stage s) ByKill ∷ [])) (sub 2 1 1))
    (1 ∷ 2 ∷ []) ≡ 0 ∷ 0 ∷ []
closed_with_demand_left = refl

-- A cascade goes level by level, as far as the modes exit for the first reason

abbrev four_levels : (processor batcher writer : CancelMode) → Topology
four_levels second third fourth =
    with_stages
    (producer 1 (codes "p") 0 ∷ record (feeding 1 (processor 2 (codes "processors.0") 0 [])) { mode = second }
    ∷ record (batcher 3 (codes "b") 0) { mode = third } ∷ record (batch_processor 4 (codes "b.0") 0 0) { mode = fourth } ∷ [])

all_four : kill_set (four_levels Permanent Permanent Permanent) [] (Kill (stage 1) ByKill)
    ≡ record { stage = stage 1; why = ByKill } ∷ record { stage = stage 2; why = Cancelled (sub 2 1 1) }
    ∷ record { stage = stage 3; why = Cancelled (sub 3 2 1) } ∷ record { stage = stage 4; why = Cancelled (sub 4 3 1) } ∷ []
all_four = refl

-- nothing above the killed stage is killed
downwards_only : kill_set (four_levels Permanent Permanent Permanent) [] (Kill (stage 3) ByCrash)
    ≡ record { stage = stage 3; why = ByCrash } ∷ record { stage = stage 4; why = Cancelled (sub 4 3 1) } ∷ []
downwards_only = refl

-- a transient stage is killed for a kill and for a crash, and not for a stop, and so is what stands below it
transient_at_a_kill : kill_set (four_levels Transient Transient Temporary) [] (Kill (stage 1) ByKill)
    ≡ record { stage = stage 1; why = ByKill } ∷ record { stage = stage 2; why = Cancelled (sub 2 1 1) }
    ∷ record { stage = stage 3; why = Cancelled (sub 3 2 1) } ∷ []
transient_at_a_kill = refl

transient_at_a_stop : kill_set (four_levels Permanent Transient Permanent) [] (Kill (stage 1) ByStop)
    ≡ record { stage = stage 1; why = ByStop } ∷ record { stage = stage 2; why = Cancelled (sub 2 1 1) } ∷ []
transient_at_a_stop = refl

-- a temporary stage stops the cascade
temporary_at_a_kill : kill_set (four_levels Temporary Permanent Permanent) [] (Kill (stage 1) ByKill)
    ≡ record { stage = stage 1; why = ByKill } ∷ []
temporary_at_a_kill = refl

-- the recorded reason names the least of the subscriptions that closed
abbrev strict_pair : Topology
strict_pair =
    with_stages
    (producer 1 (codes "p") 0 ∷ record (feeding 1 (processor 2 (codes "processors.0") 0 [])) { mode = Permanent }
    ∷ record (feeding 1 (processor 3 (codes "processors.1") 1 [])) { mode = Permanent }
    ∷ record (batcher 4 (codes "b") 0) { mode = Permanent } ∷ batch_processor 5 (codes "b.0") 0 0 ∷ [])

least_sub : kill_set strict_pair [] (Kill (stage 1) ByKill)
    ≡ record { stage = stage 1; why = ByKill } ∷ record { stage = stage 2; why = Cancelled (sub 2 1 1) }
    ∷ record { stage = stage 3; why = Cancelled (sub 3 1 1) } ∷ record { stage = stage 4; why = Cancelled (sub 4 2 1) } ∷ []
least_sub = refl

-- a stage that is dead already is not killed again, and closes nothing more
dead_already : kill_set strict_pair (Kill (stage 2) ByKill ∷ []) (Kill (stage 1) ByKill)
    ≡ record { stage = stage 1; why = ByKill } ∷ record { stage = stage 3; why = Cancelled (sub 3 1 1) } ∷ []
dead_already = refl

-- which modes exit for which reason
exits_for_a_stop : map (λ mode. exits mode ByStop) (Permanent ∷ Transient ∷ Temporary ∷ []) ≡ true ∷ false ∷ false ∷ []
exits_for_a_stop = refl

exits_for_a_kill : map (λ mode. exits mode ByKill) (Permanent ∷ Transient ∷ Temporary ∷ []) ≡ true ∷ true ∷ false ∷ []
exits_for_a_kill = refl

exits_for_a_crash : map (λ mode. exits mode ByCrash) (Permanent ∷ Transient ∷ Temporary ∷ []) ≡ true ∷ true ∷ false ∷ []
exits_for_a_crash = refl

-- Past the limit of restarts the pipeline halts

abbrev once_only : Topology
once_only = record strict { limits = limited 1 5000 }

abbrev halted : List Step
halted = both_killed ++ Restart (stage 1) ∷ Halt ∷ []

is_legal_halted : is_run once_only halted ≡ true
is_legal_halted = refl

halts_by_itself : move once_only (history (take 3 halted)) ≡ StepMove Halt
halts_by_itself = refl

then_has_halted : move once_only (history halted) ≡ Halted
then_has_halted = refl

-- a halt kills the live stages by the limit, and leaves a dead one its own reason
halt_reasons : map (death once_only (history halted)) (stage 1 ∷ stage 2 ∷ []) ≡ Some ByLimit ∷ Some (Cancelled (sub 2 1 1)) ∷ []
halt_reasons = refl

-- these pipelines are sound
all_sound : map is_sound (strict_push ∷ temporary_push ∷ four_levels Permanent Transient Temporary ∷ strict_pair ∷ once_only ∷ [])
    ≡ replicate 5 true
unfolding digits
all_sound = refl
