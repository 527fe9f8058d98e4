-- The ends of the window in which restarts count.
use Rattle.std.proofs.Common.{◌≡◌, refl}
use Rattle.std.specs.Prelude.{true, false, List, [], ◌∷◌, ◌++◌, codes}
use Rattle.pipe_types.specs.declared.topology.Topology.{Topology}
use Rattle.pipe_types.specs.declared.message.Why.TheVariants.{Kill as ByKill}
use Rattle.pipe_types.specs.declared.step.Step.{Step}
use Rattle.pipe_types.specs.declared.step.Step.TheVariants.{Kill, Restart, Tick, Halt}
use Rattle.pipe_types.specs.Numbers.{stage}
use Rattle.pipe_types.specs.Restarts.{may_restart_at}
use Rattle.pipe_types.specs.declared.topology.CancelMode.TheVariants.{Permanent}
use Rattle.pipe_model.specs.History.{history}
use Rattle.pipe_model.specs.Moves.{Halted, StepMove, move}
use Rattle.model_checks.proofs.Base.{may_come_after, is_refused_after, one_each, limited, with_stages, producer, processor}

-- three restarts at 0, 1000 and 2000 with a window of 5000: at 5000 all three count, and at 5001 two
at_the_end : may_restart_at 3 5000 5000 (2000 ∷ 1000 ∷ 0 ∷ []) ≡ false
at_the_end = refl

past_the_end : may_restart_at 3 5000 5001 (2000 ∷ 1000 ∷ 0 ∷ []) ≡ true
past_the_end = refl

-- with a limit of 0 none is allowed, and with a limit of 1 the first is
none_allowed : may_restart_at 0 5000 0 [] ≡ false
none_allowed = refl

first_allowed : may_restart_at 1 5000 0 [] ≡ true
first_allowed = refl

-- In a journal

abbrev once_only : Topology
once_only = record one_each { limits = limited 1 5000 }

-- restarted at 10, and killed again
abbrev killed_again : List Step
killed_again = Tick 10 ∷ Kill (stage 1) ByKill ∷ Restart (stage 1) ∷ Kill (stage 1) ByKill ∷ []

-- at 5010 the first restart still counts, so the pipeline halts; at 5011 it counts no longer
halts_at_the_end : may_come_after once_only (killed_again ++ Tick 5010 ∷ []) Halt ≡ true
halts_at_the_end = refl

no_restart_at_the_end : is_refused_after once_only (killed_again ++ Tick 5010 ∷ []) (Restart (stage 1)) ≡ true
no_restart_at_the_end = refl

restarts_past_the_end : may_come_after once_only (killed_again ++ Tick 5011 ∷ []) (Restart (stage 1)) ≡ true
restarts_past_the_end = refl

no_halt_past_the_end : is_refused_after once_only (killed_again ++ Tick 5011 ∷ []) Halt ≡ true
no_halt_past_the_end = refl

-- one limit serves all stages
other_stage_counts : is_refused_after once_only (Kill (stage 1) ByKill ∷ Restart (stage 1) ∷ Kill (stage 2) ByKill ∷ []) (Restart (stage 2))
    ≡ true
other_stage_counts = refl

-- Limits of their own

-- the processor may be restarted once, the producer as often as the pipeline's limit allows
abbrev of_its_own : Topology
of_its_own =
    record (with_stages (producer 1 (codes "p") 0 ∷ record (processor 2 (codes "processors.0") 0 []) { limit = 1 } ∷ []))
    { limits = limited 3 5000 ++ limited 1 1000 }

-- a restart of one counts for the limit of the other no more
other_does_not_count : may_come_after of_its_own (Kill (stage 1) ByKill ∷ Restart (stage 1) ∷ Kill (stage 2) ByKill ∷ []) (Restart (stage 2)) ≡ true
other_does_not_count = refl

abbrev killed_twice : List Step
killed_twice = Kill (stage 2) ByKill ∷ Restart (stage 2) ∷ Kill (stage 2) ByKill ∷ []

own_limit_is_met : is_refused_after of_its_own killed_twice (Restart (stage 2)) ≡ true
own_limit_is_met = refl

-- then the pipeline may halt, though another stage could be restarted
halts_by_one : may_come_after of_its_own (killed_twice ++ Kill (stage 1) ByKill ∷ []) Halt ≡ true
halts_by_one = refl

other_may_restart : may_come_after of_its_own (killed_twice ++ Kill (stage 1) ByKill ∷ []) (Restart (stage 1)) ≡ true
other_may_restart = refl

-- its own window is the shorter one
own_window : may_come_after of_its_own (killed_twice ++ Tick 1001 ∷ []) (Restart (stage 2)) ≡ true
own_window = refl

own_window_end : is_refused_after of_its_own (killed_twice ++ Tick 1000 ∷ []) (Restart (stage 2)) ≡ true
own_window_end = refl

-- no halt where no stage's limit is met
no_early_halt : is_refused_after of_its_own (Kill (stage 2) ByKill ∷ []) Halt ≡ true
no_early_halt = refl

-- stages that share a limit of their own count together
abbrev shared : Topology
shared =
    record (with_stages (producer 1 (codes "p") 0 ∷ record (processor 2 (codes "processors.0") 0 []) { limit = 1 }
    ∷ record (processor 3 (codes "processors.1") 1 []) { limit = 1 } ∷ []))
    { limits = limited 3 5000 ++ limited 1 1000 }

counts_together : is_refused_after shared (Kill (stage 2) ByKill ∷ Restart (stage 2) ∷ Kill (stage 3) ByKill ∷ []) (Restart (stage 3)) ≡ true
counts_together = refl

pipeline_counts_apart : may_come_after shared (Kill (stage 2) ByKill ∷ Restart (stage 2) ∷ Kill (stage 1) ByKill ∷ []) (Restart (stage 1)) ≡ true
pipeline_counts_apart = refl

-- a producer takes its processor with it: the producer is restarted, and the processor, whose limit allows none, halts the run
abbrev none_of_its_own : Topology
none_of_its_own =
    record (with_stages (producer 1 (codes "p") 0 ∷ record (processor 2 (codes "processors.0") 0 []) { limit = 1; mode = Permanent } ∷ []))
    { limits = limited 3 5000 ++ limited 0 5000 }

restarts_the_producer : move none_of_its_own (history (Kill (stage 1) ByKill ∷ [])) ≡ StepMove (Restart (stage 1))
restarts_the_producer = refl

halts_at_the_processor : move none_of_its_own (history (Kill (stage 1) ByKill ∷ Restart (stage 1) ∷ [])) ≡ StepMove Halt
halts_at_the_processor = refl

is_halted : move none_of_its_own (history (Kill (stage 1) ByKill ∷ Restart (stage 1) ∷ Halt ∷ [])) ≡ Halted
is_halted = refl
