-- Supervised children.
use Rattle.std.proofs.Common.{◌≡◌, refl}
use Rattle.std.specs.Prelude.{true, false, List, [], ◌∷◌, ◌++◌, map, codes, take, replicate, Some}
use Rattle.pipe_types.specs.declared.topology.Topology.{Topology}
use Rattle.pipe_types.specs.declared.topology.Rule.TheVariants.{Require, Raise as RaiseRule, Crash as CrashRule, FailEvery}
use Rattle.pipe_types.specs.declared.topology.ChildMode.TheVariants.{Temporary as TemporaryChild}
use Rattle.pipe_types.specs.declared.message.Reply.TheVariants.{Pass, Failed as FailedReply, Raised, Crashed}
use Rattle.pipe_types.specs.declared.message.Outcome.TheVariants.{Failed}
use Rattle.pipe_types.specs.declared.message.Why.TheVariants.{Crash as ByCrash}
use Rattle.pipe_types.specs.declared.message.Loss.TheVariants.{Killed}
use Rattle.pipe_types.specs.declared.message.Place.TheVariants.{Running, Acked, Lost}
use Rattle.pipe_types.specs.declared.step.Step.{Step}
use Rattle.pipe_types.specs.declared.step.Step.TheVariants.{Ask, Fetch, Accept, SourceEnd, Dispatch, Child, ChildEnd, Drain}
use Rattle.pipe_types.specs.declared.step.SourceHow.TheVariants.{End}
use Rattle.pipe_types.specs.declared.step.DrainCause.TheVariants.{Sources}
use Rattle.pipe_types.specs.Numbers.{stage, message_no}
use Rattle.pipe_model.specs.History.{history}
use Rattle.pipe_model.specs.Lives.{is_live}
use Rattle.pipe_model.specs.Flow.{place}
use Rattle.pipe_model.specs.Ledger.{handled}
use Rattle.pipe_model.specs.Moves.{Drained, Job, move}
use Rattle.pipe_model.specs.Acknowledgements.{acknowledgements, is_lossless}
use Rattle.model_checks.proofs.Base.{is_run, is_refused_after, producer, with_stages, sub, msg, supervisor, supervised}

-- A child that crashes runs its message again, three times at most

abbrev pub four_runs : List Step
four_runs =
    Ask (sub 2 1 1) 2 ∷ Fetch (stage 1) 2 ∷ Accept (stage 1) (codes "a" ∷ codes "!" ∷ []) ∷ Dispatch (stage 1)
    ∷ Child (stage 2) (message_no 1) 0
    ∷ Child (stage 2) (message_no 2) 1 ∷ ChildEnd (stage 2) 1 Crashed ∷ ChildEnd (stage 2) 0 (Pass (msg 1 (codes "a"))) ∷ Ask (sub 2 1 1) 1
    ∷ Child (stage 2) (message_no 2) 1 ∷ ChildEnd (stage 2) 1 Crashed ∷ Child (stage 2) (message_no 2) 1 ∷ ChildEnd (stage 2) 1 Crashed
    ∷ Child (stage 2) (message_no 2) 1 ∷ ChildEnd (stage 2) 1 Crashed ∷ Ask (sub 2 1 1) 1 ∷ Fetch (stage 1) 2 ∷ SourceEnd (stage 1) End
    ∷ Drain Sources ∷ []

is_legal_whole : is_run supervised four_runs ≡ true
is_legal_whole = refl

-- after each of the first three crashes the message still runs in the supervisor
runs_again : map (λ n. place supervised (history (take n four_runs)) 2) (7 ∷ 11 ∷ 13 ∷ []) ≡ replicate 3 (Some (Running (stage 2)))
runs_again = refl

-- the fourth loses it, with the supervisor's number, and the supervisor lives on
is_lost : place supervised (history (take 15 four_runs)) 2 ≡ Some (Lost (Killed (stage 2) 1 ByCrash))
is_lost = refl

supervisor_lives : is_live supervised (history four_runs) (stage 2) ≡ true
supervisor_lives = refl

-- only the last run ends the unit's handling
is_handled : map (λ n. handled supervised (history (take n four_runs)) (sub 2 1 1)) (7 ∷ 8 ∷ 13 ∷ 15 ∷ []) ≡ 0 ∷ 1 ∷ 1 ∷ 2 ∷ []
is_handled = refl

is_acknowledged : acknowledgements supervised (history four_runs) ≡ record { producer = stage 1; successful = 1 ∷ []; failed = [] } ∷ []
is_acknowledged = refl

-- the crash that ends the handling loses the message, and the earlier ones lose nothing
loses_at_the_fourth : map (λ n. is_lossless supervised (history (take n four_runs))) (14 ∷ 15 ∷ []) ≡ true ∷ false ∷ []
loses_at_the_fourth = refl

-- a child that runs again is a job, though the inbox is empty
job_again : move supervised (history (take 9 four_runs)) ≡ Job (stage 2)
job_again = refl

-- no fifth run
no_fifth : is_refused_after supervised (take 15 four_runs) (Child (stage 2) (message_no 2) 1) ≡ true
no_fifth = refl

is_drained_at_last : move supervised (history four_runs) ≡ Drained
is_drained_at_last = refl

-- A temporary child does not run again

abbrev temporary : Topology
temporary = with_stages (producer 1 (codes "p") 0 ∷ record (supervisor 2 (CrashRule (codes "!") ∷ [])) { child = TemporaryChild } ∷ [])

abbrev one_run : List Step
one_run = take 7 four_runs

is_legal_one : is_run temporary one_run ≡ true
is_legal_one = refl

is_lost_at_once : place temporary (history one_run) 2 ≡ Some (Lost (Killed (stage 2) 1 ByCrash))
is_lost_at_once = refl

is_handled_at_once : handled temporary (history one_run) (sub 2 1 1) ≡ 1
is_handled_at_once = refl

-- Each run of a child counts from 0

abbrev second_fails : Topology
second_fails = with_stages (producer 1 (codes "p") 0 ∷ supervisor 2 (FailEvery 2 ∷ []) ∷ [])

abbrev two_children : List Step
two_children =
    take 6 four_runs ++ ChildEnd (stage 2) 0 (Pass (msg 1 (codes "a"))) ∷ ChildEnd (stage 2) 1 (Pass (msg 2 (codes "!"))) ∷ []

counts_from_zero : is_run second_fails two_children ≡ true
counts_from_zero = refl

-- A child that fails or raises

abbrev failing_children : Topology
failing_children = with_stages (producer 1 (codes "p") 0 ∷ record
    (supervisor 2 (Require (codes "a") ∷ RaiseRule (codes "a") ∷ [])) { failed = Some (codes "no") } ∷ [])

abbrev failed_children : List Step
failed_children = take 6 four_runs ++ ChildEnd (stage 2) 0 (Raised (codes "no")) ∷ ChildEnd (stage 2) 1 (FailedReply (codes "no")) ∷ []

is_legal_failed : is_run failing_children failed_children ≡ true
is_legal_failed = refl

are_failed : map (place failing_children (history failed_children)) (1 ∷ 2 ∷ []) ≡ replicate 2 (Some (Acked (Failed (codes "no"))))
are_failed = refl
