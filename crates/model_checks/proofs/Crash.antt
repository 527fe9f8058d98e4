-- A crash within a chunk.
use Rattle.std.proofs.Common.{◌≡◌, refl}
use Rattle.std.specs.Prelude.{true, List, [], ◌∷◌, ◌++◌, map, codes, take, replicate, Some}
use Rattle.pipe_types.specs.declared.topology.Topology.{Topology}
use Rattle.pipe_types.specs.declared.topology.Rule.TheVariants.{Crash as CrashRule, FailEvery}
use Rattle.pipe_types.specs.declared.message.Reply.TheVariants.{Failed as FailedReply, Crashed}
use Rattle.pipe_types.specs.declared.message.Outcome.TheVariants.{Successful, Failed}
use Rattle.pipe_types.specs.declared.message.Why.TheVariants.{Crash as ByCrash}
use Rattle.pipe_types.specs.declared.message.Loss.TheVariants.{Killed}
use Rattle.pipe_types.specs.declared.message.Place.TheVariants.{Inbox, Running, Acked, Lost}
use Rattle.pipe_types.specs.declared.step.Step.{Step}
use Rattle.pipe_types.specs.declared.step.Step.TheVariants.{Ask, Fetch, Accept, SourceEnd, Dispatch, Take, Done, Kill, Restart, Drain}
use Rattle.pipe_types.specs.declared.step.SourceHow.TheVariants.{End}
use Rattle.pipe_types.specs.declared.step.DrainCause.TheVariants.{Sources}
use Rattle.pipe_types.specs.Numbers.{stage}
use Rattle.pipe_model.specs.History.{history}
use Rattle.pipe_model.specs.Flow.{place}
use Rattle.pipe_model.specs.Ledger.{handled}
use Rattle.pipe_model.specs.Work.{count}
use Rattle.pipe_model.specs.Acknowledgements.{acknowledgements}
use Rattle.model_checks.proofs.Base.{is_run, is_refused_after, sub, passes, one_ruled}

abbrev ruled : Topology
ruled = one_ruled (CrashRule (codes "!") ∷ FailEvery 4 ∷ [])

abbrev crash_in_chunk : List Step
crash_in_chunk =
    Ask (sub 2 1 1) 10 ∷ Fetch (stage 1) 10
    ∷ Accept (stage 1) (codes "r1" ∷ codes "r2" ∷ codes "!3" ∷ codes "r4" ∷ codes "r5" ∷ codes "r6" ∷ codes "r7" ∷ codes "r8" ∷ codes "r9"
    ∷ codes "r10" ∷ [])
    ∷ Dispatch (stage 1) ∷ Take (stage 2) (sub 2 1 1) 5 ∷ Done (stage 2) (passes 1 (codes "r1" ∷ codes "r2" ∷ []) ++ Crashed ∷ [])
    ∷ Kill (stage 2) ByCrash ∷ []

-- after the restart the count begins at 0 again, so that the fourth message is not reached
abbrev crash_and_on : List Step
crash_and_on =
    crash_in_chunk ++ Restart (stage 2) ∷ Ask (sub 2 1 2) 10 ∷ Fetch (stage 1) 10 ∷ Accept (stage 1) (codes "r11" ∷ codes "r12" ∷ [])
    ∷ Dispatch (stage 1) ∷ Take (stage 2) (sub 2 1 2) 2 ∷ Done (stage 2) (passes 11 (codes "r11" ∷ codes "r12" ∷ []))
    ∷ Fetch (stage 1) 8 ∷ SourceEnd (stage 1) End ∷ Drain Sources ∷ []

is_legal_whole : is_run ruled crash_and_on ≡ true
is_legal_whole = refl

-- the answer itself moves nothing: what ran still runs, and what was passed before the crash too
nothing_moves_yet : map (place ruled (history (take 6 crash_in_chunk))) (1 ∷ 3 ∷ 5 ∷ 6 ∷ []) ≡ Some (Running (stage 2))
    ∷ Some (Running (stage 2)) ∷ Some (Running (stage 2)) ∷ Some (Inbox (sub 2 1 1)) ∷ []
nothing_moves_yet = refl

-- then only the kill may come, and it loses all that the stage holds
kill_is_owed : is_refused_after ruled (take 6 crash_in_chunk) (Fetch (stage 1) 10) ≡ true
kill_is_owed = refl

is_lost : map (place ruled (history crash_in_chunk)) (1 ∷ 3 ∷ 5 ∷ 10 ∷ []) ≡ replicate 4 (Some (Lost (Killed (stage 2) 1 ByCrash)))
is_lost = refl

count_before_the_restart : count ruled (history crash_in_chunk) (stage 2) ≡ 3
count_before_the_restart = refl

count_after_the_restart : count ruled (history (take 8 crash_and_on)) (stage 2) ≡ 0
count_after_the_restart = refl

passes_after_the_restart : map (place ruled (history crash_and_on)) (11 ∷ 12 ∷ []) ≡ replicate 2 (Some (Acked Successful))
passes_after_the_restart = refl

is_acknowledged : acknowledgements ruled (history crash_and_on) ≡ record { producer = stage 1; successful = 11 ∷ 12 ∷ []; failed = [] } ∷ []
is_acknowledged = refl

-- what a crash of a chunk took does not count as handled
handled_on_each : map (handled ruled (history crash_and_on)) (sub 2 1 1 ∷ sub 2 1 2 ∷ []) ≡ 0 ∷ 2 ∷ []
handled_on_each = refl

-- Without a crash the count goes on from chunk to chunk

abbrev every_fourth : List Step
every_fourth =
    Ask (sub 2 1 1) 10 ∷ Fetch (stage 1) 10 ∷ Accept (stage 1) (replicate 8 (codes "r")) ∷ Dispatch (stage 1)
    ∷ Take (stage 2) (sub 2 1 1) 5
    ∷ Done (stage 2) (passes 1 (replicate 3 (codes "r")) ++ FailedReply (codes "every") ∷ passes 5 (replicate 1 (codes "r")))
    ∷ Take (stage 2) (sub 2 1 1) 3 ∷ Done (stage 2) (passes 6 (replicate 2 (codes "r")) ++ FailedReply (codes "every") ∷ []) ∷ []

every_fourth_legal : is_run ruled every_fourth ≡ true
every_fourth_legal = refl

every_fourth_fails : map (place ruled (history every_fourth)) (3 ∷ 4 ∷ 5 ∷ 7 ∷ 8 ∷ []) ≡ Some (Acked Successful)
    ∷ Some (Acked (Failed (codes "every"))) ∷ Some (Acked Successful) ∷ Some (Acked Successful) ∷ Some (Acked (Failed (codes "every"))) ∷ []
every_fourth_fails = refl

every_fourth_acknowledged : acknowledgements ruled (history every_fourth)
    ≡ record { producer = stage 1; successful = 1 ∷ 2 ∷ 3 ∷ 5 ∷ []; failed = 4 ∷ [] }
    ∷ record { producer = stage 1; successful = 6 ∷ 7 ∷ []; failed = 8 ∷ [] } ∷ []
every_fourth_acknowledged = refl
