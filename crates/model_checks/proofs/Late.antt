-- Answers that come from a killed incarnation.
use Rattle.std.proofs.Common.{◌≡◌, refl}
use Rattle.std.specs.Prelude.{true, false, List, [], ◌∷◌, ◌++◌, map, codes, take, replicate, Some, None}
use Rattle.pipe_types.specs.declared.message.Reply.TheVariants.{Pass}
use Rattle.pipe_types.specs.declared.message.Outcome.TheVariants.{Successful, Failed}
use Rattle.pipe_types.specs.declared.message.BatchEnd.TheVariants.{Outcomes}
use Rattle.pipe_types.specs.declared.message.Trigger.TheVariants.{Timeout}
use Rattle.pipe_types.specs.declared.message.Why.TheVariants.{Kill as ByKill, Stop as ByStop}
use Rattle.pipe_types.specs.declared.message.Loss.TheVariants.{Killed}
use Rattle.pipe_types.specs.declared.message.Place.TheVariants.{Waiting, Lost}
use Rattle.pipe_types.specs.declared.step.Step.{Step}
use Rattle.pipe_types.specs.declared.step.Step.TheVariants.{Ask, Fetch, Accept, Dispatch, Take, Done, Gather, Close, Child, Kill, Late, Restart, Tick, Drain}
use Rattle.pipe_types.specs.declared.step.LateAnswer.TheVariants.{Records, Source, Wrote as LateWrote, Nothing}
use Rattle.pipe_types.specs.declared.step.SourceHow.TheVariants.{Fault}
use Rattle.pipe_types.specs.declared.step.DrainCause.TheVariants.{Sources}
use Rattle.pipe_types.specs.Numbers.{stage, message_no}
use Rattle.pipe_model.specs.History.{history, accepted}
use Rattle.pipe_model.specs.Flow.{place}
use Rattle.pipe_model.specs.Ledger.{handled}
use Rattle.pipe_model.specs.Legal.{needs_restart}
use Rattle.pipe_model.specs.Moves.{StepMove, Job, move}
use Rattle.pipe_model.specs.Acknowledgements.{acknowledgements}
use Rattle.pipe_model.specs.Places.{settled_at}
use Rattle.pipe_model.specs.Outside.{fed, source_end, sink_text}
use Rattle.model_checks.proofs.Base.{is_run, one_each, sub, keyed, by_key, supervised}

-- A batch

abbrev until_taken : List Step
until_taken =
    Ask (sub 2 1 1) 10 ∷ Ask (sub 3 2 1) 3 ∷ Ask (sub 4 3 1) 1 ∷ Fetch (stage 1) 10 ∷ Accept (stage 1) (codes "q" ∷ []) ∷ Dispatch (stage 1)
    ∷ Take (stage 2) (sub 2 1 1) 1 ∷ Done (stage 2) (Pass (keyed 1 (codes "q")) ∷ []) ∷ Dispatch (stage 2) ∷ Gather (stage 3) (message_no 1)
    ∷ Tick 1000 ∷ Close (stage 3) (message_no 1) Timeout ∷ Dispatch (stage 3) ∷ Take (stage 4) (sub 4 3 1) 1 ∷ []

abbrev late_batch : List Step
late_batch = until_taken ++ Kill (stage 4) ByKill ∷ Late (stage 4) 0 1 (LateWrote 2 (Outcomes (Successful ∷ []))) ∷ []

is_legal_batch : is_run by_key late_batch ≡ true
is_legal_batch = refl

-- it settles nothing: the message is lost with the stage, and no producer hears of it
is_lost : place by_key (history late_batch) 1 ≡ Some (Lost (Killed (stage 4) 1 ByKill))
is_lost = refl

nothing_acknowledged : acknowledgements by_key (history late_batch) ≡ []
nothing_acknowledged = refl

-- the bytes that it wrote count as written
is_written : sink_text by_key (history late_batch) (stage 4) ≡ codes "q" ++ 10 ∷ []
is_written = refl

-- it does not count as handled
not_handled : handled by_key (history late_batch) (sub 4 3 1) ≡ 0
not_handled = refl

-- the stage waits for it before it is restarted
waits_for_it : map (λ n. move by_key (history (take n late_batch))) (15 ∷ 16 ∷ []) ≡ Job (stage 1) ∷ StepMove (Restart (stage 4)) ∷ []
waits_for_it = refl

-- an answer of which the sink took less is written as far as it took
abbrev late_short : List Step
late_short = until_taken ++ Kill (stage 4) ByKill ∷ Late (stage 4) 0 1 (LateWrote 1 (Outcomes (Failed (codes "sink") ∷ []))) ∷ []

is_legal_short : is_run by_key late_short ≡ true
is_legal_short = refl

is_written_short : sink_text by_key (history late_short) (stage 4) ≡ codes "q"
is_written_short = refl

-- A fetch

abbrev late_records : List Step
late_records = Ask (sub 2 1 1) 10 ∷ Fetch (stage 1) 10 ∷ Kill (stage 1) ByStop ∷ Late (stage 1) 0 1 (Records (codes "x" ∷ codes "y" ∷ []))
    ∷ []

is_legal_records : is_run one_each late_records ≡ true
is_legal_records = refl

-- the records are accepted and lost in that step
records_are_lost : map (place one_each (history late_records)) (1 ∷ 2 ∷ 3 ∷ []) ≡ Some (Lost (Killed (stage 1) 1 ByStop))
    ∷ Some (Lost (Killed (stage 1) 1 ByStop)) ∷ None ∷ []
records_are_lost = refl

records_count : accepted (history late_records) ≡ 2
records_count = refl

settled_as_they_come : map (settled_at one_each (history late_records)) (1 ∷ 2 ∷ []) ≡ 3 ∷ 3 ∷ []
settled_as_they_come = refl

records_are_fed : fed (history late_records) (stage 1) ≡ codes "x" ∷ codes "y" ∷ []
records_are_fed = refl

-- the next records are numbered on from them, and the next answer of the new incarnation is not late
abbrev after_late_records : List Step
after_late_records =
    late_records ++ Restart (stage 1) ∷ Ask (sub 2 1 2) 10 ∷ Fetch (stage 1) 10 ∷ Accept (stage 1) (codes "z" ∷ []) ∷ []

is_legal_after : is_run one_each after_late_records ≡ true
is_legal_after = refl

next_number : map (place one_each (history after_late_records)) (2 ∷ 3 ∷ 4 ∷ []) ≡ Some (Lost (Killed (stage 1) 1 ByStop))
    ∷ Some (Waiting (stage 1)) ∷ None ∷ []
next_number = refl

-- a late end of the source ends it, and the stage is not restarted
abbrev late_end : List Step
late_end = Ask (sub 2 1 1) 10 ∷ Fetch (stage 1) 10 ∷ Kill (stage 1) ByStop ∷ Late (stage 1) 0 1 (Source Fault) ∷ []

is_legal_end : is_run one_each late_end ≡ true
is_legal_end = refl

end_is_kept : source_end (history late_end) (stage 1) ≡ Some Fault
end_is_kept = refl

needs_no_restart : needs_restart one_each (history late_end) (stage 1) ≡ false
needs_no_restart = refl

drains_then : move one_each (history late_end) ≡ StepMove (Drain Sources)
drains_then = refl

-- A chunk

abbrev late_chunk : List Step
late_chunk =
    Ask (sub 2 1 1) 10 ∷ Fetch (stage 1) 10 ∷ Accept (stage 1) (codes "x" ∷ []) ∷ Dispatch (stage 1) ∷ Take (stage 2) (sub 2 1 1) 1
    ∷ Kill (stage 2) ByKill ∷ Late (stage 2) 0 1 Nothing ∷ Restart (stage 2) ∷ []

is_legal_chunk : is_run one_each late_chunk ≡ true
is_legal_chunk = refl

chunk_is_lost : place one_each (history late_chunk) 1 ≡ Some (Lost (Killed (stage 2) 1 ByKill))
chunk_is_lost = refl

-- A child

abbrev late_child : List Step
late_child =
    Ask (sub 2 1 1) 2 ∷ Fetch (stage 1) 2 ∷ Accept (stage 1) (codes "x" ∷ codes "y" ∷ []) ∷ Dispatch (stage 1)
    ∷ Child (stage 2) (message_no 1) 0
    ∷ Child (stage 2) (message_no 2) 1 ∷ Kill (stage 2) ByKill ∷ Late (stage 2) 1 1 Nothing ∷ Late (stage 2) 0 1 Nothing ∷ []

is_legal_child : is_run supervised late_child ≡ true
is_legal_child = refl

children_are_lost : map (place supervised (history late_child)) (1 ∷ 2 ∷ []) ≡ replicate 2 (Some (Lost (Killed (stage 2) 1 ByKill)))
children_are_lost = refl
