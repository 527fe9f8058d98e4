-- Batches by key.
use Rattle.std.proofs.Common.{◌≡◌, refl}
use Rattle.std.specs.Prelude.{true, List, [], ◌∷◌, ◌++◌, map, codes, take, replicate, Some, None}
use Rattle.pipe_types.specs.declared.message.Reply.TheVariants.{Pass}
use Rattle.pipe_types.specs.declared.message.Outcome.TheVariants.{Successful}
use Rattle.pipe_types.specs.declared.message.BatchEnd.TheVariants.{Outcomes}
use Rattle.pipe_types.specs.declared.message.Trigger.TheVariants.{Size, Flush}
use Rattle.pipe_types.specs.declared.message.Place.TheVariants.{Waiting, Inbox, Gathered, InBatch, Acked}
use Rattle.pipe_types.specs.declared.step.Step.{Step}
use Rattle.pipe_types.specs.declared.step.Step.TheVariants.{Ask, Fetch, Accept, SourceEnd, Dispatch, Take, Done, Gather, Close, Wrote, Drain}
use Rattle.pipe_types.specs.declared.step.SourceHow.TheVariants.{End}
use Rattle.pipe_types.specs.declared.step.DrainCause.TheVariants.{Sources}
use Rattle.pipe_types.specs.Numbers.{stage, message_no, batch_no}
use Rattle.pipe_model.specs.History.{history}
use Rattle.pipe_model.specs.Flow.{place}
use Rattle.pipe_model.specs.Moves.{Drained, StepMove, Job, move}
use Rattle.pipe_model.specs.Acknowledgements.{acknowledgements, is_lossless}
use Rattle.pipe_model.specs.Places.{settled_at}
use Rattle.pipe_model.specs.Outside.{fed, sink_text}
use Rattle.model_checks.proofs.Base.{is_run, sub, keyed, by_key}

-- the processor makes the payload the key; the batches of a key go to the sink in the order in which they closed
abbrev two_keys : List Step
two_keys =
    Ask (sub 2 1 1) 10 ∷ Ask (sub 3 2 1) 3 ∷ Ask (sub 4 3 1) 1 ∷ Fetch (stage 1) 10
    ∷ Accept (stage 1) (codes "x" ∷ codes "y" ∷ codes "x" ∷ codes "x" ∷ []) ∷ Dispatch (stage 1) ∷ Take (stage 2) (sub 2 1 1) 4
    ∷ Done (stage 2) (Pass (keyed 1 (codes "x")) ∷ Pass (keyed 2 (codes "y")) ∷ Pass (keyed 3 (codes "x")) ∷ Pass (keyed 4 (codes "x"))
    ∷ [])
    ∷ Dispatch (stage 2) ∷ Gather (stage 3) (message_no 1) ∷ Gather (stage 3) (message_no 2) ∷ Ask (sub 3 2 1) 2 ∷ Dispatch (stage 2)
    ∷ Gather (stage 3) (message_no 3) ∷ Gather (stage 3) (message_no 4) ∷ Ask (sub 3 2 1) 2 ∷ Close (stage 3) (message_no 1) Size
    ∷ Dispatch (stage 3)
    ∷ Take (stage 4) (sub 4 3 1) 1 ∷ Wrote (stage 4) 6 (Outcomes (replicate 3 Successful)) ∷ Ask (sub 4 3 1) 1
    ∷ Fetch (stage 1) 6 ∷ SourceEnd (stage 1) End ∷ Drain Sources ∷ Close (stage 3) (message_no 2) Flush
    ∷ Dispatch (stage 3) ∷ Take (stage 4) (sub 4 3 1) 1 ∷ Wrote (stage 4) 2 (Outcomes (Successful ∷ [])) ∷ []

is_legal_whole : is_run by_key two_keys ≡ true
is_legal_whole = refl

-- only three go to the batcher at first, since it asked for three
sent_at_first : map (place by_key (history (take 9 two_keys))) (1 ∷ 2 ∷ 3 ∷ 4 ∷ []) ≡ Some (Inbox (sub 3 2 1)) ∷ Some (Inbox (sub 3 2 1))
    ∷ Some (Inbox (sub 3 2 1)) ∷ Some (Waiting (stage 2)) ∷ []
sent_at_first = refl

-- the batch of three of one key is batch 1, and the other key's message is still gathered
in_a_batch : map (place by_key (history (take 17 two_keys))) (1 ∷ 2 ∷ 3 ∷ 4 ∷ []) ≡ Some (InBatch (batch_no 1)) ∷ Some (Gathered (stage 3))
    ∷ Some (InBatch (batch_no 1)) ∷ Some (InBatch (batch_no 1)) ∷ []
in_a_batch = refl

is_acked : map (place by_key (history two_keys)) (1 ∷ 2 ∷ 3 ∷ 4 ∷ 5 ∷ []) ≡ Some (Acked Successful) ∷ Some (Acked Successful)
    ∷ Some (Acked Successful) ∷ Some (Acked Successful) ∷ None ∷ []
is_acked = refl

is_acknowledged : acknowledgements by_key (history two_keys) ≡ record { producer = stage 1; successful = 1 ∷ 3 ∷ 4 ∷ []; failed = [] }
    ∷ record { producer = stage 1; successful = 2 ∷ []; failed = [] } ∷ []
is_acknowledged = refl

is_written : sink_text by_key (history two_keys) (stage 4) ≡ codes "x" ++ 10 ∷ codes "x" ++ 10 ∷ codes "x" ++ 10 ∷ codes "y" ++ 10 ∷ []
is_written = refl

is_fed : fed (history two_keys) (stage 1) ≡ codes "x" ∷ codes "y" ∷ codes "x" ∷ codes "x" ∷ []
is_fed = refl

is_drained_at_last : move by_key (history two_keys) ≡ Drained
is_drained_at_last = refl

is_lossless_whole : is_lossless by_key (history two_keys) ≡ true
is_lossless_whole = refl

-- the order of moves: a dispatch, then a close, then a gather, then a job
dispatches : move by_key (history (take 8 two_keys)) ≡ StepMove (Dispatch (stage 2))
dispatches = refl

gathers_next : move by_key (history (take 9 two_keys)) ≡ StepMove (Gather (stage 3) (message_no 1))
gathers_next = refl

asks_before_it_gathers : move by_key (history (take 11 two_keys)) ≡ StepMove (Ask (sub 3 2 1) 2)
asks_before_it_gathers = refl

asks_again_before_it_closes : move by_key (history (take 15 two_keys)) ≡ StepMove (Ask (sub 3 2 1) 2)
asks_again_before_it_closes = refl

closes : move by_key (history (take 16 two_keys)) ≡ StepMove (Close (stage 3) (message_no 1) Size)
closes = refl

takes : move by_key (history (take 18 two_keys)) ≡ Job (stage 4)
takes = refl

drains : move by_key (history (take 23 two_keys)) ≡ StepMove (Drain Sources)
drains = refl

closes_what_is_left : move by_key (history (take 24 two_keys)) ≡ StepMove (Close (stage 3) (message_no 2) Flush)
closes_what_is_left = refl

-- the places in the journal of the two answers that settled them
are_settled_at : map (settled_at by_key (history two_keys)) (1 ∷ 2 ∷ 3 ∷ 4 ∷ []) ≡ 19 ∷ 27 ∷ 19 ∷ 19 ∷ []
are_settled_at = refl

-- and 0 as long as they are not
are_not_settled : map (settled_at by_key (history (take 19 two_keys))) (1 ∷ 2 ∷ []) ≡ 0 ∷ 0 ∷ []
are_not_settled = refl
