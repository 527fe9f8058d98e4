-- A batch that goes to two batch processors.
use Rattle.std.proofs.Common.{◌≡◌, refl}
use Rattle.std.specs.Prelude.{true, List, [], ◌∷◌, ◌++◌, map, codes, take, replicate, Some}
use Rattle.pipe_types.specs.declared.topology.Topology.{Topology}
use Rattle.pipe_types.specs.declared.topology.StageSpec.{StageSpec}
use Rattle.pipe_types.specs.declared.topology.Rule.TheVariants.{Require}
use Rattle.pipe_types.specs.declared.topology.Dispatch.TheVariants.{Broadcast}
use Rattle.pipe_types.specs.declared.message.Outcome.TheVariants.{Successful, Failed}
use Rattle.pipe_types.specs.declared.message.BatchEnd.TheVariants.{Outcomes}
use Rattle.pipe_types.specs.declared.message.Trigger.TheVariants.{Size}
use Rattle.pipe_types.specs.declared.message.Why.TheVariants.{Kill as ByKill, Stop as ByStop}
use Rattle.pipe_types.specs.declared.message.Loss.TheVariants.{Killed}
use Rattle.pipe_types.specs.declared.message.Place.TheVariants.{InBatch, Acked, Lost}
use Rattle.pipe_types.specs.declared.step.Step.{Step}
use Rattle.pipe_types.specs.declared.step.Step.TheVariants.{Ask, Fetch, Accept, Dispatch, Take, Done, Gather, Close, Wrote, Kill}
use Rattle.pipe_types.specs.Numbers.{stage, message_no, batch_no}
use Rattle.pipe_model.specs.History.{history}
use Rattle.pipe_model.specs.Flow.{place}
use Rattle.pipe_model.specs.Acknowledgements.{acknowledgements}
use Rattle.pipe_model.specs.Outside.{sink_text}
use Rattle.model_checks.proofs.Base.{is_run, producer, processor, with_stages, sub, passes, feeding, batcher, batch_processor}

-- the batcher sends every batch to both; each of the two has rules of its own
abbrev to_both : (first second : StageSpec → StageSpec) → Topology
to_both first second =
    with_stages
    (producer 1 (codes "p") 0 ∷ feeding 1 (processor 2 (codes "processors.0") 0 [])
    ∷ record (batcher 3 (codes "b") 0) { dispatch = Broadcast; batch_size = 2 }
    ∷ first (batch_processor 4 (codes "b.0") 0 0) ∷ second (batch_processor 5 (codes "b.1") 0 1) ∷ [])

abbrev same : StageSpec → StageSpec
same spec = spec

abbrev pub both : Topology
both = to_both same same

abbrev pub until_taken : List Step
until_taken =
    Ask (sub 2 1 1) 10 ∷ Ask (sub 3 2 1) 3 ∷ Ask (sub 4 3 1) 1 ∷ Ask (sub 5 3 1) 1 ∷ Fetch (stage 1) 10
    ∷ Accept (stage 1) (codes "x" ∷ codes "y" ∷ []) ∷ Dispatch (stage 1)
    ∷ Take (stage 2) (sub 2 1 1) 2 ∷ Done (stage 2) (passes 1 (codes "x" ∷ codes "y" ∷ [])) ∷ Dispatch (stage 2)
    ∷ Gather (stage 3) (message_no 1)
    ∷ Gather (stage 3) (message_no 2) ∷ Close (stage 3) (message_no 1) Size ∷ Dispatch (stage 3) ∷ Take (stage 4) (sub 4 3 1) 1
    ∷ Take (stage 5) (sub 5 3 1) 1 ∷ []

-- One leg answered, and one lost

abbrev one_leg_lost : List Step
one_leg_lost = until_taken ++ Wrote (stage 4) 4 (Outcomes (Successful ∷ Successful ∷ [])) ∷ Kill (stage 5) ByKill ∷ []

is_legal_lost : is_run both one_leg_lost ≡ true
is_legal_lost = refl

-- one answer settles nothing
not_settled_yet : map (place both (history (take 17 one_leg_lost))) (1 ∷ 2 ∷ []) ≡ Some (InBatch (batch_no 1)) ∷ Some (InBatch (batch_no 1))
    ∷ []
not_settled_yet = refl

-- the lost leg loses both messages, with its stage, incarnation and reason
is_lost : map (place both (history one_leg_lost)) (1 ∷ 2 ∷ []) ≡ replicate 2 (Some (Lost (Killed (stage 5) 1 ByKill)))
is_lost = refl

nothing_acknowledged : acknowledgements both (history one_leg_lost) ≡ []
nothing_acknowledged = refl

-- a leg that was lost before the other is answered gives the cause too
abbrev lost_first : List Step
lost_first = until_taken ++ Kill (stage 5) ByKill ∷ []

abbrev lost_then_answered : List Step
lost_then_answered = lost_first ++ Wrote (stage 4) 4 (Outcomes (Successful ∷ Successful ∷ [])) ∷ []

is_legal_lost_first : is_run both lost_then_answered ≡ true
is_legal_lost_first = refl

still_in_its_batch : place both (history lost_first) 1 ≡ Some (InBatch (batch_no 1))
still_in_its_batch = refl

is_lost_at_last : place both (history lost_then_answered) 1 ≡ Some (Lost (Killed (stage 5) 1 ByKill))
is_lost_at_last = refl

-- where both are lost, the least leg gives the cause, whichever was lost first
is_lost_by_the_least : place both (history (lost_first ++ Kill (stage 4) ByStop ∷ [])) 1 ≡ Some (Lost (Killed (stage 4) 1 ByStop))
is_lost_by_the_least = refl

-- Both legs answered

-- the first fails what does not begin with x, and gives its own reason; the second fails all
abbrev failing : Topology
failing =
    to_both
    (λ spec. record spec { rules = Require (codes "x") ∷ []; failed = Some (codes "first") })
    (λ spec. record spec { rules = Require (codes "z") ∷ []; failed = Some (codes "second") })

abbrev both_fail : List Step
both_fail =
    until_taken ++ Wrote (stage 5) 0 (Outcomes (Failed (codes "second") ∷ Failed (codes "second") ∷ []))
    ∷ Wrote (stage 4) 2 (Outcomes (Successful ∷ Failed (codes "first") ∷ [])) ∷ []

is_legal_fail : is_run failing both_fail ≡ true
is_legal_fail = refl

-- a message fails where a leg failed it, with the reason of the least such leg
is_failed : map (place failing (history both_fail)) (1 ∷ 2 ∷ []) ≡ Some (Acked (Failed (codes "second")))
    ∷ Some (Acked (Failed (codes "first"))) ∷ []
is_failed = refl

is_acknowledged : acknowledgements failing (history both_fail) ≡ record { producer = stage 1; successful = []; failed = 1 ∷ 2 ∷ [] } ∷ []
is_acknowledged = refl

-- where both succeed, both sinks have the text
abbrev both_succeed : List Step
both_succeed =
    until_taken ++ Wrote (stage 5) 4 (Outcomes (Successful ∷ Successful ∷ [])) ∷ Wrote (stage 4) 4 (Outcomes (Successful ∷ Successful ∷ []))
    ∷ []

is_legal_succeed : is_run both both_succeed ≡ true
is_legal_succeed = refl

is_acked : map (place both (history both_succeed)) (1 ∷ 2 ∷ []) ≡ replicate 2 (Some (Acked Successful))
is_acked = refl

is_written_twice : map (sink_text both (history both_succeed)) (stage 4 ∷ stage 5 ∷ [])
    ≡ replicate 2 (codes "x" ++ 10 ∷ codes "y" ++ 10 ∷ [])
is_written_twice = refl

-- A batch is sent to those that are live, and waits where one of them has no demand

abbrev until_closed : List Step
until_closed = take 13 until_taken

sent_to_the_live : place both (history (until_closed ++ Kill (stage 5) ByKill ∷ Dispatch (stage 3) ∷ Take (stage 4) (sub 4 3 1) 1
    ∷ Wrote (stage 4) 4 (Outcomes (Successful ∷ Successful ∷ [])) ∷ [])) 1 ≡ Some (Acked Successful)
sent_to_the_live = refl

-- a kill of the batcher loses the batch that waits in it, and not one that was sent
lost_in_the_batcher : place both (history (until_closed ++ Kill (stage 3) ByKill ∷ [])) 1 ≡ Some (Lost (Killed (stage 3) 1 ByKill))
lost_in_the_batcher = refl

not_lost_once_sent : place both (history (take 14 until_taken ++ Kill (stage 3) ByKill ∷ [])) 1 ≡ Some (InBatch (batch_no 1))
not_lost_once_sent = refl
