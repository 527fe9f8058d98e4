-- What reaches a sink.
use Rattle.std.proofs.Common.{◌≡◌, refl}
use Rattle.std.specs.Prelude.{true, List, [], ◌∷◌, ◌++◌, map, codes, drop, take, replicate, Some, None}
use Rattle.pipe_types.specs.declared.topology.Topology.{Topology}
use Rattle.pipe_types.specs.declared.topology.StageSpec.{StageSpec}
use Rattle.pipe_types.specs.declared.topology.Rule.TheVariants.{Prefix, Require, Raise as RaiseRule, Crash as CrashRule}
use Rattle.pipe_types.specs.declared.topology.Kind.TheVariants.{Own}
use Rattle.pipe_types.specs.declared.message.Outcome.TheVariants.{Successful, Failed}
use Rattle.pipe_types.specs.declared.message.BatchEnd.TheVariants.{Outcomes, Crashed as CrashedEnd}
use Rattle.pipe_types.specs.declared.message.Trigger.TheVariants.{Size}
use Rattle.pipe_types.specs.declared.message.Why.TheVariants.{Crash as ByCrash}
use Rattle.pipe_types.specs.declared.message.Loss.TheVariants.{Killed}
use Rattle.pipe_types.specs.declared.message.Place.TheVariants.{Acked, Lost}
use Rattle.pipe_types.specs.declared.step.Step.{Step}
use Rattle.pipe_types.specs.declared.step.Step.TheVariants.{Ask, Fetch, Accept, Dispatch, Take, Done, Gather, Close, Wrote, Kill}
use Rattle.pipe_types.specs.Numbers.{stage, message_no}
use Rattle.pipe_model.specs.History.{history}
use Rattle.pipe_model.specs.Flow.{place}
use Rattle.pipe_model.specs.Ledger.{handled}
use Rattle.pipe_model.specs.Work.{count}
use Rattle.pipe_model.specs.Acknowledgements.{acknowledgements}
use Rattle.pipe_model.specs.Outside.{sink_text}
use Rattle.model_checks.proofs.Base.{is_run, producer, processor, with_stages, sub, passes, feeding, batcher, batch_processor}

-- a batcher of two, behind a processor without rules
abbrev pairs : (StageSpec → StageSpec) → Topology
pairs change =
    with_stages
    (producer 1 (codes "p") 0 ∷ feeding 1 (processor 2 (codes "processors.0") 0 []) ∷ record (batcher 3 (codes "b") 0) { batch_size = 2 }
    ∷ change (batch_processor 4 (codes "b.0") 0 0) ∷ [])

abbrev plain : Topology
plain = pairs (λ spec. spec)

abbrev until_taken : List Step
until_taken =
    Ask (sub 2 1 1) 10 ∷ Ask (sub 3 2 1) 3 ∷ Ask (sub 4 3 1) 1 ∷ Fetch (stage 1) 10 ∷ Accept (stage 1) (codes "hello" ∷ codes "you" ∷ [])
    ∷ Dispatch (stage 1)
    ∷ Take (stage 2) (sub 2 1 1) 2 ∷ Done (stage 2) (passes 1 (codes "hello" ∷ codes "you" ∷ [])) ∷ Dispatch (stage 2)
    ∷ Gather (stage 3) (message_no 1)
    ∷ Gather (stage 3) (message_no 2) ∷ Close (stage 3) (message_no 1) Size ∷ Dispatch (stage 3) ∷ Take (stage 4) (sub 4 3 1) 1 ∷ []

-- the sink took seven of ten bytes: both messages fail, and the seven bytes are there
abbrev short : List Step
short = until_taken ++ Wrote (stage 4) 7 (Outcomes (replicate 2 (Failed (codes "sink")))) ∷ []

short_legal : is_run plain short ≡ true
short_legal = refl

short_places : map (place plain (history short)) (1 ∷ 2 ∷ []) ≡ replicate 2 (Some (Acked (Failed (codes "sink"))))
short_places = refl

short_text : sink_text plain (history short) (stage 4) ≡ codes "hello" ++ 10 ∷ codes "y"
short_text = refl

short_acknowledged : acknowledgements plain (history short) ≡ record { producer = stage 1; successful = []; failed = 1 ∷ 2 ∷ [] } ∷ []
short_acknowledged = refl

-- a message that failed by itself keeps its reason, and is not in the text
abbrev picky : Topology
picky = pairs (λ spec. record spec { rules = Require (codes "h") ∷ [] })

abbrev picky_short : List Step
picky_short = until_taken ++ Wrote (stage 4) 0 (Outcomes (Failed (codes "sink") ∷ Failed (codes "require") ∷ [])) ∷ []

picky_short_legal : is_run picky picky_short ≡ true
picky_short_legal = refl

abbrev picky_whole : List Step
picky_whole = until_taken ++ Wrote (stage 4) 6 (Outcomes (Successful ∷ Failed (codes "require") ∷ [])) ∷ []

picky_whole_legal : is_run picky picky_whole ≡ true
picky_whole_legal = refl

picky_text : sink_text picky (history picky_whole) (stage 4) ≡ codes "hello" ++ 10 ∷ []
picky_text = refl

-- the text has the payload after the rules
abbrev prefixing : Topology
prefixing = pairs (λ spec. record spec { rules = Prefix (codes "> ") ∷ [] })

abbrev prefixed : List Step
prefixed = until_taken ++ Wrote (stage 4) 14 (Outcomes (replicate 2 Successful)) ∷ []

prefixed_legal : is_run prefixing prefixed ≡ true
prefixed_legal = refl

prefixed_text : sink_text prefixing (history prefixed) (stage 4) ≡ codes "> hello" ++ 10 ∷ codes "> you" ++ 10 ∷ []
prefixed_text = refl

-- a batch that raises fails whole, with no text
abbrev raising : Topology
raising = pairs (λ spec. record spec { rules = RaiseRule (codes "y") ∷ [] })

abbrev raised : List Step
raised = until_taken ++ Wrote (stage 4) 0 (Outcomes (replicate 2 (Failed (codes "raise")))) ∷ []

raised_legal : is_run raising raised ≡ true
raised_legal = refl

raised_text : sink_text raising (history raised) (stage 4) ≡ []
raised_text = refl

-- the messages behind the one that raised are not evaluated, and do not count
abbrev raising_at_once : Topology
raising_at_once = pairs (λ spec. record spec { rules = RaiseRule (codes "h") ∷ [] })

raised_count : map (λ topology. count topology (history raised) (stage 4)) (raising ∷ raising_at_once ∷ []) ≡ 2 ∷ 1 ∷ []
raised_count = refl

-- a batch that crashes writes nothing, and the kill loses its messages
abbrev crashing : Topology
crashing = pairs (λ spec. record spec { rules = CrashRule (codes "y") ∷ [] })

abbrev crashed : List Step
crashed = until_taken ++ Wrote (stage 4) 0 CrashedEnd ∷ Kill (stage 4) ByCrash ∷ []

crashed_legal : is_run crashing crashed ≡ true
crashed_legal = refl

crashed_places : map (place crashing (history crashed)) (1 ∷ 2 ∷ []) ≡ replicate 2 (Some (Lost (Killed (stage 4) 1 ByCrash)))
crashed_places = refl

-- and it does not count as handled
crashed_handled : handled crashing (history crashed) (sub 4 3 1) ≡ 0
crashed_handled = refl

-- the batch has the messages as the processor passed them on
abbrev renaming : Topology
renaming =
    with_stages
    (producer 1 (codes "p") 0 ∷ feeding 1 (processor 2 (codes "processors.0") 0 (Prefix (codes "dear ") ∷ []))
    ∷ record (batcher 3 (codes "b") 0) { batch_size = 2 }
    ∷ batch_processor 4 (codes "b.0") 0 0 ∷ [])

abbrev renamed : List Step
renamed =
    take 7 until_taken ++ Done (stage 2) (passes 1 (codes "dear hello" ∷ codes "dear you" ∷ [])) ∷ drop 8 until_taken
    ++ Wrote (stage 4) 20 (Outcomes (replicate 2 Successful)) ∷ []

renamed_legal : is_run renaming renamed ≡ true
renamed_legal = refl

renamed_text : sink_text renaming (history renamed) (stage 4) ≡ codes "dear hello" ++ 10 ∷ codes "dear you" ++ 10 ∷ []
renamed_text = refl

-- without a sink nothing is written, and the messages are successful
abbrev no_sink : Topology
no_sink = pairs (λ spec. record spec { edge = None })

abbrev unwritten : List Step
unwritten = until_taken ++ Wrote (stage 4) 0 (Outcomes (replicate 2 Successful)) ∷ []

unwritten_legal : is_run no_sink unwritten ≡ true
unwritten_legal = refl

-- an own handler's text: the payloads of its successful messages, or of those that the sink failed
abbrev own : Topology
own = pairs (λ spec. record spec { kind = Own })

own_whole : sink_text own (history (until_taken ++ Wrote (stage 4) 4 (Outcomes (Failed (codes "no") ∷ Successful ∷ [])) ∷ [])) (stage 4)
    ≡ codes "you" ++ 10 ∷ []
own_whole = refl

own_short : sink_text own (history (until_taken ++ Wrote (stage 4) 2 (Outcomes (Failed (codes "no") ∷ Failed (codes "sink") ∷ [])) ∷ []))
    (stage 4) ≡ codes "yo"
own_short = refl
