-- Batches that batch processors pick by their keys.
use Rattle.std.proofs.Common.{◌≡◌, refl}
use Rattle.std.specs.Prelude.{ℕ, true, List, [], ◌∷◌, ◌++◌, map, codes, Some}
use Rattle.pipe_types.specs.declared.topology.Topology.{Topology}
use Rattle.pipe_types.specs.declared.topology.Rule.TheVariants.{Key}
use Rattle.pipe_types.specs.declared.topology.Dispatch.TheVariants.{Broadcast}
use Rattle.pipe_types.specs.declared.message.Outcome.TheVariants.{Successful}
use Rattle.pipe_types.specs.declared.message.BatchEnd.TheVariants.{Outcomes}
use Rattle.pipe_types.specs.declared.message.Reply.TheVariants.{Pass}
use Rattle.pipe_types.specs.declared.message.Trigger.TheVariants.{Size}
use Rattle.pipe_types.specs.declared.message.Why.TheVariants.{Kill as ByKill}
use Rattle.pipe_types.specs.declared.message.Place.TheVariants.{InBatch, Acked}
use Rattle.pipe_types.specs.declared.step.Step.{Step}
use Rattle.pipe_types.specs.declared.step.Step.TheVariants.{Ask, Fetch, Accept, Dispatch, Take, Done, Gather, Close, Wrote, Kill, Restart}
use Rattle.pipe_types.specs.Numbers.{stage, message_no, batch_no}
use Rattle.pipe_model.specs.History.{history}
use Rattle.pipe_model.specs.Flow.{place, alone, open_demand}
use Rattle.pipe_model.specs.Moves.{StepMove, move}
use Rattle.pipe_model.specs.Acknowledgements.{acknowledgements, is_lossless}
use Rattle.pipe_model.specs.Outside.{sink_text}
use Rattle.model_checks.proofs.Base.{is_run, is_refused_after, producer, processor, with_stages, sub, keyed, feeding, batcher, batch_processor}

-- batches of one message, of which the first batch processor picks those whose key begins with `a`, and the second `b`
abbrev picky : Topology
picky =
    with_stages
    (producer 1 (codes "p") 0 ∷ feeding 1 (processor 2 (codes "processors.0") 0 (Key 0 ∷ []))
    ∷ record (batcher 3 (codes "b") 0) { dispatch = Broadcast; batch_size = 1 }
    ∷ record (batch_processor 4 (codes "b.0") 0 0) { select = codes "a" } ∷ record (batch_processor 5 (codes "b.1") 0 1) { select = codes "b" } ∷ [])

-- one record that is closed to a batch, where the batch processor of this stage alone has asked
abbrev closed : (asking : ℕ) → List ℕ → List Step
closed asking text =
    Ask (sub 2 1 1) 10 ∷ Ask (sub 3 2 1) 3 ∷ Ask (sub asking 3 1) 1 ∷ Fetch (stage 1) 10 ∷ Accept (stage 1) (text ∷ []) ∷ Dispatch (stage 1)
    ∷ Take (stage 2) (sub 2 1 1) 1 ∷ Done (stage 2) (Pass (keyed 1 text) ∷ []) ∷ Dispatch (stage 2)
    ∷ Gather (stage 3) (message_no 1) ∷ Close (stage 3) (message_no 1) Size ∷ []

-- only the one that picks it needs demand, and only it gets the batch
picked_by_one : is_run picky (closed 4 (codes "a1") ++ Dispatch (stage 3) ∷ Take (stage 4) (sub 4 3 1) 1 ∷ []) ≡ true
picked_by_one = refl

not_by_the_other : is_refused_after picky (closed 4 (codes "a1") ++ Dispatch (stage 3) ∷ []) (Take (stage 5) (sub 5 3 1) 1) ≡ true
not_by_the_other = refl

waits_for_its_demand : is_refused_after picky (closed 5 (codes "a1")) (Dispatch (stage 3)) ≡ true
waits_for_its_demand = refl

-- A batch that nobody picks

-- it is served, and its message is a success in that step
abbrev unpicked : List Step
unpicked = closed 4 (codes "c1") ++ Dispatch (stage 3) ∷ []

nobody_picks : is_run picky unpicked ≡ true
nobody_picks = refl

alone_before : alone picky (history (closed 4 (codes "c1"))) (stage 3) ≡ 1 ∷ []
alone_before = refl

not_before_it : place picky (history (closed 4 (codes "c1"))) 1 ≡ Some (InBatch (batch_no 1))
not_before_it = refl

settled_in_the_dispatch : place picky (history unpicked) 1 ≡ Some (Acked Successful)
settled_in_the_dispatch = refl

acknowledged_once : acknowledgements picky (history unpicked) ≡ record { producer = stage 1; successful = 1 ∷ []; failed = [] } ∷ []
acknowledged_once = refl

nothing_lost : is_lossless picky (history unpicked) ≡ true
nothing_lost = refl

-- it uses none of the demand
demand_is_left : open_demand picky (history unpicked) (sub 4 3 1) ≡ 1
demand_is_left = refl

-- and needs none: the one that had asked was restarted
needs_no_demand : is_run picky (closed 4 (codes "c1") ++ Kill (stage 4) ByKill ∷ Restart (stage 4) ∷ Dispatch (stage 3) ∷ []) ≡ true
needs_no_demand = refl

-- a second dispatch has nothing to serve
served_once : is_refused_after picky unpicked (Dispatch (stage 3)) ≡ true
served_once = refl

-- with no live subscription nothing is served
nobody_lives : is_refused_after picky (closed 4 (codes "c1") ++ Kill (stage 4) ByKill ∷ Kill (stage 5) ByKill ∷ []) (Dispatch (stage 3)) ≡ true
nobody_lives = refl

-- Several batches

-- both have asked, and two records are closed to a batch each
abbrev two : (first second : List ℕ) → List Step
two first second =
    Ask (sub 2 1 1) 10 ∷ Ask (sub 3 2 1) 3 ∷ Ask (sub 4 3 1) 1 ∷ Ask (sub 5 3 1) 1 ∷ Fetch (stage 1) 10 ∷ Accept (stage 1) (first ∷ second ∷ [])
    ∷ Dispatch (stage 1) ∷ Take (stage 2) (sub 2 1 1) 2 ∷ Done (stage 2) (Pass (keyed 1 first) ∷ Pass (keyed 2 second) ∷ []) ∷ Dispatch (stage 2)
    ∷ Gather (stage 3) (message_no 1) ∷ Close (stage 3) (message_no 1) Size ∷ Gather (stage 3) (message_no 2)
    ∷ Close (stage 3) (message_no 2) Size ∷ []

abbrev restarted : List Step
restarted = Kill (stage 4) ByKill ∷ Restart (stage 4) ∷ []

-- what nobody picks is served in front of a batch that waits for demand, and not behind it
served_in_front : map (place picky (history (two (codes "c1") (codes "a1") ++ restarted ++ Dispatch (stage 3) ∷ []))) (1 ∷ 2 ∷ [])
    ≡ Some (Acked Successful) ∷ Some (InBatch (batch_no 2)) ∷ []
served_in_front = refl

not_served_behind : is_refused_after picky (two (codes "a1") (codes "c1") ++ restarted) (Dispatch (stage 3)) ≡ true
not_served_behind = refl

-- two batches that one picks are more than it asked for
only_the_first : map (place picky (history (two (codes "a1") (codes "a2") ++ Dispatch (stage 3) ∷ Take (stage 4) (sub 4 3 1) 1
    ∷ Wrote (stage 4) 3 (Outcomes (Successful ∷ [])) ∷ []))) (1 ∷ 2 ∷ []) ≡ Some (Acked Successful) ∷ Some (InBatch (batch_no 2)) ∷ []
only_the_first = refl

-- a batch is judged by those that are live at its dispatch
judged_by_the_live : map (place picky (history (two (codes "a1") (codes "c1") ++ Kill (stage 4) ByKill ∷ Dispatch (stage 3) ∷ []))) (1 ∷ 2 ∷ [])
    ≡ Some (Acked Successful) ∷ Some (Acked Successful) ∷ []
judged_by_the_live = refl

-- A run

-- each sink has what its batch processor picked, and all three records are successes
abbrev three : List Step
three =
    Ask (sub 2 1 1) 10 ∷ Ask (sub 3 2 1) 3 ∷ Ask (sub 4 3 1) 1 ∷ Ask (sub 5 3 1) 1 ∷ Fetch (stage 1) 10
    ∷ Accept (stage 1) (codes "a1" ∷ codes "b1" ∷ codes "c1" ∷ []) ∷ Dispatch (stage 1) ∷ Take (stage 2) (sub 2 1 1) 3
    ∷ Done (stage 2) (Pass (keyed 1 (codes "a1")) ∷ Pass (keyed 2 (codes "b1")) ∷ Pass (keyed 3 (codes "c1")) ∷ []) ∷ Dispatch (stage 2)
    ∷ Gather (stage 3) (message_no 1) ∷ Close (stage 3) (message_no 1) Size ∷ Gather (stage 3) (message_no 2)
    ∷ Close (stage 3) (message_no 2) Size ∷ Dispatch (stage 3) ∷ Take (stage 5) (sub 5 3 1) 1 ∷ Take (stage 4) (sub 4 3 1) 1
    ∷ Wrote (stage 4) 3 (Outcomes (Successful ∷ [])) ∷ Ask (sub 3 2 1) 2 ∷ Ask (sub 4 3 1) 1 ∷ Gather (stage 3) (message_no 3)
    ∷ Close (stage 3) (message_no 3) Size ∷ []

-- the dispatch that serves it alone is the pipeline's own next move
moves_to_it : move picky (history three) ≡ StepMove (Dispatch (stage 3))
moves_to_it = refl

abbrev all_settled : List Step
all_settled = three ++ Dispatch (stage 3) ∷ Wrote (stage 5) 3 (Outcomes (Successful ∷ [])) ∷ []

three_legal : is_run picky all_settled ≡ true
three_legal = refl

three_acknowledged : acknowledgements picky (history all_settled) ≡ record { producer = stage 1; successful = 1 ∷ []; failed = [] }
    ∷ record { producer = stage 1; successful = 3 ∷ []; failed = [] } ∷ record { producer = stage 1; successful = 2 ∷ []; failed = [] } ∷ []
three_acknowledged = refl

three_written : map (sink_text picky (history all_settled)) (stage 4 ∷ stage 5 ∷ []) ≡ (codes "a1" ++ 10 ∷ []) ∷ (codes "b1" ++ 10 ∷ []) ∷ []
three_written = refl
