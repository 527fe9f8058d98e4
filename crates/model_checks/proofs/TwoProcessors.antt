-- Twelve lines to two processors.
use Rattle.std.proofs.Common.{◌≡◌, refl}
use Rattle.std.specs.Prelude.{ℕ, true, List, [], ◌∷◌, map, codes, take, replicate, Some, None}
use Rattle.pipe_types.specs.declared.message.Outcome.TheVariants.{Successful}
use Rattle.pipe_types.specs.declared.message.Place.TheVariants.{Inbox, Acked}
use Rattle.pipe_types.specs.declared.step.Step.{Step}
use Rattle.pipe_types.specs.declared.step.Step.TheVariants.{Ask, Fetch, Accept, SourceEnd, Dispatch, Take, Done, Drain}
use Rattle.pipe_types.specs.declared.step.SourceHow.TheVariants.{End}
use Rattle.pipe_types.specs.declared.step.DrainCause.TheVariants.{Sources}
use Rattle.pipe_types.specs.Numbers.{stage}
use Rattle.pipe_model.specs.History.{history}
use Rattle.pipe_model.specs.Flow.{place}
use Rattle.pipe_model.specs.Moves.{Drained, StepMove, Job, JobsOut, move}
use Rattle.pipe_model.specs.Acknowledgements.{acknowledgements}
use Rattle.model_checks.proofs.Base.{is_run, sub, passes, two_processors}

abbrev xs : ℕ → List (List ℕ)
xs n = replicate n (codes "x")

-- both ask, the first of equals is served first, and each takes at most five of what it got
abbrev twelve_lines : List Step
twelve_lines =
    Ask (sub 2 1 1) 10 ∷ Ask (sub 3 1 1) 10 ∷ Fetch (stage 1) 20 ∷ Accept (stage 1) (xs 12) ∷ Dispatch (stage 1)
    ∷ Take (stage 3) (sub 3 1 1) 2 ∷ Take (stage 2) (sub 2 1 1) 5 ∷ Fetch (stage 1) 8
    ∷ Done (stage 3) (passes 11 (xs 2)) ∷ Done (stage 2) (passes 1 (xs 5)) ∷ Ask (sub 2 1 1) 5 ∷ Take (stage 2) (sub 2 1 1) 5
    ∷ SourceEnd (stage 1) End ∷ Drain Sources ∷ Done (stage 2) (passes 6 (xs 5)) ∷ Ask (sub 2 1 1) 5 ∷ []

is_legal_whole : is_run two_processors twelve_lines ≡ true
is_legal_whole = refl

-- the first ten went to the first processor, and the rest to the second
is_sent : map (place two_processors (history (take 5 twelve_lines))) (1 ∷ 10 ∷ 11 ∷ 12 ∷ 13 ∷ []) ≡ Some (Inbox (sub 2 1 1))
    ∷ Some (Inbox (sub 2 1 1)) ∷ Some (Inbox (sub 3 1 1)) ∷ Some (Inbox (sub 3 1 1)) ∷ None ∷ []
is_sent = refl

-- all are acknowledged at the end
is_acked : map (place two_processors (history twelve_lines)) (1 ∷ 2 ∷ 3 ∷ 4 ∷ 5 ∷ 6 ∷ 7 ∷ 8 ∷ 9 ∷ 10 ∷ 11 ∷ 12 ∷ [])
    ≡ replicate 12 (Some (Acked Successful))
is_acked = refl

-- one entry for each chunk, in the order of the answers
is_acknowledged : acknowledgements two_processors (history twelve_lines)
    ≡ record { producer = stage 1; successful = 11 ∷ 12 ∷ []; failed = [] }
    ∷ record { producer = stage 1; successful = 1 ∷ 2 ∷ 3 ∷ 4 ∷ 5 ∷ []; failed = [] }
    ∷ record { producer = stage 1; successful = 6 ∷ 7 ∷ 8 ∷ 9 ∷ 10 ∷ []; failed = [] } ∷ []
is_acknowledged = refl

-- the order of moves: asks first, the least subscription first; then a job of the greatest stage
asks_first : move two_processors [] ≡ StepMove (Ask (sub 2 1 1) 10)
asks_first = refl

asks_second : move two_processors (history (take 1 twelve_lines)) ≡ StepMove (Ask (sub 3 1 1) 10)
asks_second = refl

then_fetches : move two_processors (history (take 2 twelve_lines)) ≡ Job (stage 1)
then_fetches = refl

then_takes_at_the_greatest : move two_processors (history (take 5 twelve_lines)) ≡ Job (stage 3)
then_takes_at_the_greatest = refl

then_takes_at_the_next : move two_processors (history (take 6 twelve_lines)) ≡ Job (stage 2)
then_takes_at_the_next = refl

then_fetches_on : move two_processors (history (take 7 twelve_lines)) ≡ Job (stage 1)
then_fetches_on = refl

then_waits_for_jobs : move two_processors (history (take 8 twelve_lines)) ≡ JobsOut
then_waits_for_jobs = refl

is_drained_at_last : move two_processors (history twelve_lines) ≡ Drained
is_drained_at_last = refl
