-- The journal of one line through a producer and a processor.
use Rattle.std.proofs.Common.{◌≡◌, refl}
use Rattle.std.specs.Prelude.{true, false, List, [], ◌∷◌, codes, drop, Some}
use Rattle.pipe_types.specs.declared.message.Reply.TheVariants.{Pass}
use Rattle.pipe_types.specs.declared.message.Outcome.TheVariants.{Successful}
use Rattle.pipe_types.specs.declared.message.Place.TheVariants.{Acked}
use Rattle.pipe_types.specs.declared.step.Step.{Step}
use Rattle.pipe_types.specs.declared.step.Step.TheVariants.{Ask, Fetch, Accept, SourceEnd, Dispatch, Take, Done, Drain}
use Rattle.pipe_types.specs.declared.step.SourceHow.TheVariants.{End}
use Rattle.pipe_types.specs.declared.step.DrainCause.TheVariants.{Sources}
use Rattle.pipe_types.specs.Numbers.{stage}
use Rattle.pipe_model.specs.History.{history}
use Rattle.pipe_model.specs.Flow.{place}
use Rattle.pipe_model.specs.Moves.{is_drained}
use Rattle.pipe_model.specs.Acknowledgements.{acknowledgements, is_lossless}
use Rattle.pipe_model.specs.Places.{settled_at}
use Rattle.model_checks.proofs.Base.{is_run, one_each, sub, msg}

abbrev one_line : List Step
one_line =
    Ask (sub 2 1 1) 10 ∷ Fetch (stage 1) 10 ∷ Accept (stage 1) (codes "x" ∷ []) ∷ Dispatch (stage 1) ∷ Take (stage 2) (sub 2 1 1) 1
    ∷ Done (stage 2) (Pass (msg 1 (codes "x")) ∷ []) ∷ Fetch (stage 1) 9 ∷ SourceEnd (stage 1) End ∷ Drain Sources ∷ []

-- the nine steps are legal one after another
is_legal_whole : is_run one_each one_line ≡ true
is_legal_whole = refl

-- message 1 is acknowledged successful
is_acked : place one_each (history one_line) 1 ≡ Some (Acked Successful)
is_acked = refl

-- without the ask the list is not legal
needs_the_ask : is_run one_each (drop 1 one_line) ≡ false
needs_the_ask = refl

-- the journal is drained, and nothing was lost
is_drained_at_the_end : is_drained one_each (history one_line) ≡ true
is_drained_at_the_end = refl

is_lossless_whole : is_lossless one_each (history one_line) ≡ true
is_lossless_whole = refl

-- one acknowledgement, for the producer
is_acknowledged : acknowledgements one_each (history one_line) ≡ record { producer = stage 1; successful = 1 ∷ []; failed = [] } ∷ []
is_acknowledged = refl

-- the message was settled by the sixth step, which stands at place 5 of the journal
is_settled_at : settled_at one_each (history one_line) 1 ≡ 5
is_settled_at = refl
