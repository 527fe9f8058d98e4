-- Rows: an ask.
use Rattle.std.proofs.Common.{◌≡◌, refl}
use Rattle.std.specs.Prelude.{true, List, [], ◌∷◌, ◌++◌, codes, replicate}
use Rattle.pipe_types.specs.declared.message.Why.TheVariants.{Kill as ByKill}
use Rattle.pipe_types.specs.declared.step.Step.{Step}
use Rattle.pipe_types.specs.declared.step.Step.TheVariants.{Ask, Fetch, Accept, Dispatch, Take, Done, Kill, Restart}
use Rattle.pipe_types.specs.Numbers.{stage}
use Rattle.model_checks.proofs.Base.{may_come_after, is_refused_after, one_each, sub, passes, by_key, none_may_come_after}

-- the first ask is the maximum
first_ask : may_come_after one_each [] (Ask (sub 2 1 1) 10) ≡ true
first_ask = refl

-- no other size
asks_otherwise : none_may_come_after one_each [] (
    Ask (sub 2 1 1) 9
    ∷ Ask (sub 2 1 1) 11
    -- no pair that does not feed
    ∷ Ask (sub 1 2 1) 10
    ∷ Ask (sub 3 1 1) 10
    -- the generation of the present pair alone
    ∷ Ask (sub 2 1 2) 10
    ∷ []) ≡ true
asks_otherwise = refl

-- not again while more than the minimum is in flight
asks_again : none_may_come_after one_each (Ask (sub 2 1 1) 10 ∷ []) (
    Ask (sub 2 1 1) 10
    ∷ Ask (sub 2 1 1) 0
    ∷ []) ≡ true
asks_again = refl

-- six of ten are in flight
abbrev four_handled : List Step
four_handled =
    Ask (sub 2 1 1) 10 ∷ Fetch (stage 1) 10 ∷ Accept (stage 1) (replicate 4 (codes "x")) ∷ Dispatch (stage 1) ∷ Take (stage 2) (sub 2 1 1) 4
    ∷ Done (stage 2) (passes 1 (replicate 4 (codes "x"))) ∷ []

above_the_minimum : is_refused_after one_each four_handled (Ask (sub 2 1 1) 4) ≡ true
above_the_minimum = refl

-- five of ten are in flight: the ask makes them ten again
abbrev five_handled : List Step
five_handled =
    four_handled ++ Fetch (stage 1) 6 ∷ Accept (stage 1) (codes "x" ∷ []) ∷ Dispatch (stage 1) ∷ Take (stage 2) (sub 2 1 1) 1
    ∷ Done (stage 2) (passes 5 (codes "x" ∷ [])) ∷ []

at_the_minimum : may_come_after one_each five_handled (Ask (sub 2 1 1) 5) ≡ true
at_the_minimum = refl

not_the_maximum_then : is_refused_after one_each five_handled (Ask (sub 2 1 1) 10) ≡ true
not_the_maximum_then = refl

other_batcher : is_refused_after by_key [] (Ask (sub 4 2 1) 1) ≡ true
other_batcher = refl

-- no closed subscription, on either side
dead_producer : is_refused_after one_each (Kill (stage 1) ByKill ∷ []) (Ask (sub 2 1 1) 10) ≡ true
dead_producer = refl

dead_consumer : is_refused_after one_each (Kill (stage 2) ByKill ∷ []) (Ask (sub 2 1 1) 10) ≡ true
dead_consumer = refl

new_generation : may_come_after one_each (Ask (sub 2 1 1) 10 ∷ Kill (stage 2) ByKill ∷ Restart (stage 2) ∷ []) (Ask (sub 2 1 2) 10) ≡ true
new_generation = refl

old_generation : is_refused_after one_each (Kill (stage 2) ByKill ∷ Restart (stage 2) ∷ []) (Ask (sub 2 1 1) 10) ≡ true
old_generation = refl
