-- A journal with one step more, as the slow machine judges it.
use Rattle.std.proofs.Common.{◌≡◌, ◌∙◌, ◌+◌, List, [], ◌∷◌, ◌++◌, true, ap, subst, reverse}
use Rattle.std.proofs.lemmas.List.{reverse-append, reverse-reverse}
use Rattle.pipe_types.specs.declared.topology.Topology.{Topology}
use Rattle.pipe_types.specs.declared.step.Step.{Step}
use Rattle.pipe_model.specs.History.{History, history}
use Rattle.pipe_model.specs.Legal.{is_legal, allows}
use Rattle.pipe_laws.proofs.Tests.{and_right}

behind : (before : History) (step : Step) → history (reverse before ++ step ∷ []) ≡ step ∷ before
behind before step = reverse-append (reverse before) (step ∷ []) ∙ ap (λ h. step ∷ h) (reverse-reverse before)

-- where the list with the step is legal, the step may come next
pub may_follow : (topology : Topology) (before : History) (steps : List Step) (step : Step) → steps ≡ reverse before ++ step ∷ [] → is_legal topology (history steps) ≡ true → allows topology before step ≡ true
may_follow topology before steps step are legal =
    and_right (is_legal topology before) (allows topology before step) (subst (λ (h : History). is_legal topology h ≡ true) (ap history are ∙ behind before step) legal)
