-- A list that begins with a refused step.
use Rattle.std.proofs.Common.{◌≡◌, ℕ, ◌+◌, ◌<◌, true, false, List, [], ◌∷◌, ◌++◌, length, take, drop, get_or, refl, ap, sym, ◌∙◌}
use Rattle.std.proofs.lemmas.List.{reverse-append, take-append-drop, take_more}
use Rattle.std.specs.Prelude.{Bool, ◌&&◌}
use Rattle.pipe_types.specs.declared.topology.Topology.{Topology}
use Rattle.pipe_types.specs.declared.step.Step.{Step}
use Rattle.pipe_model.specs.History.{History, history}
use Rattle.pipe_model.specs.Legal.{is_legal, allows}

take_one_more : (steps : List Step) (i : ℕ) (step : Step) → i < length steps → step ≡ get_or steps i step → take (i + 1) steps ≡ take i steps ++ step ∷ []
take_one_more steps i step within is = take_more steps i step within ∙ ap (λ (y : Step). take i steps ++ y ∷ []) (sym is)

refused_on : (topology : Topology) (later before : History) → is_legal topology before ≡ false → is_legal topology (later ++ before) ≡ false
refused_on topology [] before denied = denied
refused_on topology (step ∷ later) before denied = ap (λ b. b && allows topology (later ++ before) step) (refused_on topology later before denied)

and_not : (a b : Bool) → b ≡ false → (a && b) ≡ false
and_not true b denied = denied
and_not false b denied = refl

and_both : (a b : Bool) → a ≡ true → b ≡ true → (a && b) ≡ true
and_both a b given also = ap (λ x. x && b) given ∙ also

pub next_history : (steps : List Step) (i : ℕ) (step : Step) → i < length steps → step ≡ get_or steps i step → history (take (i + 1) steps) ≡ step ∷ history (take i steps)
next_history steps i step within is = ap history (take_one_more steps i step within is) ∙ reverse-append (take i steps) (step ∷ [])

history_apart : (steps : List Step) (i : ℕ) → history steps ≡ history (drop i steps) ++ history (take i steps)
history_apart steps i = ap history (sym (take-append-drop i steps)) ∙ reverse-append (take i steps) (drop i steps)

-- where a step of the list is refused, the list is not legal
pub refused_at : (topology : Topology) (steps : List Step) (i : ℕ) (step : Step) → i < length steps → step ≡ get_or steps i step
    → allows topology (history (take i steps)) step ≡ false → false ≡ is_legal topology (history steps)
refused_at topology steps i step within is denied =
    sym
    (ap (is_legal topology) (history_apart steps (i + 1))
    ∙ refused_on topology (history (drop (i + 1) steps)) (history (take (i + 1) steps))
    (ap (is_legal topology) (next_history steps i step within is) ∙ and_not (is_legal topology (history (take i steps))) (allows topology (history (take i steps)) step) denied))

-- where it is not, the list is legal up to it
pub legal_upto : (topology : Topology) (steps : List Step) (i : ℕ) (step : Step) → i < length steps → step ≡ get_or steps i step
    → is_legal topology (history (take i steps)) ≡ true → allows topology (history (take i steps)) step ≡ true → is_legal topology (history (take (i + 1) steps)) ≡ true
legal_upto topology steps i step within is given also =
    ap (is_legal topology) (next_history steps i step within is) ∙ and_both (is_legal topology (history (take i steps))) (allows topology (history (take i steps)) step) given also
