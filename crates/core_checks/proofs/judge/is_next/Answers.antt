use Rattle.std.proofs.Common.{◌≡◌, ◌∙◌, [], ◌∷◌, ◌++◌, true, ap, sym, subst, rules, reverse}
use Rattle.std.specs.Prelude.{is_some}
use Rattle.pipe_types.specs.declared.topology.Topology.{Topology}
use Rattle.pipe_model.specs.History.{history}
use Rattle.pipe_model.specs.Legal.{is_legal}
use Rattle.core_checks.proofs.Judged.{may_follow}
use Rattle.core_checks.proofs.judge.is_next.Goals as goal

pub returns : goal.returns
returns c = λ is.
    let core = c.args.core.now in
    let step = c.in_ok-to_step.field-0 in
    let copied : step ≡ c.args.step.now = c.in_ok-to_step.ensures ∙ c.of.ensures in
    let whole : c.in_ok-steps.steps.items ≡ reverse core.journal.steps = search rules in
    let pushed : c.as_slice.result.now ≡ c.in_ok-steps.steps.items ++ step ∷ [] = search rules in
    let items : c.as_slice.result.now ≡ reverse core.journal.steps ++ c.args.step.now ∷ [] =
    pushed ∙ ap (λ xs. xs ++ step ∷ []) whole ∙ ap (λ s. reverse core.journal.steps ++ s ∷ []) copied in
    let found : is_some c.in_ok-found.found ≡ true = sym c.is_some.ensures ∙ is in
    let legal : is_legal c.topology.result.now (history c.as_slice.result.now) ≡ true = sym c.in_ok-found.ensures.legal ∙ found in
    may_follow core.topology core.journal.steps c.as_slice.result.now c.args.step.now items (subst (λ (t : Topology). is_legal t (history c.as_slice.result.now) ≡ true) c.topology.ensures legal)
