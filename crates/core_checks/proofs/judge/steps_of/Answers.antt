use Rattle.std.proofs.Common.{◌≡◌, ◌∙◌, [], ◌∷◌, ◌++◌, Some, ap, sym, rules, reverse}
use Rattle.pipe_laws.proofs.Lists.{take_next}
use Rattle.core_checks.proofs.judge.steps_of.Goals as goal

pub loop-at-preserved : goal.loop-at-preserved
loop-at-preserved c =
    let step = c.in_ok-to_step.field-0 in
    let pushed : c.push.new.self.items ≡ c.loop-at.steps.items ++ step ∷ [] = search rules in
    pushed ∙ ap (λ items. items ++ step ∷ []) c.loop-at.invariant
    ∙ sym (take_next (reverse c.args.journal.now.steps) c.loop-at.at step (c.view.ensures ∙ ap Some (sym c.in_ok-to_step.ensures)))
