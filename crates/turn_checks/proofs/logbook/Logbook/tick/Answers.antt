use Rattle.std.proofs.Common.{[], ◌∷◌, ◌∙◌, sym, ap, subst, refl}
use Rattle.pipe_types.specs.declared.step.Step.TheVariants.{Tick}
use Rattle.pipe_model.specs.History.{History}
use Rattle.pipeline_turn.specs.Jobs.{IsUnanswered}
use Rattle.turn_checks.proofs.Outs.{unanswered_step}
use Rattle.turn_checks.proofs.logbook.Logbook.tick.Goals as goal

pub returns-then-is_ok-clause-begins : goal.returns-then-is_ok-clause-begins
returns-then-is_ok-clause-begins c = record { later = Tick c.args.now ∷ []; is = c.push_spare.ensures.written ∙ ap (λ (z : History). Tick c.args.now ∷ z) c.reserve.ensures.same_steps }

pub returns-then-is_ok-clause-unanswered : goal.returns-then-is_ok-clause-unanswered
returns-then-is_ok-clause-unanswered c = let e = c.push_spare.ensures.written ∙ ap (λ (z : History). Tick c.args.now ∷ z) c.reserve.ensures.same_steps in
    λ p. subst (λ (z : History). IsUnanswered z c.args.self.now.journal.steps p) (sym e) (unanswered_step (Tick c.args.now) c.args.self.now.journal.steps p refl)
