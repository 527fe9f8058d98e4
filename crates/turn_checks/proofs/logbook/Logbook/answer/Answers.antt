use Rattle.std.proofs.Common.{◌≡◌, [], ◌∷◌, ◌∙◌, sym, ap, subst}
use Rattle.pipe_types.specs.declared.step.Step.TheVariants.{Quiet}
use Rattle.pipe_types.specs.Numbers.{post}
use Rattle.pipe_model.specs.History.{History}
use Rattle.pipeline_turn.specs.Jobs.{IsUnanswered}
use Rattle.turn_checks.proofs.Outs.{unanswered_quiet}
use Rattle.turn_checks.proofs.logbook.Logbook.answer.Goals as goal

pub returns-then-is_ok-clause-begins : goal.returns-then-is_ok-clause-begins
returns-then-is_ok-clause-begins c = record { later = Quiet c.args.brought.stage ∷ []; is = c.push_spare.ensures.written ∙ ap (λ (z : History). Quiet c.args.brought.stage ∷ z) c.reserve.ensures.same_steps }

pub returns-then-is_ok-clause-others_unanswered : goal.returns-then-is_ok-clause-others_unanswered
returns-then-is_ok-clause-others_unanswered c = let e = c.push_spare.ensures.written ∙ ap (λ (z : History). Quiet c.args.brought.stage ∷ z) c.reserve.ensures.same_steps in
    let own : c.args.brought ≡ post c.args.brought.stage 0 = λ i. record { stage = c.args.brought.stage; slot = c.if-brought-eq0.true i } in
    λ p n. subst (λ (z : History). IsUnanswered z c.args.self.now.journal.steps p) (sym e) (unanswered_quiet c.args.self.now.journal.steps c.args.brought p c.args.brought.stage own n)
