use Rattle.std.proofs.Common.{rules, ◌≡◌, ◌∷◌, take, true, false, ap, sym, ◌∙◌, arith}
use Rattle.pipe_types.specs.declared.topology.Topology.{Topology}
use Rattle.pipe_model.specs.History.{History, history}
use Rattle.pipe_model.specs.Legal.{allows}
use Rattle.plain_run.proofs.Legality.{refused_at, legal_upto, next_history}
use Rattle.plain_run.proofs.folds.are_legal.Goals as goal

pub returns-then-not-legal : goal.returns-then-not-legal
returns-then-not-legal c =
    let denied : c.in_ok-legal.legal ≡ false = search rules in
    let step = c.index-steps-i.result in
    let now : allows c.loop-i.run.topology c.loop-i.run.steps step ≡ allows c.args.topology (history (take c.loop-i.i c.args.steps.now)) step =
    ap (λ (t : Topology). allows t c.loop-i.run.steps step) (c.loop-i.invariant.topology ∙ c.in-Ok.ensures.topology) ∙ ap (λ (h : History). allows c.args.topology h step) c.loop-i.invariant.steps in
    refused_at c.args.topology c.args.steps.now c.loop-i.i step (omega arith) c.index-steps-i.is (sym now ∙ (sym c.in_ok-legal.ensures.told ∙ denied))

pub loop-i-preserved : goal.loop-i-preserved
loop-i-preserved c =
    let given : c.in_ok-legal.legal ≡ true = search rules in
    let step = c.index-steps-i.result in
    let first = c.in-Ok.run' in
    let now : allows c.loop-i.run.topology c.loop-i.run.steps step ≡ allows first.topology (history (take c.loop-i.i c.args.steps.now)) step =
    ap (λ (t : Topology). allows t c.loop-i.run.steps step) c.loop-i.invariant.topology ∙ ap (λ (h : History). allows first.topology h step) c.loop-i.invariant.steps in
    record {
      topology = c.in_ok-legal.ensures.topology ∙ c.loop-i.invariant.topology;
      steps =
          c.in_ok-legal.ensures.appended given
          ∙ (ap (λ (h : History). step ∷ h) c.loop-i.invariant.steps ∙ sym (next_history c.args.steps.now c.loop-i.i step (omega arith) c.index-steps-i.is));
      legal = legal_upto first.topology c.args.steps.now c.loop-i.i step (omega arith) c.index-steps-i.is c.loop-i.invariant.legal (sym now ∙ (sym c.in_ok-legal.ensures.told ∙ given));
    }
