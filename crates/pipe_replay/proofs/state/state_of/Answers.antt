use Rattle.std.proofs.Common.{◌≡◌, true, false, refl, sym, subst, ◌∙◌, rules, arith}
use Rattle.pipe_model.specs.History.{History}
use Rattle.pipe_replay.specs.States.{StateStands}
use Rattle.pipe_replay.proofs.Legality.{refused_at, legal_upto, next_history}
use Rattle.pipe_replay.proofs.state.state_of.Goals as goal

pub loop-i-init : goal.loop-i-init
loop-i-init c = record { legal = refl; stands = c.first_state-state.ensures c.args.topology.now }

pub returns-then-not-branch-clause-legal : goal.returns-then-not-branch-clause-legal
returns-then-not-branch-clause-legal c =
    let denied : c.in_ok-may_follow.field-0 ≡ false = search rules in
    refused_at c.args.topology.now c.args.steps.now c.loop-i.i c.index-steps-i.result (omega arith) c.index-steps-i.is (sym c.in_ok-may_follow.ensures ∙ denied)

pub loop-i-preserved : goal.loop-i-preserved
loop-i-preserved c =
    let given : c.in_ok-may_follow.field-0 ≡ true = search rules in
    let step = c.index-steps-i-in-loop-i.result in
    record {
      legal = legal_upto c.args.topology.now c.args.steps.now c.loop-i.i c.index-steps-i.result (omega arith) c.index-steps-i.is c.loop-i.invariant.legal (sym c.in_ok-may_follow.ensures ∙ given);
      stands =
          subst (λ (h : History). StateStands c.args.topology.now h c.in_ok-state.state)
          (sym (next_history c.args.steps.now c.loop-i.i step (omega arith) c.index-steps-i-in-loop-i.is))
          c.in_ok-state.ensures;
    }
