use Rattle.std.proofs.Common.{◌≡◌, length, refl, sym, ◌∙◌, subst, arith}
use Rattle.pipe_types.specs.declared.message.Message.{Message}
use Rattle.stage_bodies.specs.Lawful.{IsSettled}
use Rattle.body_jobs.proofs.Lawful.{lawful_none, lawful_next, lawful_all}
use Rattle.body_jobs.proofs.Settling.{settles_none, settles_next, settles_all}
use Rattle.body_jobs.proofs.batch.settle_all.Goals as goal

pub loop-at-preserved : goal.loop-at-preserved
loop-at-preserved g c =
    let so_far = c.loop-at.invariant in
    let one = c.in_ok-outcome.ensures in
    let law = (goal.Callback-dyn g (c.args.callback.now.vtable, c.args.callback.now.value)).law c.args.callback.now.value in
    let same : length c.args.messages.now ≡ length c.args.outcomes.now = c.requires in
    record {
      settles =
          settles_next c.args.outcomes.now c.loop-at.at c.index-outcomes-at.result c.in_ok-outcome.outcome c.loop-at.settled.items _ c.loop-at-test.true c.index-outcomes-at.is
          c.in_ok-push.ensures.items so_far.settles one.done;
      lawful =
          lawful_next law c.args.messages.now c.args.outcomes.now c.loop-at.at c.index-messages-at.result c.index-outcomes-at.result c.in_ok-outcome.outcome c.loop-at.settled.items _
          (omega (arith, same)) c.loop-at-test.true c.index-messages-at.is c.index-outcomes-at.is c.in_ok-push.ensures.items so_far.lawful
          (subst (λ (x : Message). IsSettled law x.no c.index-outcomes-at.result c.in_ok-outcome.outcome) (sym c.index-messages-at.is) (rw so_far.settles.kept.law at one.lawful));
      resets = one.same_resets ∙ so_far.resets;
    }

pub returns-clause-done : goal.returns-clause-done
returns-clause-done g c = settles_all c.args.outcomes.now c.loop-at.at c.loop-at.settled.items _ c.loop-at-test.false c.from_vec.ensures c.loop-at.invariant.settles

pub loop-at-init : goal.loop-at-init
loop-at-init g c = record {
  settles = settles_none _ _ c.in_ok-settled.ensures.items;
  lawful = lawful_none ((goal.Callback-dyn g (c.args.callback.now.vtable, c.args.callback.now.value)).law c.args.callback.now.value) _ c.in_ok-settled.ensures.items;
  resets = refl;
}

pub returns-clause-lawful : goal.returns-clause-lawful
returns-clause-lawful g c =
    lawful_all ((goal.Callback-dyn g (c.args.callback.now.vtable, c.args.callback.now.value)).law c.args.callback.now.value) c.args.messages.now c.args.outcomes.now c.loop-at.at c.loop-at.settled.items _ (omega arith) c.loop-at-test.false c.from_vec.ensures c.loop-at.invariant.lawful
