use Rattle.std.proofs.Common.{◌≡◌, ap, ◌∙◌}
use Rattle.pipe_types.specs.declared.message.BatchReply.TheVariants.{Answered}
use Rattle.stage_callback.proofs.BatchSteps.{next_message, same_so_far, one_passed, passes, all_seen}
use Rattle.stage_callback.proofs.batches.pass_all.Goals as goal

pub loop-message-preserved : goal.loop-message-preserved
loop-message-preserved c =
    let so_far = next_message _ _ _ _ c.message-item.result c.loop-message.message-index _ _ _ c.loop-message-test.true c.message-item.is c.loop-message.invariant in
    same_so_far _ _ _ _ _ _ _ _ _ _ _ c.saturating_add-seen.ensures c.in_ok-push.ensures.items c.in_ok-add_line.ensures
    (one_passed _ _ _ _ _ _ _ _ _ c.message-item.result (passes c.args.spec.now c.loop-message.seen c.message-item.result c.requires) so_far)

pub returns-clause-reply : goal.returns-clause-reply
returns-clause-reply c =
    ap (λ os. Answered os c.from_vec-2.result) c.from_vec.ensures ∙ (ap (λ t. Answered c.loop-message.outcomes.items t) c.from_vec-2.ensures ∙
    (all_seen _ _ _ _ _ _ _ c.loop-message.message-index c.loop-message-test.false c.loop-message.invariant).0)

pub returns-clause-count : goal.returns-clause-count
returns-clause-count c = (all_seen _ _ _ _ _ _ _ c.loop-message.message-index c.loop-message-test.false c.loop-message.invariant).1
