use Rattle.std.proofs.Common.{◌+◌, drop, refl, ◌∙◌, arith}
use Rattle.std.proofs.lemmas.List.{drop_all}
use Rattle.pipe_types.specs.declared.message.Reply.TheVariants as reply
use Rattle.stage_job.specs.Lawful.{IsRaised}
use Rattle.stage_job.proofs.ChunkSteps.{all_fit, own_next}
use Rattle.stage_job.specs.Told.{raised_by}
use Rattle.stage_job.proofs.LawfulSteps.{all_replied, next_left, none_more, raised_more, reply_next}
use Rattle.stage_job.proofs.ToldSteps.{all_told, told_more}
use Rattle.stage_job.proofs.chunk.raise_all.Goals as goal

pub loop-message-preserved : goal.loop-message-preserved
loop-message-preserved g c =
    let so_far = c.loop-message.invariant in
    let left = c.in_ok-reason.ensures in
    let first = goal.Callback-dyn g (c.args.callback.now.vtable, c.args.callback.now.value) in
    let messages = c.args.messages.now in
    let i = c.loop-message.message-index in
    let m = c.message-item.result in
    let next = next_left messages i m c.loop-message-test.true c.message-item.is in
    record {
      same_kind = left.same.0 ∙ so_far.same_kind;
      same_spec = left.same.1 ∙ so_far.same_spec;
      same_told = left.same.2 ∙ so_far.same_told;
      same_law = left.same_law.0 ∙ so_far.same_law;
      same_resets = left.same_law.1 ∙ so_far.same_resets;
      no_counts = λ not_own.
          let kept = left.no_counts (rw so_far.same_kind not_own) in
          (kept.0 ∙ (so_far.no_counts not_own).0, kept.1 ∙ (so_far.no_counts not_own).1);
      calls_kept = omega arith;
      bad_kept = omega arith;
      own = λ is_own own.
          own_next (first.spec c.args.callback.now.value).batchers messages m (drop i messages) (drop (i + 1) messages) _ _ (reply.Raised c.in_ok-reason.reason)
          next c.in_ok-push.ensures.items (λ fits. left.own_reason (so_far.same_kind ∙ is_own) own) refl (so_far.own is_own own);
      lawful =
          reply_next (IsRaised (first.law c.args.callback.now.value) c.args.why) messages m (drop i messages) (drop (i + 1) messages) _ _ (reply.Raised c.in_ok-reason.reason)
          next c.in_ok-push.ensures.items (rw so_far.same_law at left.lawful) so_far.lawful;
      told = λ is_told.
          rw c.in_ok-push.ensures.items
          (told_more (raised_by c.args.why) _ _ _ _ (reply.Raised c.in_ok-reason.reason) (raised_more c.args.why c.in_ok-reason.reason _ _ (left.by_answer (rw so_far.same_told is_told))) (so_far.told is_told));
      none_passed = none_more c.loop-message.replies.items _ c.in_ok-reason.reason c.in_ok-push.ensures.items so_far.none_passed;
    }

pub returns-clause-shape : goal.returns-clause-shape
returns-clause-shape g c = λ is_own own all.
    let none = drop_all c.loop-message.message-index c.args.messages.now c.loop-message-test.false in
    rw c.from_vec.ensures (all_fit _ _ _ _ none (c.loop-message.invariant.own is_own own) all)

pub returns-clause-by_answers : goal.returns-clause-by_answers
returns-clause-by_answers g c = λ is_told.
    rw c.from_vec.ensures (all_told (raised_by c.args.why) _ _ _ refl (c.loop-message.invariant.told is_told))

pub returns-clause-lawful : goal.returns-clause-lawful
returns-clause-lawful g c =
    rw c.from_vec.ensures (all_replied _ _ _ _ c.loop-message.invariant.lawful)
