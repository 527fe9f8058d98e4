use Rattle.std.proofs.Common.{◌≡◌, length, refl, sym, ap, ◌∙◌}
use Rattle.std.specs.Prelude.{◌==◌}
use Rattle.pipe_types.specs.declared.message.Reply.TheVariants.{Raised, Crashed}
use Rattle.pipe_types.specs.declared.message.BatchReply.TheVariants.{Answered, Raised as RaisedBatch, Crashed as CrashedBatch}
use Rattle.pipe_types.specs.Handlers.{eval}
use Rattle.stage_callback.proofs.BatchSteps.{next_message, same_so_far, one_passed, no_rules, one_failed, ended_by, all_seen}
use Rattle.stage_callback.proofs.batches.apply_to_batch.Goals as goal
use Rattle.stage_callback.proofs.batches.apply_to_batch.Goals.{in-Pass+in_ok-push-in-Pass+in_ok-add_line-in-Pass, in-Failed+in_ok-push-in-Failed}

pub pass_all-requires : goal.pass_all-requires
pass_all-requires c = no_rules c.args.spec.now.rules (ap (λ rules. length rules == 0) (sym c.as_slice.ensures) ∙ (sym c.is_empty.ensures ∙ c.if-is_empty.true))

pub returns-in-Raised-clause-reply : goal.returns-in-Raised-clause-reply
returns-in-Raised-clause-reply c =
    let is : Raised c.in-Raised.why ≡ eval c.args.spec.now c.loop-message.seen c.message-item.result = sym c.in-Raised.is ∙ c.in_ok-reply.ensures in
    let so_far = next_message _ _ _ _ c.message-item.result c.loop-message.message-index _ _ _ c.loop-message-test.true c.message-item.is c.loop-message.invariant in
    (ended_by _ _ _ _ _ _ _ _ _ _ (RaisedBatch c.in-Raised.why) refl refl is so_far).0

pub returns-in-Crashed-clause-reply : goal.returns-in-Crashed-clause-reply
returns-in-Crashed-clause-reply c =
    let is : Crashed ≡ eval c.args.spec.now c.loop-message.seen c.message-item.result = sym c.in-Crashed.is ∙ c.in_ok-reply.ensures in
    let so_far = next_message _ _ _ _ c.message-item.result c.loop-message.message-index _ _ _ c.loop-message-test.true c.message-item.is c.loop-message.invariant in
    (ended_by _ _ _ _ _ _ _ _ _ _ CrashedBatch refl refl is so_far).0

pub loop-message-preserved : goal.loop-message-preserved
loop-message-preserved c =
    let so_far = next_message _ _ _ _ c.message-item.result c.loop-message.message-index _ _ _ c.loop-message-test.true c.message-item.is c.loop-message.invariant in
    elim c.match-reply.branch [
      | in-Pass+in_ok-push-in-Pass+in_ok-add_line-in-Pass w ↦
          same_so_far _ _ _ _ _ _ _ _ _ _ _ c.saturating_add-seen.ensures
          (ap (λ v. v.items) w.outcomes-is ∙ w.in_ok-push-in-Pass.ensures.items)
          (ap (λ v. v.items) w.text-is ∙ w.in_ok-add_line-in-Pass.ensures)
          (one_passed _ _ _ _ _ _ _ _ _ w.in-Pass.passed (sym w.in-Pass.is ∙ c.in_ok-reply.ensures) so_far)
      | in-Failed+in_ok-push-in-Failed w ↦
          same_so_far _ _ _ _ _ _ _ _ _ _ _ c.saturating_add-seen.ensures
          (ap (λ v. v.items) w.outcomes-is ∙ w.in_ok-push-in-Failed.ensures.items)
          (ap (λ v. v.items) w.text-is)
          (one_failed _ _ _ _ _ _ _ _ _ w.in-Failed.why (sym w.in-Failed.is ∙ c.in_ok-reply.ensures) so_far)
    ]

pub returns-clause-reply : goal.returns-clause-reply
returns-clause-reply c =
    ap (λ os. Answered os c.from_vec-2.result) c.from_vec.ensures ∙ (ap (λ t. Answered c.loop-message.outcomes.items t) c.from_vec-2.ensures ∙
    (all_seen _ _ _ _ _ _ _ c.loop-message.message-index c.loop-message-test.false c.loop-message.invariant).0)

pub returns-clause-count : goal.returns-clause-count
returns-clause-count c = (all_seen _ _ _ _ _ _ _ c.loop-message.message-index c.loop-message-test.false c.loop-message.invariant).1
