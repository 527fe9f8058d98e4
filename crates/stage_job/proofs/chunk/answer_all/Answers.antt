use Rattle.std.proofs.Common.{length, refl, ap, sym, ◌∙◌, arith}
use Rattle.std.proofs.lemmas.List.{nil_from_length}
use Rattle.std.specs.Vec.Iter.{into_iter_items}
use Rattle.stage_job.proofs.CallCounts.{one_call_more}
use Rattle.stage_job.proofs.ChunkSteps.{built_in_next, own_next, all_answered, all_fit}
use Rattle.stage_job.specs.Lawful.{IsLawful}
use Rattle.stage_job.specs.Told.{replies_by}
use Rattle.stage_job.proofs.LawfulSteps.{all_replied, reply_next}
use Rattle.stage_job.proofs.ToldSteps.{told_more, all_told}
use Rattle.stage_job.proofs.chunk.answer_all.Goals as goal

pub loop-message-preserved : goal.loop-message-preserved
loop-message-preserved g c =
    let so_far = c.loop-message.invariant in
    let answered = c.in_ok-reply.ensures in
    let now = goal.Callback-dyn g (c.loop-message.callback.vtable, c.loop-message.callback.value) in
    let first = goal.Callback-dyn g (c.args.callback.now.vtable, c.args.callback.now.value) in
    let spec = first.spec c.args.callback.now.value in
    let calm = sym c.is_crash-crashed.ensures ∙ c.if-crashed.false in
    record {
      can_next = tt;
      is_finite = tt;
      left = omega (arith, ap length c.in-Some.ensures.steps.0, c.in-Some.ensures.steps.1);
      same_kind = answered.same.0 ∙ so_far.same_kind;
      same_spec = answered.same.1 ∙ so_far.same_spec;
      same_told = answered.same.2 ∙ so_far.same_told;
      same_law = answered.same_law.0 ∙ so_far.same_law;
      same_resets = answered.same_law.1 ∙ so_far.same_resets;
      built_in = λ not_own.
          built_in_next spec (now.spec c.loop-message.callback.value) (first.count c.args.callback.now.value) c.args.messages.items c.in-Some.message _ _ _ _ _ _ c.in_ok-reply.reply
          so_far.same_spec c.in-Some.ensures.steps.0 c.in_ok-push.ensures.items (answered.built_in (rw so_far.same_kind not_own)) calm (so_far.built_in not_own);
      no_counts = λ not_own.
          let kept = answered.no_counts (rw so_far.same_kind not_own) in
          (kept.0 ∙ (so_far.no_counts not_own).0, kept.1 ∙ (so_far.no_counts not_own).1);
      calls_kept = omega arith;
      bad_kept = omega arith;
      own = λ is_own.
          own_next spec.batchers c.args.messages.items c.in-Some.message _ _ _ _ c.in_ok-reply.reply
          c.in-Some.ensures.steps.0 c.in_ok-push.ensures.items (rw so_far.same_spec at (answered.shape (so_far.same_kind ∙ is_own))) calm (so_far.own is_own);
      lawful =
          reply_next (IsLawful (first.law c.args.callback.now.value)) c.args.messages.items c.in-Some.message _ _ _ _ c.in_ok-reply.reply
          c.in-Some.ensures.steps.0 c.in_ok-push.ensures.items (rw so_far.same_law at answered.lawful) so_far.lawful;
      counts = λ is_own.
          rw c.in_ok-push.ensures.items
          (one_call_more _ _ _ _ _ _ _ c.in_ok-reply.reply answered.never_fall.0 (answered.calls (so_far.same_kind ∙ is_own)) so_far.bad_kept answered.never_fall.1 (answered.bad (so_far.same_kind ∙ is_own)) (so_far.counts is_own));
      told = λ is_told.
          rw c.in_ok-push.ensures.items
          (told_more replies_by _ _ _ _ c.in_ok-reply.reply (answered.by_answers (rw so_far.same_told is_told)) (so_far.told is_told));
    }

pub returns-clause-replies : goal.returns-clause-replies
returns-clause-replies g c = λ not_own.
    let none = nil_from_length (into_iter_items c.loop-message.message-iterator) (c.loop-message.invariant.left ∙ c.in-None.ensures.steps.0) in
    c.from_vec-2.ensures ∙ all_answered _ _ _ _ _ _ none (c.loop-message.invariant.built_in not_own)

pub returns-clause-shape : goal.returns-clause-shape
returns-clause-shape g c = λ is_own all.
    let none = nil_from_length (into_iter_items c.loop-message.message-iterator) (c.loop-message.invariant.left ∙ c.in-None.ensures.steps.0) in
    rw c.from_vec-2.ensures (all_fit _ _ _ _ none (c.loop-message.invariant.own is_own) all)

pub returns-clause-by_answers : goal.returns-clause-by_answers
returns-clause-by_answers g c = λ is_told.
    rw c.from_vec-2.ensures (all_told replies_by _ _ _ refl (c.loop-message.invariant.told is_told))

pub returns-then-crashed-clause-by_answers : goal.returns-then-crashed-clause-by_answers
returns-then-crashed-clause-by_answers g c = λ is_told.
    let so_far = c.loop-message.invariant in
    let more = told_more replies_by _ _ _ _ c.in_ok-reply.reply (c.in_ok-reply.ensures.by_answers (rw so_far.same_told is_told)) (so_far.told is_told) in
    rw (c.from_vec.ensures, c.in_ok-push.ensures.items) (all_told replies_by _ _ _ refl more)

pub returns-clause-lawful : goal.returns-clause-lawful
returns-clause-lawful g c =
    rw c.from_vec-2.ensures (all_replied _ _ _ _ c.loop-message.invariant.lawful)

pub returns-then-crashed-clause-lawful : goal.returns-then-crashed-clause-lawful
returns-then-crashed-clause-lawful g c =
    let first = goal.Callback-dyn g (c.args.callback.now.vtable, c.args.callback.now.value) in
    let so_far = c.loop-message.invariant in
    let more = reply_next (IsLawful (first.law c.args.callback.now.value)) c.args.messages.items c.in-Some.message _ _ _ _ c.in_ok-reply.reply
    c.in-Some.ensures.steps.0 refl (rw so_far.same_law at c.in_ok-reply.ensures.lawful) so_far.lawful in
    rw (c.from_vec.ensures, c.in_ok-push.ensures.items) (all_replied _ _ _ _ more)
