use Rattle.std.proofs.Common.{◌≡◌, false, ◌==◌, length, sym, ap, ◌∙◌}
use Rattle.std.proofs.lemmas.Result.{IfOk-weaker}
use Rattle.pipe_types.specs.Handlers.{chunk_replies}
use Rattle.pipe_model.specs.Content.{has_crash}
use Rattle.stage_job.proofs.CalmRules.{chunk_calm}
use Rattle.stage_job.proofs.ChunkSteps.{crash_fits}
use Rattle.stage_job.proofs.chunk.run_chunk.Goals as goal

pub returns-in-Ready-clause-replies : goal.returns-in-Ready-clause-replies
returns-in-Ready-clause-replies g c = λ not_own.
    let shown = c.in_ok-show.ensures in
    rw (shown.same.1, (shown.built_in not_own).1, c.into_vec-messages.ensures) at (c.answer_all.ensures.replies (rw shown.same.0 not_own))

pub returns-in-Ready-clause-calm : goal.returns-in-Ready-clause-calm
returns-in-Ready-clause-calm g c = λ not_own calm.
    let old = goal.Callback-dyn g (c.args.callback.now.vtable, c.args.callback.now.value) in
    let spec = old.spec c.args.callback.now.value in
    let count = old.count c.args.callback.now.value in
    IfOk-weaker c.answer_all.result (λ r. r ≡ chunk_replies spec count c.args.messages) (λ r. has_crash r ≡ false)
    (λ r is. ap has_crash is ∙ chunk_calm spec count c.args.messages calm)
    (returns-in-Ready-clause-replies g c not_own)

pub returns-in_ok-vec-in-Crashed-clause-shape : goal.returns-in_ok-vec-in-Crashed-clause-shape
returns-in_ok-vec-in-Crashed-clause-shape g c = λ is_own all.
    let some : (length c.args.messages == 0) ≡ false =
    ap (λ ms. length ms == 0) (sym c.into_vec-messages.ensures) ∙ (ap (λ n. n == 0) (sym c.into_vec-messages.result.ok.0) ∙ (sym c.is_empty.ensures ∙ c.if-is_empty.false)) in
    rw (c.from_vec-in-Crashed.ensures, c.in_ok-vec-in-Crashed.ensures.items) (crash_fits _ c.args.messages some)
