use Rattle.std.proofs.Common.{◌≡◌, drop, ◌∙◌, arith, ap, sym, Bool, []}
use Rattle.std.specs.List.{list_any}
use Rattle.std.proofs.lemmas.List.{drop_all}
use Rattle.pipe_types.specs.declared.topology.StageSpec.{StageSpec}
use Rattle.pipe_model.specs.Posts.{has_post_out}
use Rattle.core_rows.proofs.Finding.{any_here, any_next}
use Rattle.core_rows.proofs.posts.is_any_out.Goals as goal

pub returns-then-has_job_out : goal.returns-then-has_job_out
returns-then-has_job_out c =
    let test : StageSpec → Bool = λ spec. has_post_out c.args.core.now.journal.steps spec.no in
    let specs = c.as_slice-spec-items.result.now in
    let here = ap test (sym c.spec-item.is) ∙ (sym c.has_job_out.ensures ∙ c.if-has_job_out.true) in
    sym (any_here test specs c.loop-spec.spec-index c.spec-item.result c.loop-spec-test.true here) ∙ (c.loop-spec.invariant ∙ ap (list_any test) c.as_slice-spec-items.ensures)

pub loop-spec-preserved : goal.loop-spec-preserved
loop-spec-preserved c =
    let test : StageSpec → Bool = λ spec. has_post_out c.args.core.now.journal.steps spec.no in
    let here = ap test (sym c.spec-item.is) ∙ (sym c.has_job_out.ensures ∙ c.if-has_job_out.false) in
    any_next test c.as_slice-spec-items.result.now c.loop-spec.spec-index c.spec-item.result c.loop-spec-test.true here ∙ c.loop-spec.invariant

pub returns : goal.returns
returns c =
    let test : StageSpec → Bool = λ spec. has_post_out c.args.core.now.journal.steps spec.no in
    let specs = c.as_slice-spec-items.result.now in
    let none : drop c.loop-spec.spec-index specs ≡ [] = drop_all c.loop-spec.spec-index specs (omega arith) in
    ap (list_any test) (sym none) ∙ (c.loop-spec.invariant ∙ ap (list_any test) c.as_slice-spec-items.ensures)
