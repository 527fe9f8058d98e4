use Rattle.std.proofs.Common.{◌≡◌, drop, ◌∙◌, arith, ap, sym, Bool, []}
use Rattle.std.specs.Prelude.{not, ◌&&◌}
use Rattle.std.specs.List.{list_all}
use Rattle.std.proofs.lemmas.List.{drop_all}
use Rattle.pipe_types.specs.declared.topology.StageSpec.{StageSpec}
use Rattle.pipe_types.specs.Numbers.{post}
use Rattle.pipe_model.specs.Posts.{is_out}
use Rattle.pipe_model.specs.Legal.{is_producer_role}
use Rattle.core_rows.proofs.Finding.{all_not, all_next}
use Rattle.core_rows.proofs.posts.is_no_fetch_out.Goals as goal

pub returns-then-is_fetch_out : goal.returns-then-is_fetch_out
returns-then-is_fetch_out c =
    let core = c.args.core.now in
    let test : StageSpec → Bool = λ spec. not (is_producer_role spec.role && is_out core.journal.steps (post spec.no 0)) in
    let specs = c.as_slice-spec-items.result.now in
    let here = ap test (sym c.spec-item.is) ∙ (ap not (sym c.is_fetch_out.ensures ∙ c.if-is_fetch_out.true)) in
    sym (all_not test specs c.loop-spec.spec-index c.spec-item.result c.loop-spec-test.true here) ∙ (c.loop-spec.invariant ∙ ap (list_all test) c.as_slice-spec-items.ensures)

pub loop-spec-preserved : goal.loop-spec-preserved
loop-spec-preserved c =
    let core = c.args.core.now in
    let test : StageSpec → Bool = λ spec. not (is_producer_role spec.role && is_out core.journal.steps (post spec.no 0)) in
    let here = ap test (sym c.spec-item.is) ∙ (ap not (sym c.is_fetch_out.ensures ∙ c.if-is_fetch_out.false)) in
    all_next test c.as_slice-spec-items.result.now c.loop-spec.spec-index c.spec-item.result c.loop-spec-test.true here ∙ c.loop-spec.invariant

pub returns : goal.returns
returns c =
    let core = c.args.core.now in
    let test : StageSpec → Bool = λ spec. not (is_producer_role spec.role && is_out core.journal.steps (post spec.no 0)) in
    let specs = c.as_slice-spec-items.result.now in
    let none : drop c.loop-spec.spec-index specs ≡ [] = drop_all c.loop-spec.spec-index specs (omega arith) in
    ap (list_all test) (sym none) ∙ (c.loop-spec.invariant ∙ ap (list_all test) c.as_slice-spec-items.ensures)
