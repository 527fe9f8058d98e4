use Rattle.std.proofs.Common.{◌≡◌, drop, ◌∙◌, arith, ap, sym, Bool, []}
use Rattle.std.specs.Prelude.{◌&&◌, find, option_map}
use Rattle.std.proofs.lemmas.List.{drop_all}
use Rattle.pipe_types.specs.declared.topology.StageSpec.{StageSpec}
use Rattle.pipe_model.specs.Legal.{needs_restart, no_post_out}
use Rattle.core_rows.proofs.Finding.{found_no, not_here, stage_there}
use Rattle.core_moves.proofs.finds.first_to_restart.Goals as goal

pub returns-then-is_ready_to_restart : goal.returns-then-is_ready_to_restart
returns-then-is_ready_to_restart c =
    let core = c.args.core.now in
    found_no (λ spec. needs_restart core.topology core.journal.steps spec.no && no_post_out core.topology core.journal.steps spec.no) c.as_slice-spec-items.result.now core.topology.stages c.loop-spec.spec-index
    c.spec-item.result c.as_slice-spec-items.ensures c.loop-spec-test.true c.spec-item.is (sym c.is_ready_to_restart.ensures ∙ c.if-is_ready_to_restart.true) c.loop-spec.invariant

pub loop-spec-preserved : goal.loop-spec-preserved
loop-spec-preserved c =
    let core = c.args.core.now in
    let test : StageSpec → Bool = λ spec. needs_restart core.topology core.journal.steps spec.no && no_post_out core.topology core.journal.steps spec.no in
    let here = ap test (sym c.spec-item.is) ∙ (sym c.is_ready_to_restart.ensures ∙ c.if-is_ready_to_restart.false) in
    not_here test c.as_slice-spec-items.result.now c.loop-spec.spec-index c.spec-item.result c.loop-spec-test.true here ∙ c.loop-spec.invariant

pub returns : goal.returns
returns c =
    let core = c.args.core.now in
    let test : StageSpec → Bool = λ spec. needs_restart core.topology core.journal.steps spec.no && no_post_out core.topology core.journal.steps spec.no in
    let specs = c.as_slice-spec-items.result.now in
    let none : drop c.loop-spec.spec-index specs ≡ [] = drop_all c.loop-spec.spec-index specs (omega arith) in
    ap (λ xs. option_map (λ (s : StageSpec). s.no) (find test xs)) (sym none) ∙ ap (option_map (λ (s : StageSpec). s.no)) (c.loop-spec.invariant ∙ ap (find test) c.as_slice-spec-items.ensures)

pub is_ready_to_restart-requires-clause-there : goal.is_ready_to_restart-requires-clause-there
is_ready_to_restart-requires-clause-there c =
    stage_there c.args.core.now.topology c.as_slice-spec-items.result.now c.loop-spec.spec-index c.spec-item.result c.requires.stands.holds.sound c.as_slice-spec-items.ensures c.loop-spec-test.true c.spec-item.is
