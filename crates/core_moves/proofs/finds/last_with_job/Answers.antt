use Rattle.std.proofs.Common.{◌≡◌, ◌-◌, ◌<◌, List, [], length, drop, get_or, ◌∙◌, arith, ap, sym, Some, Bool}
use Rattle.std.specs.Prelude.{find, option_map, reverse}
use Rattle.std.proofs.lemmas.List.{drop_all, length-reverse}
use Rattle.pipe_types.specs.declared.topology.StageSpec.{StageSpec}
use Rattle.pipe_model.specs.Moves.{has_job}
use Rattle.core_rows.proofs.Finding.{found_here, not_here, stage_there}
use Rattle.core_moves.proofs.Chain.{from_last}
use Rattle.core_moves.proofs.finds.last_with_job.Goals.{After-has_job}
use Rattle.core_moves.proofs.finds.last_with_job.Goals as goal

-- the stage at this place from the end
stage_at : (c : After-has_job) → c.index-specs-specs.result ≡ get_or (reverse c.args.core.now.topology.stages) c.loop-back.back c.index-specs-specs.result
stage_at c =
    let back = c.loop-back.back in
    let spec = c.index-specs-specs.result in
    from_last c.as_slice-specs.result.now back spec c.loop-back-test.true c.index-specs-specs.is ∙ ap (λ (xs : List StageSpec). get_or (reverse xs) back spec) c.as_slice-specs.ensures

is_there : (c : After-has_job) → c.loop-back.back < length (reverse c.args.core.now.topology.stages)
is_there c = omega (arith, ap length c.as_slice-specs.ensures, length-reverse c.args.core.now.topology.stages, c.loop-back-test.true)

pub has_job-requires-clause-there : goal.has_job-requires-clause-there
has_job-requires-clause-there c =
    let specs = c.as_slice-specs.result.now in
    stage_there c.args.core.now.topology specs (length specs - 1 - c.loop-back.back) c.index-specs-specs.result c.requires.stands.holds.sound c.as_slice-specs.ensures (omega (arith, c.loop-back-test.true)) c.index-specs-specs.is

pub returns-then-has_job : goal.returns-then-has_job
returns-then-has_job c =
    let read = (goal.at.returns-then-has_job c).After-has_job in
    let test : StageSpec → Bool = has_job c.args.core.now.topology c.args.core.now.journal.steps in
    let here = ap test (sym (stage_at read)) ∙ (sym c.has_job.ensures ∙ c.if-has_job.true) in
    let first = found_here test (reverse c.args.core.now.topology.stages) c.loop-back.back c.index-specs-specs.result (is_there read) here in
    ap (λ (o : StageSpec). Some o.no) (stage_at read) ∙ ap (option_map (λ (s : StageSpec). s.no)) (sym first ∙ c.loop-back.invariant)

pub loop-back-preserved : goal.loop-back-preserved
loop-back-preserved c =
    let read = (goal.at.loop-back-preserved c).After-has_job in
    let test : StageSpec → Bool = has_job c.args.core.now.topology c.args.core.now.journal.steps in
    let here = ap test (sym (stage_at read)) ∙ (sym c.has_job.ensures ∙ c.if-has_job.false) in
    not_here test (reverse c.args.core.now.topology.stages) c.loop-back.back c.index-specs-specs.result (is_there read) here ∙ c.loop-back.invariant

pub returns : goal.returns
returns c =
    let core = c.args.core.now in
    let test : StageSpec → Bool = has_job core.topology core.journal.steps in
    let specs = c.as_slice-specs.result.now in
    let stages = core.topology.stages in
    let back = c.loop-back.back in
    let len : length specs ≡ length stages = ap length c.as_slice-specs.ensures in
    let none : drop back (reverse stages) ≡ [] = drop_all back (reverse stages) (omega (arith, len, length-reverse stages, c.loop-back-test.false)) in
    ap (λ xs. option_map (λ (s : StageSpec). s.no) (find test xs)) (sym none) ∙ ap (option_map (λ (s : StageSpec). s.no)) c.loop-back.invariant
