use Rattle.std.proofs.Common.{◌∙◌}
use Rattle.std.specs.Prelude.{◌&&◌, ◌==◌, not}
use Rattle.pipe_types.specs.Numbers.{post}
use Rattle.pipe_model.specs.History.{incarnation}
use Rattle.pipe_model.specs.Posts.{is_out, out_from}
use Rattle.pipe_model.specs.Lives.{is_live}
use Rattle.core_allows.specs.Tested.{late_form}
use Rattle.core_allows.proofs.Held.{and_parts}
use Rattle.core_allows.proofs.Late.{late_model}
use Rattle.core_allows.proofs.answers.may_be_late.Goals as goal

pub returns-clause-tested : goal.returns-clause-tested
returns-clause-tested c =
    let t = c.args.core.now.topology in
    let h = c.args.core.now.journal.steps in
    let s = c.args.stage in
    let i = c.args.incarnation in
    c.is_late_by_rows.ensures
    ∙ and_parts (is_out h (post s c.args.slot)) (out_from h (post s c.args.slot) == i) (not (is_live t h s && incarnation h s == i) && late_form t h s c.args.answer.now)

pub returns-clause-model : goal.returns-clause-model
returns-clause-model c =
    λ e.
    let t = c.args.core.now.topology in
    let h = c.args.core.now.journal.steps in
    let s = c.args.stage in
    let i = c.args.incarnation in
    c.is_late_by_rows.ensures
    ∙ (and_parts (is_out h (post s c.args.slot)) (out_from h (post s c.args.slot) == i) (not (is_live t h s && incarnation h s == i) && late_form t h s c.args.answer.now)
    ∙ late_model t h s c.args.slot i c.args.answer.now e)
