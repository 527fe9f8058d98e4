use Rattle.std.proofs.Common.{◌∙◌, ap, Option}
use Rattle.std.specs.Prelude.{option_map}
use Rattle.pipe_types.specs.declared.numbers.MsgNo.{MsgNo}
use Rattle.pipe_types.specs.Stages.{spec_of}
use Rattle.pipe_model.specs.Legal.{max_of}
use Rattle.consumer_sup.specs.declared.Child.{Child}
use Rattle.core_laws.specs.Columns.{child_row}
use Rattle.core_allows.specs.Rows.{starts_by}
use Rattle.core_allows.proofs.Slot.{starts_is}
use Rattle.core_allows.proofs.children.starts_in.Goals as goal

pub returns : goal.returns
returns c =
    let core = c.args.core.now in
    let s = c.args.stage in
    let n = c.args.no.0 in
    let slot = c.args.slot in
    let held : Option MsgNo = option_map (λ (child : Child). child.no) (child_row core.topology core.journal.steps s slot) in
    c.starts_by.ensures
    ∙ (ap (λ o. starts_by o n slot c.most_slots.result c.first_unit.result) c.held_in.ensures
    ∙ (ap (λ m. starts_by held n slot m c.first_unit.result) c.most_slots.ensures
    ∙ (ap (λ f. starts_by held n slot (max_of (spec_of core.topology s)) f) c.first_unit.ensures
    ∙ starts_is core.topology core.journal.steps s slot n c.requires.stands.holds.legal)))
