use Rattle.std.proofs.Common.{◌∙◌, ap}
use Rattle.std.specs.Prelude.{slice_get, option_map}
use Rattle.consumer_sup.specs.declared.Child.{Child}
use Rattle.core_state.specs.Stands.{child_of}
use Rattle.core_allows.proofs.children.held_in.Goals as goal

pub returns : goal.returns
returns c =
    let s = c.args.stage in
    c.held_by.ensures
    ∙ (ap (λ xs. option_map (λ (child : Child). child.no) (child_of (slice_get xs s.0) c.args.slot)) c.deref.ensures.value
    ∙ ap (option_map (λ (child : Child). child.no)) (c.requires.stands.holds.fields.children s c.args.slot))
