use Rattle.std.proofs.Common.{◌∙◌, ap}
use Rattle.std.specs.Prelude.{slice_get, is_some}
use Rattle.core_state.specs.Stands.{child_of}
use Rattle.core_moves.proofs.children.runs_in_slot.Goals as goal

pub returns : goal.returns
returns c =
    let s = c.args.stage in
    c.is_held.ensures ∙ (ap (λ xs. is_some (child_of (slice_get xs s.0) c.args.slot)) c.deref.ensures.value ∙ ap is_some (c.requires.stands.holds.fields.children s c.args.slot))
