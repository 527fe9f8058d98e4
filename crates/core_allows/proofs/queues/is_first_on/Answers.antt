use Rattle.std.proofs.Common.{◌∙◌, ap}
use Rattle.std.specs.Prelude.{slice_get}
use Rattle.core_tables.specs.Tables.{items_in}
use Rattle.pipe_model.specs.Legal.{first_sub}
use Rattle.core_allows.proofs.queues.is_first_on.Goals as goal

pub returns : goal.returns
returns c =
    let s = c.args.stage in
    c.comes_first.ensures
    ∙ (ap (λ qs. first_sub (items_in (slice_get qs s.0)) c.args.sub) c.deref.ensures.value
    ∙ ap (λ units. first_sub units c.args.sub) (c.requires.stands.holds.fields.inboxes s))
