use Rattle.std.proofs.Common.{◌∙◌, ap, length}
use Rattle.std.specs.Prelude.{slice_get}
use Rattle.core_tables.specs.Tables.{items_in}
use Rattle.pipe_model.specs.Flow.{units_on}
use Rattle.core_allows.proofs.queues.count_on.Goals as goal

pub returns : goal.returns
returns c =
    let s = c.args.stage in
    c.count_at.ensures
    ∙ (ap (λ qs. length (units_on c.args.sub (items_in (slice_get qs s.0)))) c.deref.ensures.value
    ∙ ap (λ units. length (units_on c.args.sub units)) (c.requires.stands.holds.fields.inboxes s))
