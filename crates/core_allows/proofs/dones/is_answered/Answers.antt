use Rattle.std.proofs.Common.{◌∙◌, ap}
use Rattle.std.specs.Prelude.{slice_get}
use Rattle.core_tables.specs.Tables.{list_in}
use Rattle.core_allows.specs.Tested.{answers_each}
use Rattle.core_allows.proofs.dones.is_answered.Goals as goal

pub returns : goal.returns
returns c =
    let s = c.args.stage in
    c.is_answered_at.ensures
    ∙ (ap (λ qs. answers_each (list_in (slice_get qs s.0)) c.args.replies.now) c.deref.ensures.value
    ∙ ap (λ ns. answers_each ns c.args.replies.now) (c.requires.stands.holds.fields.chunks s))
