use Rattle.std.proofs.Common.{◌∙◌, ap}
use Rattle.core_laws.specs.Columns.{stage_row}
use Rattle.core_rows.specs.Rows.{needs_by}
use Rattle.core_rows.proofs.Known.{row_within, needs_is}
use Rattle.core_rows.proofs.rows.needs_restart.Goals as goal

pub row_of-requires-clause-within : goal.row_of-requires-clause-within
row_of-requires-clause-within c = row_within c.args.core.now.topology c.args.spec.now c.requires.stands.holds.sound c.requires.there

pub returns : goal.returns
returns c =
    let core = c.args.core.now in
    let spec = c.args.spec.now in
    c.is_to_restart.ensures
    ∙ (ap (λ r. needs_by r spec.role core.totals) c.row_of.ensures
    ∙ (ap (needs_by (stage_row core.topology core.journal.steps spec.no) spec.role) c.requires.stands.holds.fields.totals
    ∙ needs_is core.topology core.journal.steps spec c.requires.there))
