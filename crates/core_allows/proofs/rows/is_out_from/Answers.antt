use Rattle.std.proofs.Common.{◌∙◌, ap, sym}
use Rattle.std.specs.Prelude.{slice_get}
use Rattle.core_tables.specs.Rows.{post_at}
use Rattle.core_allows.specs.Rows.{from_by}
use Rattle.core_allows.proofs.Held.{from_here}
use Rattle.core_allows.proofs.rows.is_out_from.Goals as goal

pub returns-then-is_out : goal.returns-then-is_out
returns-then-is_out c =
    let core = c.args.core.now in
    let s = c.args.stage in
    let slot = c.args.slot in
    c.is_from.ensures
    ∙ (ap (λ xs. from_by (slice_get xs (post_at s.0 slot)) c.args.incarnation) c.deref.ensures.value
    ∙ from_here core s slot c.args.incarnation c.requires.stands.holds (sym c.is_out.ensures ∙ c.if-is_out.true))
