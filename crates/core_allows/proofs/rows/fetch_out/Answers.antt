use Rattle.std.proofs.Common.{◌∙◌, ap, sym, false}
use Rattle.std.specs.Prelude.{slice_get}
use Rattle.core_rows.proofs.Fetched.{fetch_by}
use Rattle.core_allows.specs.Rows.{fetched_by}
use Rattle.core_allows.proofs.Held.{fetch_here}
use Rattle.core_allows.proofs.rows.fetch_out.Goals as goal

pub returns-then-is_out : goal.returns-then-is_out
returns-then-is_out c =
    let core = c.args.core.now in
    let s = c.args.stage in
    c.last_fetch.ensures
    ∙ (ap (λ xs. fetched_by (slice_get xs s.0)) c.deref.ensures.value ∙ fetch_here core s c.requires.stands.holds (sym c.is_out.ensures ∙ c.if-is_out.true))

pub returns-else-is_out : goal.returns-else-is_out
returns-else-is_out c = fetch_by c.args.core.now.journal.steps c.args.stage false (sym c.is_out.ensures ∙ c.if-is_out.false)
