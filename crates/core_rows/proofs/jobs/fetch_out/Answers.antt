use Rattle.std.proofs.Common.{◌∙◌, ap, sym, true, false}
use Rattle.core_tables.specs.declared.rows.StageRow.{StageRow}
use Rattle.core_rows.proofs.Known.{row_within}
use Rattle.core_rows.proofs.Fetched.{fetch_by}
use Rattle.core_rows.proofs.jobs.fetch_out.Goals as goal

pub row_of-requires-clause-within : goal.row_of-requires-clause-within
row_of-requires-clause-within c = row_within c.args.core.now.topology c.args.spec.now c.requires.stands.holds.sound c.requires.there

pub returns-then-is_busy : goal.returns-then-is_busy
returns-then-is_busy c =
    ap (λ (r : StageRow). r.last_fetch) c.row_of.ensures ∙ fetch_by c.args.core.now.journal.steps c.args.spec.now.no true (sym c.is_busy.ensures ∙ c.if-is_busy.true)

pub returns-else-is_busy : goal.returns-else-is_busy
returns-else-is_busy c = fetch_by c.args.core.now.journal.steps c.args.spec.now.no false (sym c.is_busy.ensures ∙ c.if-is_busy.false)
