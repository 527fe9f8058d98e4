-- The key of a message, by its content row.
use Rattle.std.proofs.Common.{◌≡◌, ℕ, suc, ◌-◌, ◌≤◌, ap, sym, Option, None, Some, ◌∙◌, arith}
use Rattle.std.specs.Prelude.{slice_get}
use Rattle.pipe_model.specs.History.{History}
use Rattle.pipe_model.specs.Content.{key_in, content, producer_of}
use Rattle.core_tables.specs.declared.rows.ContentRow.{ContentRow}
use Rattle.core_laws.specs.Columns.{content_row}
use Rattle.core_laws.specs.Contents.{message_by, passed_by}
use Rattle.core_laws.proofs.Contents.{content_is}
use Rattle.core_laws.proofs.Passing.{key_read}
use Rattle.core_state.specs.declared.state.Core.{Core}
use Rattle.core_state.specs.Stands.{Holds}

-- the key of a message by its content row
pub key_by : (before : History) (n : ℕ) (o : Option ContentRow) → content_row before n ≡ o → key_in (passed_by before o) ≡ key_in (content before n)
key_by before n None e = ap key_in (ap (message_by before (producer_of before n) n) (sym e) ∙ content_is before n)
key_by before n (Some row) e = key_read before n row e

-- the key of a message whose row was read of the table
pub key_at : (core : Core) (n : ℕ) (o : Option ContentRow) → Holds core → 1 ≤ n → o ≡ slice_get core.contents.items (n - 1) → key_in (passed_by core.journal.steps o) ≡ key_in (content core.journal.steps n)
key_at core n o x least read =
    let number : suc (n - 1) ≡ n = omega (arith, least) in
    key_by core.journal.steps n o (ap (content_row core.journal.steps) (sym number) ∙ (sym (x.fields.contents (n - 1)) ∙ sym read))
