-- The key and the flush mode of a message, by the reply that its content row points at.
use Rattle.std.proofs.Common.{◌≡◌, ℕ, List, refl, ap, sym, ◌∙◌, Some, None, Option}
use Rattle.std.specs.Prelude.{slice_get, unwrap_or}
use Rattle.pipe_types.specs.declared.numbers.StageNo.{StageNo}
use Rattle.pipe_types.specs.declared.message.Message.{Message}
use Rattle.pipe_types.specs.declared.step.Step.{Step}
use Rattle.pipe_types.specs.declared.step.Step.TheVariants.{Accept, Late}
use Rattle.pipe_types.specs.declared.step.LateAnswer.TheVariants.{Records}
use Rattle.pipe_types.specs.Numbers.{stage}
use Rattle.pipe_model.specs.History.{History}
use Rattle.pipe_model.specs.Content.{content, key_in, flush_in, new_message, producer_of}
use Rattle.pipe_journal.specs.Readers.{step_at, reply_at, item_of, records_of, replies_of}
use Rattle.core_tables.specs.declared.rows.ContentRow.{ContentRow}
use Rattle.core_laws.specs.Columns.{content_row}
use Rattle.core_laws.specs.Contents.{passed_in, message_in, message_by}
use Rattle.core_laws.proofs.Contents.{content_is}

-- what a record does not have may be read of the reply
read_as : {X : Type 0} (f : Option Message → X) (s : StageNo) (n : ℕ) → ((bytes : List ℕ) → f (Some (new_message s n bytes)) ≡ f None) → (o : Option Step) (item : ℕ)
    → f (message_in s n (item_of records_of o item) (item_of replies_of o item)) ≡ f (passed_in (item_of replies_of o item))
read_as f s n plain None item = refl
read_as f s n plain (Some (Accept t records)) item = by (slice_get records item)
  where
    by : (o : Option (List ℕ)) → f (message_in s n o None) ≡ f None
    by None = refl
    by (Some bytes) = plain bytes
read_as f s n plain (Some (Late t slot i (Records records))) item = by (slice_get records item)
  where
    by : (o : Option (List ℕ)) → f (message_in s n o None) ≡ f None
    by None = refl
    by (Some bytes) = plain bytes
read_as f s n plain (Some step) item = refl

content_read : {X : Type 0} (f : Option Message → X) → ((s : StageNo) (n : ℕ) (bytes : List ℕ) → f (Some (new_message s n bytes)) ≡ f None) → (before : History) (n : ℕ) (row : ContentRow)
    → content_row before n ≡ Some row → f (passed_in (reply_at before row.entry row.item)) ≡ f (content before n)
content_read f plain before n row at =
    let s = unwrap_or (producer_of before n) (stage 0) in
    sym (read_as f s n (plain s n) (step_at before row.entry) row.item)
    ∙ (sym (ap (λ o. f (message_by before (producer_of before n) n o)) at) ∙ ap f (content_is before n))

pub key_read : (before : History) (n : ℕ) (row : ContentRow) → content_row before n ≡ Some row → key_in (passed_in (reply_at before row.entry row.item)) ≡ key_in (content before n)
key_read before n row at = content_read key_in (λ s k bytes. refl) before n row at

pub flush_read : (before : History) (n : ℕ) (row : ContentRow) → content_row before n ≡ Some row → flush_in (passed_in (reply_at before row.entry row.item)) ≡ flush_in (content before n)
flush_read before n row at = content_read flush_in (λ s k bytes. refl) before n row at
