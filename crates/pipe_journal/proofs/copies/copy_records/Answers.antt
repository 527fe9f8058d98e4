use Rattle.std.proofs.Common.{◌≡◌, ℕ, ◌∷◌, [], ◌++◌, sym, ap, ◌∙◌, List}
use Rattle.pipe_journal.specs.Items.{records_seen}
use Rattle.pipe_journal.proofs.Walks.{one_more}
use Rattle.pipe_journal.proofs.copies.copy_records.Goals as goal

pub loop-at-preserved : goal.loop-at-preserved
loop-at-preserved c =
    c.in_ok-push.ensures.items
    ∙ ap (λ (bytes : List ℕ). c.loop-at.copied.items ++ bytes ∷ []) c.in_ok-copy_bytes.ensures
    ∙ ap (λ (records : List (List ℕ)). records ++ c.item.result.now ∷ []) c.loop-at.invariant
    ∙ sym (one_more (records_seen c.args.records) c.loop-at.at c.item.result.now c.item.ensures)
