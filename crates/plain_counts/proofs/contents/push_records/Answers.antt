use Rattle.std.proofs.Common.{◌≡◌, ℕ, ◌+◌, ◌++◌, ◌∷◌, [], take, ap, sym, ◌∙◌, append_assoc, arith}
use Rattle.pipe_model.specs.Content.{numbers_from}
use Rattle.plain_counts.proofs.Replies.{numbers_upto}
use Rattle.plain_counts.proofs.contents.push_records.Goals as goal

pub loop-record-preserved : goal.loop-record-preserved
loop-record-preserved c =
    let xs = c.args.records.now in
    let i = c.loop-record.record-index in
    let unit : c.in_ok-unit_no.field-0 ≡ c.args.first + i = c.in_ok-unit_no.ensures ∙ c.loop-record.invariant.1 in
    let next : c.in_ok-next.next ≡ c.loop-record.next + 1 = c.in_ok-next.ensures in (
      c.in_ok-push.ensures.items
          ∙ ap (λ us. us ++ c.in_ok-unit_no.field-0 ∷ []) c.loop-record.invariant.0
          ∙ append_assoc c.args.old.items (numbers_from c.args.first (take i xs)) (c.in_ok-unit_no.field-0 ∷ [])
          ∙ ap (λ (n : ℕ). c.args.old.items ++ (numbers_from c.args.first (take i xs) ++ n ∷ [])) unit
          ∙ ap (λ us. c.args.old.items ++ us) (sym (numbers_upto c.args.first xs i c.record-item.result (omega arith) c.record-item.is)),
      omega (arith, c.loop-record.invariant.1),
    )
