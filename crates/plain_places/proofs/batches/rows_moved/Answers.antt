use Rattle.std.proofs.Common.{◌≡◌, ℕ, ◌+◌, ◌++◌, ◌∷◌, [], drop, length, map, ap, sym, ◌∙◌, arith}
use Rattle.std.proofs.lemmas.List.{get_or-map, length-map, map-append}
use Rattle.plain_queues.specs.Flows.{history_of}
use Rattle.plain_queues.specs.Views.{batch_of}
use Rattle.plain_places.specs.Moves.{batch_moved}
use Rattle.plain_places.specs.Rows.{each_from}
use Rattle.plain_places.specs.Changes.{row_move_of}
use Rattle.plain_places.proofs.Rows.{each_more}
use Rattle.plain_places.proofs.batches.rows_moved.Goals as goal

pub loop-i-preserved : goal.loop-i-preserved
loop-i-preserved c =
    let f = batch_moved (history_of c.args.flow.now) (row_move_of c.args.change.now) in
    let rows = c.args.rows.now in
    let i = c.loop-i.i in
    let old = c.index-rows-i.result in
    let n : c.in_ok-n.n ≡ c.loop-i.i + 1 = omega (arith, c.in_ok-n.ensures) in
    let same : length (map batch_of c.args.rows.now) ≡ length c.args.rows.now = length-map c.args.rows.now batch_of in
    ap (λ xs. xs ++ each_from f (i + 1 + 1) (drop (i + 1) (map batch_of rows))) (ap (map batch_of) c.in_ok-push.ensures.items ∙ map-append batch_of c.loop-i.after.items (c.in_ok-row.row ∷ []))
    ∙ each_more f (each_from f 1 (map batch_of rows)) (map batch_of c.loop-i.after.items) (map batch_of rows) i (batch_of old) (batch_of c.in_ok-row.row) (omega arith)
    (ap batch_of c.index-rows-i.is ∙ sym (get_or-map batch_of rows i old (batch_of old) (omega arith)))
    (c.in_ok-row.ensures ∙ ap (λ (k : ℕ). f k (batch_of old)) n) c.loop-i.invariant
