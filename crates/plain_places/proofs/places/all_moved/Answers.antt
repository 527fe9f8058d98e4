use Rattle.std.proofs.Common.{◌≡◌, ℕ, ◌+◌, ◌++◌, drop, ap, ◌∙◌, arith}
use Rattle.plain_queues.specs.Flows.{history_of}
use Rattle.plain_places.specs.Moves.{moved_by}
use Rattle.plain_places.specs.Rows.{each_from}
use Rattle.plain_places.specs.Changes.{move_of}
use Rattle.plain_places.proofs.Rows.{each_more}
use Rattle.plain_places.proofs.places.all_moved.Goals as goal

pub loop-i-preserved : goal.loop-i-preserved
loop-i-preserved c =
    let f = moved_by (history_of c.args.flow.now) (move_of c.args.moves.now) in
    let places = c.args.places.now in
    let i = c.loop-i.i in
    let n : c.in_ok-n.n ≡ c.loop-i.i + 1 = omega (arith, c.in_ok-n.ensures) in
    ap (λ ps. ps ++ each_from f (i + 1 + 1) (drop (i + 1) places)) c.in_ok-push.ensures.items
    ∙ each_more f (each_from f 1 places) c.loop-i.after.items places i c.index-places-i.result c.in_ok-place.place (omega arith) c.index-places-i.is
    (c.in_ok-place.ensures ∙ ap (λ (k : ℕ). f k c.index-places-i.result) n) c.loop-i.invariant
