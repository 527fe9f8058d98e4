use Rattle.std.proofs.Common.{◌+◌, sym, ap, ◌∙◌}
use Rattle.stage_job.specs.Boxes.{same_kind}
use Rattle.stage_job.proofs.KindCounts.{no_more, one_more}
use Rattle.box_stock.proofs.homes.boxes_of.Goals as goal
use Rattle.box_stock.proofs.homes.boxes_of.Goals.{then-is_same, else-is_same}

pub loop-callback-preserved : goal.loop-callback-preserved
loop-callback-preserved g c =
    let kind_of_box = λ (b : _). (g.C.Boxed.seen b).kind in
    let same = sym (c.is_same.ensures ∙ ap (same_kind c.args.wanted) c.kind_of.ensures) in
    elim c.if-is_same.branch [
      | then-is_same w ↦
          w.boxes-is ∙ (ap (λ n. n + 1) c.loop-callback.invariant
          ∙ sym (one_more kind_of_box c.args.wanted c.args.stock.now c.loop-callback.callback-index c.callback-item.result c.loop-callback-test.true c.callback-item.is (same ∙ w.if-is_same.true)))
      | else-is_same w ↦
          w.boxes-is ∙ (c.loop-callback.invariant
          ∙ sym (no_more kind_of_box c.args.wanted c.args.stock.now c.loop-callback.callback-index c.callback-item.result c.loop-callback-test.true c.callback-item.is (same ∙ w.if-is_same.false)))
    ]
