use Rattle.std.proofs.Common.{◌≡◌, take}
use Rattle.stage_job.specs.Boxes.{boxes_of_kind}
use Rattle.box_stock.specs.Lends.{kinds_of}
use Rattle.box_stock.proofs.homes.boxes_of.Given as goal

abbrev pub invariant-loop-callback : goal.invariant-loop-callback
invariant-loop-callback g l =
    l.boxes ≡ boxes_of_kind l.wanted (take l.callback-index (kinds_of g.C.Boxed.seen l.stock))
