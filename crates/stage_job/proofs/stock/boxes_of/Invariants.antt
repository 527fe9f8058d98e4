use Rattle.std.proofs.Common.{◌≡◌, map, take}
use Rattle.stage_job.specs.Boxes.{boxes_of_kind}
use Rattle.stage_job.proofs.stock.boxes_of.Given as goal

abbrev pub invariant-loop-callback : goal.invariant-loop-callback
invariant-loop-callback g l =
    l.boxes ≡ boxes_of_kind l.wanted (take l.callback-index (map (λ b. let now = goal.Callback-dyn g (b.vtable, b.value) in now.kind b.value) l.stock))
