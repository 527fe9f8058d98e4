use Rattle.std.proofs.Common.{◌≡◌, map, take}
use Rattle.dispatch_broadcast.proofs.open_demands.Given as goal

abbrev pub invariant-loop-each : goal.invariant-loop-each
invariant-loop-each l = l.left.items ≡ map (λ v. v.left) (take l.each-index l.room)
