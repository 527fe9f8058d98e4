use Rattle.std.proofs.Common.{◌≡◌, take, min}
use Rattle.std.specs.Prelude.{fold}
use Rattle.dispatch_broadcast.proofs.least_open_demand.Given as goal

abbrev pub invariant-loop-other : goal.invariant-loop-other
invariant-loop-other l = l.least ≡ fold (λ least v. min least v.left) l.initial.least (take l.other-index l.others)
