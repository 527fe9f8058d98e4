use Rattle.std.proofs.Common.{◌≡◌, ◌<◌, take}
use Rattle.std.specs.Prelude.{fold, ◌+◌, ◌*◌, ◌%◌, ◌^◌}
use Rattle.plain_dispatch.proofs.hash.Given as goal

abbrev pub invariant-loop-b : goal.invariant-loop-b
invariant-loop-b l = (l.h ≡ fold (λ h b. (31 * h + b) % 2 ^ 32) 0 (take l.b-index l.bytes)) × (l.h < 2 ^ 32)
