use Rattle.std.proofs.Common.{◌≡◌, ◌+◌, ◌*◌, ◌^◌, take}
use Rattle.std.specs.Prelude.{◌%◌, fold}
use Rattle.dispatch_partition.proofs.partition_of.Given as goal

abbrev pub invariant-loop-byte : goal.invariant-loop-byte
invariant-loop-byte l = l.hash ≡ fold (λ h b. (31 * h + b) % 2 ^ 32) 0 (take l.byte-index l.key)
