use Rattle.std.proofs.Common.{◌≡◌, map, take}
use Rattle.message_ack.specs.Groups.{successful_of}
use Rattle.message_ack.proofs.verdicts.successful.Given as goal

-- those of the verdicts so far
abbrev pub invariant-loop-v : goal.invariant-loop-v
invariant-loop-v l = map (λ no. no.0) l.numbers.items ≡ successful_of (take l.v-index l.verdicts) l.producer
