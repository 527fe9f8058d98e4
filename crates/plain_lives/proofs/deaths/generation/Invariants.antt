use Rattle.std.proofs.Common.{◌≡◌, take}
use Rattle.plain_lives.specs.Lives.{generation_by}
use Rattle.plain_lives.proofs.deaths.generation.Given as goal

abbrev pub invariant-loop-renewal : goal.invariant-loop-renewal
invariant-loop-renewal l = l.count ≡ generation_by (take l.renewal-index l.renewals) l.consumer l.producer
