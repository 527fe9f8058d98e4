use Rattle.std.proofs.Common.{◌≡◌, drop}
use Rattle.plain_works.specs.Works.{is_on}
use Rattle.plain_works.proofs.ledger.is_on.Given as goal

abbrev pub invariant-loop-on : goal.invariant-loop-on
invariant-loop-on l = is_on (drop l.on-index l.subs) l.sub ≡ is_on l.subs l.sub
