use Rattle.core_restarts.specs.Renewals.{live_upto, AreRenewed}
use Rattle.core_restarts.proofs.renewing.renew_all.Given as goal

abbrev pub invariant-loop-at : goal.invariant-loop-at
invariant-loop-at l = AreRenewed l.topology (live_upto l.at l.rows) l.fn.stage l.fn.subs l.subs
