use Rattle.std.proofs.Common.{◌≡◌, ◌++◌, drop}
use Rattle.pipe_model.specs.Flow.{delivered_to}
use Rattle.plain_works.specs.Works.{subs_for}
use Rattle.plain_works.proofs.ledger.subs_in.Given as goal

abbrev pub invariant-loop-sent : goal.invariant-loop-sent
invariant-loop-sent l = l.subs.items ++ subs_for (delivered_to (drop l.sent-index l.sends) l.consumer) l.m ≡ subs_for (delivered_to l.sends l.consumer) l.m
