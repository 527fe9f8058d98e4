use Rattle.std.proofs.Common.{◌≡◌, ◌+◌, drop}
use Rattle.pipe_model.specs.Flow.{count_on}
use Rattle.plain_queues.proofs.tables.sent_on.Given as goal

abbrev pub invariant-loop-sent : goal.invariant-loop-sent
invariant-loop-sent l = l.count + count_on (drop l.sent-index l.sends) l.sub ≡ count_on l.sends l.sub
