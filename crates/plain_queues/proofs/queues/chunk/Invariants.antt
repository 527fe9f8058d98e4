use Rattle.std.proofs.Common.{◌≡◌, ◌++◌, drop}
use Rattle.plain_queues.specs.Views.{running_of}
use Rattle.plain_queues.proofs.queues.chunk.Given as goal

abbrev pub invariant-loop-sent : goal.invariant-loop-sent
invariant-loop-sent l = l.units.items ++ running_of l.flow.tables.now l.stage (drop l.sent-index l.sends) ≡ running_of l.flow.tables.now l.stage l.sends
