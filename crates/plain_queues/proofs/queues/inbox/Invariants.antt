use Rattle.std.proofs.Common.{◌≡◌, ◌++◌, drop}
use Rattle.plain_queues.specs.Flows.{topology_of}
use Rattle.plain_queues.specs.Views.{standing_of}
use Rattle.plain_queues.proofs.queues.inbox.Given as goal

abbrev pub invariant-loop-sent : goal.invariant-loop-sent
invariant-loop-sent l = l.units.items ++ standing_of (topology_of l.flow) l.flow.tables.now l.consumer (drop l.sent-index l.sends) ≡ standing_of (topology_of l.flow) l.flow.tables.now l.consumer l.sends
