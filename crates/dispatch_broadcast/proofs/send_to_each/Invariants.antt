use Rattle.std.proofs.Common.{◌≡◌, ◌++◌, take}
use Rattle.pipe_types.specs.Dispatchers.{on_each}
use Rattle.dispatch_broadcast.proofs.send_to_each.Given as goal

abbrev pub invariant-loop-each : goal.invariant-loop-each
invariant-loop-each l = l.sent.items ≡ l.fn.sent.items ++ on_each l.unit (take l.each-index l.room)
