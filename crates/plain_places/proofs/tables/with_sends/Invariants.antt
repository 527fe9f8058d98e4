use Rattle.std.proofs.Common.{◌≡◌, ◌++◌, take}
use Rattle.plain_places.proofs.tables.with_sends.Given as goal

abbrev pub invariant-loop-one : goal.invariant-loop-one
invariant-loop-one l = l.all.items ≡ l.old ++ take l.one-index l.new
