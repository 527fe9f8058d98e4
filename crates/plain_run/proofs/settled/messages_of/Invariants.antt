use Rattle.std.proofs.Common.{◌≡◌, take}
use Rattle.std.specs.List.{flat_map}
use Rattle.plain_run.specs.Works.{numbers_at}
use Rattle.plain_run.proofs.settled.messages_of.Given as goal

-- the messages of the batches so far
abbrev pub invariant-loop-no : goal.invariant-loop-no
invariant-loop-no l = l.numbers.items ≡ flat_map (numbers_at l.rows) (take l.no-index l.batches)
