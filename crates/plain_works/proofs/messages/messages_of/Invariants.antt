use Rattle.std.proofs.Common.{◌≡◌, ◌++◌, drop}
use Rattle.pipe_model.specs.History.{history}
use Rattle.pipe_model.specs.Work.{messages_of}
use Rattle.plain_works.proofs.messages.messages_of.Given as goal

abbrev pub invariant-loop-n : goal.invariant-loop-n
invariant-loop-n l = l.messages.items ++ messages_of (history l.steps) (drop l.n-index l.numbers) ≡ messages_of (history l.steps) l.numbers
