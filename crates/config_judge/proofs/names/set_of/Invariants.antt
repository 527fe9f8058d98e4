use Rattle.std.proofs.Common.{◌≡◌, ℕ, List, take}
use Rattle.config_judge.specs.Judge as judge
use Rattle.config_judge.specs.Stood.{stands}
use Rattle.config_judge.proofs.names.set_of.Given as goal

abbrev pub invariant-loop-name : goal.invariant-loop-name
invariant-loop-name l = (name : List ℕ) → stands l.stood name ≡ judge.is_in name (take l.name-index l.names)
