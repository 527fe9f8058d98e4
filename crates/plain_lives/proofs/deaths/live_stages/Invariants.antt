use Rattle.std.proofs.Common.{◌≡◌, ◌++◌, drop}
use Rattle.plain_lives.specs.Lives.{live_numbers}
use Rattle.plain_lives.proofs.deaths.live_stages.Given as goal

abbrev pub invariant-loop-spec : goal.invariant-loop-spec
invariant-loop-spec l = l.live.items ++ live_numbers l.deaths (drop l.spec-index l.specs) ≡ live_numbers l.deaths l.specs
