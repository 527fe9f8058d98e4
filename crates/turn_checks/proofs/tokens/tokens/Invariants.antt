use Rattle.std.proofs.Common.{◌≡◌, []}
use Rattle.turn_checks.specs.Tokens.{away_from}
use Rattle.turn_checks.proofs.tokens.tokens.Given as goal

-- each token so far is at home
abbrev pub invariant-loop : goal.invariant-loop
invariant-loop l = away_from 0 l.tokens.items ≡ []
