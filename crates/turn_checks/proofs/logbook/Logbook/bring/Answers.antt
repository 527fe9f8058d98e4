use Rattle.std.proofs.Common.{◌≡◌, List, ap, subst, Option, Some, None}
use Rattle.pipeline_turn.specs.Jobs.{AreAway}
use Rattle.turn_checks.specs.declared.tokens.Token.{Token}
use Rattle.turn_checks.specs.Tokens.{away_from}
use Rattle.turn_checks.proofs.logbook.Logbook.bring.Goals as goal

pub returns-clause-back : goal.returns-clause-back
returns-clause-back c = let same : c.answer.new.self.tokens.items ≡ c.args.self.now.tokens.items = ap (λ z. z.items) c.answer.ensures.tokens in
    subst (λ (z : List (Option Token)). AreAway (Some c.args.job.post) None (away_from 0 z) (away_from 0 c.take_back.new.self.tokens.items)) same c.take_back.ensures.back
