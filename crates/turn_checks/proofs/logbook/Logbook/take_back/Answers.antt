use Rattle.turn_checks.proofs.Homes.{own_within, comes_back}
use Rattle.turn_checks.proofs.logbook.Logbook.take_back.Goals as goal

pub put_token-requires : goal.put_token-requires
put_token-requires c = record { within = own_within c.args.self.now.tokens.items c.args.job.post c.requires.away }

pub returns-clause-back : goal.returns-clause-back
returns-clause-back c = comes_back c.args.self.now.tokens.items c.put_token.new.tokens.items c.args.job.post c.args.job.token c.put_token.ensures.len c.put_token.ensures.others c.requires.away
