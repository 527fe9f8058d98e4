use Rattle.std.proofs.Common.{sym, refl}
use Rattle.pipe_types.specs.declared.step.Step.TheVariants.{Fetch}
use Rattle.turn_checks.proofs.Outs.{begins_step, unanswered_by}
use Rattle.turn_checks.proofs.Homes.{leaves, not_there}
use Rattle.turn_checks.proofs.logbook.Logbook.put_out.Goals as goal

pub returns-in-Some-take_token-clause-begins : goal.returns-in-Some-take_token-clause-begins
returns-in-Some-take_token-clause-begins c = begins_step (Fetch c.in-Some.stage 1) c.push_spare.new.self.steps c.args.self.now.journal.steps c.reserve.new.self.steps c.push_spare.ensures.written c.reserve.ensures.same_steps

pub returns-in-Some-take_token-clause-unanswered : goal.returns-in-Some-take_token-clause-unanswered
returns-in-Some-take_token-clause-unanswered c = λ p. unanswered_by (Fetch c.in-Some.stage 1) c.push_spare.new.self.steps c.args.self.now.journal.steps c.reserve.new.self.steps p c.push_spare.ensures.written c.reserve.ensures.same_steps refl

pub returns-in-Some-take_token-clause-away : goal.returns-in-Some-take_token-clause-away
returns-in-Some-take_token-clause-away c = leaves c.args.self.now.tokens.items c.take_token.new.tokens.items c.in-Some.stage.0 c.in-Some-take_token.token c.take_token.ensures.len c.take_token.ensures.others (sym c.in-Some-take_token.ensures.out)

pub returns-in-None-clause-away : goal.returns-in-None-clause-away
returns-in-None-clause-away c = not_there c.args.self.now.tokens.items c.take_token.new.tokens.items c.in-Some.stage.0 c.take_token.ensures.len c.take_token.ensures.others (sym c.in-None.ensures.out)
