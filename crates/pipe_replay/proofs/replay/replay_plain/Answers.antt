use Rattle.std.proofs.Common.{rules}
use Rattle.pipe_model.specs.History.{history}
use Rattle.pipe_laws.proofs.Claims.{keeps_claims}
use Rattle.pipe_replay.proofs.replay.replay_plain.Goals as goal

pub returns-in_ok-rows_of-in-Some-clause-claims : goal.returns-in_ok-rows_of-in-Some-clause-claims
returns-in_ok-rows_of-in-Some-clause-claims c = λ some sound. keeps_claims c.args.topology.now (history c.args.steps.now) sound (search rules)
