use Rattle.plain_run.proofs.Placing.{places_stand}
use Rattle.plain_run.proofs.standing.places.Goals as goal

pub returns-clause-all : goal.returns-clause-all
returns-clause-all c = places_stand c.args.core.now c.requires.holds

pub returns-clause-len : goal.returns-clause-len
returns-clause-len c = c.requires.holds.fields.sized.places
