use Rattle.body_laws.proofs.Restarting.{restart_ready}
use Rattle.body_laws.proofs.restarts_keep_bodies_ready.Goals as goal

pub returns : goal.returns
returns c = restart_ready
