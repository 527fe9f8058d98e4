use Rattle.body_laws.proofs.Restarting.{restart_keeps}
use Rattle.body_laws.proofs.restarts_keep_bodies.Goals as goal

pub returns : goal.returns
returns c = restart_keeps
