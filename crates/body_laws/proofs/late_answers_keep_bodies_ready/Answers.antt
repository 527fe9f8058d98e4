use Rattle.body_laws.proofs.Lating.{late_ready}
use Rattle.body_laws.proofs.late_answers_keep_bodies_ready.Goals as goal

pub returns : goal.returns
returns c = late_ready
