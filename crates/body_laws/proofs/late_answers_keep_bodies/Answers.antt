use Rattle.body_laws.proofs.Lating.{late_keeps}
use Rattle.body_laws.proofs.late_answers_keep_bodies.Goals as goal

pub returns : goal.returns
returns c = late_keeps
