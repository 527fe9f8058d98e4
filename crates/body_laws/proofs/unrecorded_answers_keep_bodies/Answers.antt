use Rattle.body_laws.proofs.Laws.{unrecorded_keeps}
use Rattle.body_laws.proofs.unrecorded_answers_keep_bodies.Goals as goal

pub returns : goal.returns
returns c = unrecorded_keeps
