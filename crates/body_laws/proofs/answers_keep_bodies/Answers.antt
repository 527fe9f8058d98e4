use Rattle.body_laws.proofs.Laws.{answer_keeps}
use Rattle.body_laws.proofs.answers_keep_bodies.Goals as goal

pub returns : goal.returns
returns c = answer_keeps
