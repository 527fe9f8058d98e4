use Rattle.body_laws.proofs.Laws.{answer_ready}
use Rattle.body_laws.proofs.answers_keep_bodies_ready.Goals as goal

pub returns : goal.returns
returns c = answer_ready
