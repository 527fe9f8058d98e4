use Rattle.pipe_laws.proofs.Progress.{one_place_each}
use Rattle.pipe_laws.proofs.each_message_has_one_place.Goals as goal

pub returns : goal.returns
returns c = one_place_each
