use Rattle.pipe_laws.proofs.Acknowledged.{acknowledged_once}
use Rattle.pipe_laws.proofs.each_message_is_acknowledged_once.Goals as goal

pub returns : goal.returns
returns c = acknowledged_once
