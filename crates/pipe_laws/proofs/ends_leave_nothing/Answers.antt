use Rattle.pipe_laws.proofs.Ends.{leaves_nothing}
use Rattle.pipe_laws.proofs.ends_leave_nothing.Goals as goal

pub returns : goal.returns
returns c = leaves_nothing
