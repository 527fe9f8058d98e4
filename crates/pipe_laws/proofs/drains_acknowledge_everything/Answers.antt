use Rattle.pipe_laws.proofs.Lossless.{acknowledges_everything}
use Rattle.pipe_laws.proofs.drains_acknowledge_everything.Goals as goal

pub returns : goal.returns
returns c = acknowledges_everything
