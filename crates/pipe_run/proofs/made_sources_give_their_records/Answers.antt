use Rattle.pipe_run.proofs.Records.{reads_records}
use Rattle.pipe_run.proofs.made_sources_give_their_records.Goals as goal

pub returns : goal.returns
returns c = λ whole rate before p records source each made plain. reads_records whole rate before p records source each made plain
