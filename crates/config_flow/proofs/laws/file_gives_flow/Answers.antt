use Rattle.config_flow.proofs.Values.{flow_of_file}
use Rattle.config_flow.proofs.laws.file_gives_flow.Goals as goal

pub returns : goal.returns
returns c = flow_of_file c.args.source.now c.args.prefix.now c.requires.given c.requires.short c.requires.named
