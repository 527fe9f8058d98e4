use Rattle.config_flow.proofs.Values.{sound_flow}
use Rattle.config_flow.proofs.laws.flow_is_sound.Goals as goal

pub returns : goal.returns
returns c = sound_flow c.args.source.now c.args.prefix.now
