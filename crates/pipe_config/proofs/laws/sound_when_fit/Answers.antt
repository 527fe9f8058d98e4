use Rattle.pipe_config.proofs.Built.{built_is_sound}
use Rattle.pipe_config.proofs.laws.sound_when_fit.Goals as goal

pub returns : goal.returns
returns c = built_is_sound c.args.settings.now c.requires.fit c.requires.no_fault
