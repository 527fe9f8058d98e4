use Rattle.pipe_types.proofs.Reasons.{reason_test}
use Rattle.config_settings.proofs.read.reason_of.Goals as goal

pub returns : goal.returns
returns c = rw (← c.as_bytes.ensures.value) (reason_test c.new.result c.as_bytes.result.now c.new.ensures.accepted c.new.ensures.text)
