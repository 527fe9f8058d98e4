use Rattle.pipe_types.proofs.Reasons.{reason_test}
use Rattle.line_reading.proofs.items.reason_of.Goals as goal

pub returns : goal.returns
returns c = reason_test c.new.result c.args.text.now c.new.ensures.accepted c.new.ensures.text
