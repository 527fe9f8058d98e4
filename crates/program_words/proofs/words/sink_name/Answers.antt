use Rattle.program_words.proofs.Taken.{named_sink, empty_sink}
use Rattle.program_words.proofs.words.sink_name.Goals as goal

pub returns-then-is_empty : goal.returns-then-is_empty
returns-then-is_empty c = empty_sink c.args.text.now c.if-is_empty.ensures

pub returns-else-is_empty : goal.returns-else-is_empty
returns-else-is_empty c = named_sink c.args.text.now c.if-is_empty.ensures
