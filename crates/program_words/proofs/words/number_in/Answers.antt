use Rattle.std.proofs.Common.{arith}
use Rattle.program_words.proofs.Numbers.{is_number, is_other, is_unread}
use Rattle.program_words.proofs.words.number_in.Goals as goal

pub returns-in-Ok : goal.returns-in-Ok
returns-in-Ok c = is_number c.args.low c.args.high c.in-Ok.number c.args.text.now (omega arith) c.if-is_spelled.ensures

pub returns-in_default : goal.returns-in_default
returns-in_default c = is_other c.args.low c.args.high c.in-Ok.number c.args.text.now (omega arith) c.in-Ok.ensures.value.0 c.if-is_spelled.ensures

pub returns-in_default-2 : goal.returns-in_default-2
returns-in_default-2 c = is_unread c.args.low c.args.high c.args.text.now (omega arith) c.in_default.ensures.value.0
