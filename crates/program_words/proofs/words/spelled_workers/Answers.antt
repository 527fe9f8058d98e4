use Rattle.std.proofs.Common.{arith}
use Rattle.program_words.proofs.Spelled.{is_no_number, is_padded, is_spelled, is_too_great, unpadded}
use Rattle.program_words.proofs.words.spelled_workers.Goals as goal

pub returns-then-begins_with_plus_or_zero : goal.returns-then-begins_with_plus_or_zero
returns-then-begins_with_plus_or_zero c = is_padded c.args.text.now c.if-begins_with_plus_or_zero.ensures

pub returns-in-Ok : goal.returns-in-Ok
returns-in-Ok c =
    let first = unpadded _ c.if-begins_with_plus_or_zero.ensures in
    is_spelled c.args.text.now c.in-Ok.workers c.in-Ok.ensures.value.0 first.0 first.1 c.if-workers-le-MOST_WORKERS.true

pub returns-in_default : goal.returns-in_default
returns-in_default c =
    let first = unpadded _ c.if-begins_with_plus_or_zero.ensures in
    is_too_great c.args.text.now c.in-Ok.workers c.in-Ok.ensures.value.0 first.0 first.1 (omega arith) c.if-workers-le-MOST_WORKERS.false

pub returns-in_default-2 : goal.returns-in_default-2
returns-in_default-2 c = is_no_number c.args.text.now c.in_default.ensures.value.0
