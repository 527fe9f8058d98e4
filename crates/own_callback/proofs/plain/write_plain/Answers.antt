use Rattle.std.proofs.Common.{sym, ◌∙◌}
use Rattle.own_callback.proofs.PlainText.{all_plain}
use Rattle.own_callback.proofs.plain.write_plain.Goals as goal

pub returns-then-are_plain-clause-plain : goal.returns-then-are_plain-clause-plain
returns-then-are_plain-clause-plain c =
    all_plain c.judge_batch.result c.args.messages.now (sym c.are_plain.ensures ∙ c.if-are_plain.true) c.judge_batch.ensures.answer
