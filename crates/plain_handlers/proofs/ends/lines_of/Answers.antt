use Rattle.std.proofs.Common.{◌+◌, ◌++◌, drop, ap, sym, ◌∙◌, append_assoc, arith}
use Rattle.pipe_types.specs.Handlers.{lines_where}
use Rattle.plain_handlers.specs.Tests.{outcome_test, line_where}
use Rattle.pipe_types.proofs.Lines.{lines_next}
use Rattle.plain_handlers.proofs.Batches.{lines_end}
use Rattle.plain_handlers.proofs.ends.lines_of.Goals as goal

pub returns-then-outcomes-i : goal.returns-then-outcomes-i
returns-then-outcomes-i c =
    lines_end (outcome_test c.args.by_sink) c.args.messages.now c.args.outcomes.now c.loop-i.i c.loop-i.text.items c.if-outcomes-i.true ∙ c.loop-i.invariant.1

pub loop-i-preserved : goal.loop-i-preserved
loop-i-preserved c =
    let test = outcome_test c.args.by_sink in
    let ms = c.args.messages.now in
    let os = c.args.outcomes.now in
    let i = c.loop-i.i in
    let m = c.index-messages-i.result in
    let o = c.index-outcomes-i.result in (
      omega arith,
      ap (λ t. t ++ lines_where test (drop (i + 1) ms) (drop (i + 1) os)) c.in_ok-text.ensures
          ∙ append_assoc c.loop-i.text.items (line_where test m o) (lines_where test (drop (i + 1) ms) (drop (i + 1) os))
          ∙ ap (λ t. c.loop-i.text.items ++ t) (sym (lines_next test ms os i m o (omega arith) c.index-messages-i.is (omega arith) c.index-outcomes-i.is))
          ∙ c.loop-i.invariant.1,
    )
