use Rattle.std.proofs.Common.{◌+◌, ◌++◌, drop, ap, sym, ◌∙◌, append_assoc, arith}
use Rattle.pipe_types.specs.Handlers.{is_successful, lines_where}
use Rattle.own_handler.specs.Judged.{line_where}
use Rattle.pipe_types.proofs.Lines.{lines_next}
use Rattle.own_handler.proofs.judge.lines_of.Goals as goal

pub loop-i-preserved : goal.loop-i-preserved
loop-i-preserved c =
    let ms = c.args.messages.now in
    let os = c.args.outcomes.now in
    let i = c.loop-i.i in
    let m = c.index-messages-i.result in
    let o = c.index-outcomes-i.result in
    ap (λ t. t ++ lines_where is_successful (drop (i + 1) ms) (drop (i + 1) os)) c.in_ok-text.ensures
    ∙ append_assoc c.loop-i.text.items (line_where is_successful m o) (lines_where is_successful (drop (i + 1) ms) (drop (i + 1) os))
    ∙ ap (λ t. c.loop-i.text.items ++ t) (sym (lines_next is_successful ms os i m o (omega arith) c.index-messages-i.is (omega arith) c.index-outcomes-i.is))
    ∙ c.loop-i.invariant
