use Rattle.std.proofs.Common.{rules, ap, ◌∙◌, arith}
use Rattle.std.proofs.lemmas.List.{take_all}
use Rattle.pipe_model.specs.History.{history}
use Rattle.plain_counts.specs.Fetches.{last_fetch}
use Rattle.plain_counts.proofs.Fetches.{bound_where_out}
use Rattle.plain_counts.proofs.sources.fetch_out.Goals as goal

pub returns-then-is_out : goal.returns-then-is_out
returns-then-is_out c =
    let steps = c.args.steps.now in
    bound_where_out (history steps) c.args.stage c.loop-step.last
    (c.loop-step.invariant ∙ ap (λ xs. last_fetch (history xs) c.args.stage) (take_all c.loop-step.step-index steps (omega arith)))
    (search rules)
