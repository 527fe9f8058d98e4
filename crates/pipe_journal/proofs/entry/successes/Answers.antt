use Rattle.std.proofs.Common.{◌∙◌, sym, length}
use Rattle.pipe_journal.proofs.Keeps.{all_same, counted}
use Rattle.pipe_journal.proofs.entry.successes.Goals as goal

pub returns-then-are_successes : goal.returns-then-are_successes
returns-then-are_successes c =
    counted _ _ c.args.outcomes.now c.half.ensures (all_same c.args.outcomes.now (sym c.are_successes.ensures ∙ c.if-are_successes.true))
