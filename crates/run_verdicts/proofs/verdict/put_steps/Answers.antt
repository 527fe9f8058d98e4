use Rattle.run_verdicts.proofs.Fronts.{nothing}
use Rattle.run_verdicts.proofs.verdict.put_steps.Goals as goal

pub returns-then-is_shown-clause-begun : goal.returns-then-is_shown-clause-begun
returns-then-is_shown-clause-begun g c told =
    let b = c.write_journal.ensures.begun told in
    rw c.if-is_shown.true (record { count = b.count; is = b.is })

pub returns-else-is_shown-clause-begun : goal.returns-else-is_shown-clause-begun
returns-else-is_shown-clause-begun g c told = nothing _ _
