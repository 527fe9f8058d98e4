use Rattle.run_verdicts.proofs.Fronts.{nothing}
use Rattle.run_verdicts.proofs.verdict.put_acks.Goals as goal

pub returns-in-None-clause-begun : goal.returns-in-None-clause-begun
returns-in-None-clause-begun g c told = nothing _ _

pub returns-in-Some-clause-begun : goal.returns-in-Some-clause-begun
returns-in-Some-clause-begun g c told = let b = c.write_acks.ensures.begun told in rw c.in-Some.is (record { count = b.count; is = b.is })
