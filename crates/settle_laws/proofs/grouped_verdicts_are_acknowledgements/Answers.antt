use Rattle.settle_laws.proofs.Grouped.{grouped}
use Rattle.settle_laws.proofs.grouped_verdicts_are_acknowledgements.Goals as goal

pub returns : goal.returns
returns c = λ topology before step acks sound legal are. grouped topology before step acks sound legal are
