use Rattle.count_laws.proofs.Laws.{child_starts_law, child_starts_most}
use Rattle.count_laws.proofs.child_starts_are_few.Goals as goal

pub returns-clause-within : goal.returns-clause-within
returns-clause-within c = child_starts_law

pub returns-clause-few : goal.returns-clause-few
returns-clause-few c = child_starts_most
