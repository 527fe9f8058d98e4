use Rattle.pipe_model.specs.Acknowledgements.{is_acked_successful, is_acked_failed}
use Rattle.settle_laws.proofs.Entries.{entry_numbers, successful_side, failed_side}
use Rattle.settle_laws.proofs.entries_are_of_the_last_step.Goals as goal

pub returns-clause-successful : goal.returns-clause-successful
returns-clause-successful c = λ topology before step p. entry_numbers topology before step p is_acked_successful successful_side

pub returns-clause-failed : goal.returns-clause-failed
returns-clause-failed c = λ topology before step p. entry_numbers topology before step p is_acked_failed failed_side
