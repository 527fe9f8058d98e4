use Rattle.pipe_journal.proofs.Extending.{first_of_two, second_of_two}
use Rattle.pipe_journal.proofs.Extending.{twice}
use Rattle.pipe_journal.proofs.kept.add_pair.Goals as goal

pub returns-clause-first : goal.returns-clause-first
returns-clause-first c = first_of_two c.in_ok-at.at _ c.args.first.now c.args.second.now _ _ c.in_ok-at.ensures.added c.in_ok-push.ensures.added

pub returns-clause-second : goal.returns-clause-second
returns-clause-second c = second_of_two c.in_ok-at.at _ c.args.first.now c.args.second.now _ _ c.in_ok-at.ensures.added c.in_ok-push.ensures.added

pub returns-clause-extends : goal.returns-clause-extends
returns-clause-extends c = twice _ c.add_word.new.words _ c.add_word.ensures.extends c.push.ensures.extends
