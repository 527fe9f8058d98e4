use Rattle.journal_reading.specs.Reads.{jobs_of, parts_in}
use Rattle.journal_reading.proofs.Reading.{end_word, other_word}
use Rattle.journal_reading.proofs.step.read_step.Goals as goal

pub returns-then-is_same : goal.returns-then-is_same
returns-then-is_same c =
    end_word (jobs_of c.args.run) c.args.steps c.args.line.now c.words_of-words.result.first.now (parts_in c.words_of-words.result.behind) c.is_same.result c.read_end.result c.words_of-words.ensures c.is_same.ensures
    c.if-is_same.true c.read_end.ensures

pub returns-else-is_same : goal.returns-else-is_same
returns-else-is_same c =
    other_word (jobs_of c.args.run) c.args.steps c.args.line.now c.words_of-words.result.first.now (parts_in c.words_of-words.result.behind) c.is_same.result c.read_known.result c.words_of-words.ensures c.is_same.ensures
    c.if-is_same.false c.read_known.ensures
