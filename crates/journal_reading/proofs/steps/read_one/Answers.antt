use Rattle.std.proofs.Common.{length}
use Rattle.reading_laws.specs.Text.{line_in, jobs_after}
use Rattle.journal_reading.specs.declared.step.LineRead.TheVariants as read
use Rattle.journal_reading.specs.Reads.{read_as, steps_in}
use Rattle.journal_reading.proofs.Reading.{read_from, more_line, last_line, worst_line}
use Rattle.journal_reading.proofs.steps.read_one.Goals as goal

pub returns-in-Ok : goal.returns-in-Ok
returns-in-Ok c topology of =
    more_line topology c.args.progress c.in-Ok.next c.args.line.now c.in-Ok-Step.step
    (λ t o. read_from c.read_next.result c.in-Ok-Step.field-0 (read.Step c.in-Ok-Step.step) (read_as (line_in (jobs_after t (steps_in c.args.progress)) (length (steps_in c.args.progress)) c.args.line.now)) c.in-Ok-Step.is c.in-Ok-Step.field-0-is (c.read_next.ensures t o))
    c.in-Ok.ensures of

pub returns-in-Ok-End : goal.returns-in-Ok-End
returns-in-Ok-End c topology of lines =
    last_line topology c.args.progress c.journal_of.result c.args.line.now
    (λ t o. read_from c.read_next.result c.in-Ok-End.field-0 read.End (read_as (line_in (jobs_after t (steps_in c.args.progress)) (length (steps_in c.args.progress)) c.args.line.now)) c.in-Ok-End.is c.in-Ok-End.field-0-is (c.read_next.ensures t o))
    c.journal_of.ensures of lines

pub returns-in-Ok-Bad : goal.returns-in-Ok-Bad
returns-in-Ok-Bad c topology of other lines =
    worst_line topology c.args.progress c.args.line.now c.in-Ok-Bad.fault
    (λ t o. read_from c.read_next.result c.in-Ok-Bad.field-0 (read.Bad c.in-Ok-Bad.fault) (read_as (line_in (jobs_after t (steps_in c.args.progress)) (length (steps_in c.args.progress)) c.args.line.now)) c.in-Ok-Bad.is c.in-Ok-Bad.field-0-is (c.read_next.ensures t o))
    of lines
