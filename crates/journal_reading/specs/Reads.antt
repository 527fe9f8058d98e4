-- What the readers answer.
use Rattle.std.specs.Prelude.{◌≡◌, ◌≢◌, ℕ, false, List, [], Option, Some, None, Result, Ok, Err}
use Rattle.std.specs.List.{slice_split}
use denote.Ref.{Bor}
use Rattle.pipe_types.specs.declared.topology.Topology.{Topology}
use Rattle.pipe_model.specs.History.{History}
use Rattle.pipe_journal.specs.Recorded.{Recorded}
use Rattle.pipe_model.specs.Legal.{is_legal}
use Rattle.line_reading.specs.Lines.{Jobs}
use Rattle.line_reading.specs.Reading.{is_at}
use Rattle.reading_laws.specs.Named.{named_at}
use Rattle.reading_laws.specs.Text.{LineSpelt, StepLine, EndLine, BadEnd, BadStep, Bad, no_jobs}
use Rattle.plain_run.specs.Seen.{RunSeen}
use Rattle.journal_reading.specs.declared.fault.JournalFault.{JournalFault}
use Rattle.journal_reading.specs.declared.fault.JournalFault.TheVariants.{OutOfMemory}
use Rattle.journal_reading.specs.declared.fault.JournalFault.TheVariants as fault
use Rattle.journal_reading.specs.declared.fault.JournalRefusal.{JournalRefusal}
use Rattle.journal_reading.specs.declared.progress.Progress.{Progress}
use Rattle.journal_reading.specs.declared.progress.Progress.TheVariants.{Legal, Illegal}
use Rattle.journal_reading.specs.declared.step.LineRead.{LineRead}
use Rattle.journal_reading.specs.declared.step.LineRead.TheVariants as read
use Rattle.journal_reading.specs.Faults.{fault_of}

-- the messages that a run knows, and none where there is no run
abbrev pub jobs_of : Option (Bor RunSeen) → Jobs
jobs_of None = no_jobs
jobs_of (Some run) = named_at run.now.topology run.now.steps

-- what was read of a line that spells this
abbrev pub read_as : LineSpelt → LineRead
read_as (StepLine step) = read.Step step
read_as EndLine = read.End
read_as BadEnd = read.Bad fault.End
read_as (BadStep f) = read.Bad (fault_of f)

-- what was answered is what the text spells, unless memory ran out
abbrev pub Refuses : JournalRefusal → Result History (Bad JournalFault) → Type 0
Refuses refusal spelt = refusal.fault ≢ OutOfMemory → spelt ≡ Err (refusal.line, refusal.fault)

abbrev pub Answers : Result Recorded JournalRefusal → Result History (Bad JournalFault) → Type 0
Answers (Ok journal) spelt = spelt ≡ Ok journal.steps
Answers (Err refusal) spelt = Refuses refusal spelt

-- the parts of a text at its spaces, where there is a text
abbrev pub parts_in : Option (Bor (List ℕ)) → List (List ℕ)
parts_in None = []
parts_in (Some text) = slice_split (is_at 32) text.now

-- the steps that were read
abbrev pub steps_in : Progress → History
steps_in (Legal run) = run.steps
steps_in (Illegal journal) = journal.steps

-- they were read with this topology: a run of it has them, or they are not legal for it
abbrev pub IsOf : Topology → Progress → Type 0
IsOf topology (Legal run) = run.topology ≡ topology
IsOf topology (Illegal journal) = is_legal topology journal.steps ≡ false
