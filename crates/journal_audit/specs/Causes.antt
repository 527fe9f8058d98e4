-- Why a line is bad, where each step is judged.
use Rattle.std.specs.Prelude.{if◌then◌else◌, Option, Some, None}
use Rattle.line_reading.specs.declared.fault.Fault.{Fault}
use Rattle.line_reading.specs.declared.fault.Fault.TheVariants as line
use Rattle.journal_reading.specs.declared.fault.JournalFault.{JournalFault}
use Rattle.journal_reading.specs.declared.fault.JournalFault.TheVariants as fault
use Rattle.journal_audit.specs.declared.verdict.BadCause.{BadCause}
use Rattle.journal_audit.specs.declared.verdict.BadCause.TheVariants.{Header, Word, Number, Bytes, End, Step}
use Rattle.reading_laws.specs.Text.{Causes}

abbrev pub cause_of : Fault → BadCause
cause_of line.Word = Word
cause_of line.Number = Number
cause_of line.Bytes = Bytes

-- a reading that judges each step: one that is not legal after the steps of the lines before is bad
abbrev pub judged : Causes BadCause
judged = record { header = Header; end = End; fault = cause_of; judge = λ legal. if legal then None else Some Step }

-- a fault of a line or of a text as a cause, but for want of memory
abbrev pub cause_seen : JournalFault → Option BadCause
cause_seen fault.Header = Some Header
cause_seen fault.Word = Some Word
cause_seen fault.Number = Some Number
cause_seen fault.Bytes = Some Bytes
cause_seen fault.End = Some End
cause_seen fault.OutOfMemory = None
