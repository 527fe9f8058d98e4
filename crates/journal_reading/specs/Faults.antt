-- The faults of a line and of a text, by the names of this crate.
use Rattle.std.specs.Prelude.{None}
use Rattle.line_reading.specs.declared.fault.Fault.{Fault}
use Rattle.line_reading.specs.declared.fault.Fault.TheVariants as line
use Rattle.journal_reading.specs.declared.fault.JournalFault.{JournalFault}
use Rattle.journal_reading.specs.declared.fault.JournalFault.TheVariants.{Header, Word, Number, Bytes, End}
use Rattle.reading_laws.specs.Text.{Causes}

abbrev pub fault_of : Fault → JournalFault
fault_of line.Word = Word
fault_of line.Number = Number
fault_of line.Bytes = Bytes

-- a reading that judges no step
abbrev pub unjudged : Causes JournalFault
unjudged = record { header = Header; end = End; fault = fault_of; judge = λ legal. None }
