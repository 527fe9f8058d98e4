-- What an audit writes, and its status where the journal is not found legal.
use Rattle.std.specs.Prelude.{ℕ, List, [], ◌++◌, codes, decimal, if◌then◌else◌}
use Rattle.program_words.specs.Refusals.{lf}
use Rattle.journal_texts.specs.Report.{count_line}
use Rattle.journal_audit.specs.declared.verdict.BadCause.{BadCause}
use Rattle.journal_audit.specs.declared.verdict.BadCause.TheVariants.{Header, Word, Number, Bytes, End, Step}
use Rattle.journal_audit.specs.declared.verdict.Summary.{Summary}
use Rattle.run_verdicts.specs.declared.audits.AuditFault.{AuditFault}
use Rattle.run_verdicts.specs.declared.audits.AuditFault.TheVariants.{Line, Large, Wait, Source}

abbrev pub cause_word : BadCause → List ℕ
cause_word Header = codes "header"
cause_word Word = codes "word"
cause_word Number = codes "number"
cause_word Bytes = codes "bytes"
cause_word End = codes "end"
cause_word Step = codes "step"

-- audit line N WORD
abbrev pub line_text : (line : ℕ) → (word : List ℕ) → List ℕ
line_text line word = codes "audit line " ++ (decimal line ++ (codes " " ++ (word ++ lf)))

-- a journal that is bad, too large or not there yet; of a read that failed nothing is written
abbrev pub fault_line : AuditFault → List ℕ
fault_line (Line line cause) = line_text line (cause_word cause)
fault_line Large = codes "audit large" ++ lf
fault_line Wait = codes "audit wait" ++ lf
fault_line Source = []

abbrev pub fault_status : AuditFault → ℕ
fault_status (Line line cause) = 11
fault_status Large = 11
fault_status Wait = 11
fault_status Source = 4

-- the first of these that holds
abbrev pub end_word : Summary → List ℕ
end_word summary = if summary.drained then codes "drained" else (if summary.halted then codes "halted" else codes "open")

-- legal N WORD
abbrev pub legal_line : (steps : ℕ) → (word : List ℕ) → List ℕ
legal_line steps word = codes "legal " ++ decimal steps ++ codes " " ++ word ++ lf

-- the counts of messages, one a line
abbrev pub count_lines : Summary → List ℕ
count_lines summary =
    count_line (codes "accepted") summary.accepted
    ++ count_line (codes "successful") summary.successful
    ++ count_line (codes "failed") summary.failed
    ++ count_line (codes "lost") summary.lost

abbrev pub counts_text : (word : List ℕ) → Summary → List ℕ
counts_text word summary = legal_line summary.steps word ++ count_lines summary

abbrev pub legal_text : Summary → List ℕ
legal_text summary = counts_text (end_word summary) summary
