-- What an audit says of a text that comes in pieces.
use Rattle.std.specs.Prelude.{◌≡◌, ◌≤◌, ◌+◌, ℕ, suc, List, [], ◌∷◌, ◌++◌, length, bytes_eq, if◌then◌else◌}
use Rattle.pipe_types.specs.declared.topology.Topology.{Topology}
use Rattle.pipe_model.specs.History.{History}
use Rattle.reading_laws.specs.Text.{header, lines_in, lines_of}
use Rattle.journal_audit.specs.declared.pieces.Progress.{Progress}
use Rattle.journal_audit.specs.declared.pieces.Progress.TheVariants.{Header, Steps, Found}
use Rattle.journal_audit.specs.declared.verdict.BadCause.TheVariants as cause
use Rattle.journal_audit.specs.declared.verdict.Verdict.{Verdict}
use Rattle.journal_audit.specs.declared.verdict.Verdict.TheVariants.{Bad}
use Rattle.journal_audit.specs.Causes.{judged}
use Rattle.journal_audit.specs.Verdicts.{verdict_by, verdict_in}
use Rattle.journal_audit.specs.AuditSeen.{AuditSeen}

-- how far it is behind this first line
abbrev pub header_leads : (line : List ℕ) → Progress
header_leads line = if bytes_eq line header then Steps else Found (Bad 1 cause.Header)

-- the verdict where the first line and those behind it are to come
abbrev pub verdict_first : Topology → History → (lines : List (List ℕ)) → Verdict
verdict_first topology before [] = Bad 1 cause.Header
verdict_first topology before (line ∷ lines) = if bytes_eq line header then verdict_by topology (lines_in judged topology before lines) else Bad 1 cause.Header

-- the verdict where these lines are to come
abbrev pub verdict_on : Topology → History → Progress → (lines : List (List ℕ)) → Verdict
verdict_on topology before Header lines = verdict_first topology before lines
verdict_on topology before Steps lines = verdict_by topology (lines_in judged topology before lines)
verdict_on topology before (Found verdict) lines = verdict

-- the verdict where this text is to come
abbrev pub verdict_from : AuditSeen → (rest : List ℕ) → Verdict
verdict_from a rest = verdict_on a.topology a.steps a.progress (lines_of (a.begun ++ rest))

-- this text has come: whatever is to come, the verdict is that on both
abbrev pub Audits : Topology → (text : List ℕ) → AuditSeen → Type 0
Audits topology text a = (rest : List ℕ) → verdict_from a rest ≡ verdict_in topology (text ++ rest)

-- the line was read, and the lines behind it make the same verdict
pub record Leads (topology : Topology) (before after : History) (progress : Progress) (line : List ℕ) (next : Progress) : Type 0 where
  pub same : (lines : List (List ℕ)) → verdict_on topology before progress (line ∷ lines) ≡ verdict_on topology after next lines
  pub few : length after ≤ suc (length before)

-- the piece was taken behind what was begun, and the text behind it makes the same verdict
pub record Takes (topology : Topology) (before after : History) (progress : Progress) (begun begun' piece : List ℕ) (next : Progress) : Type 0 where
  pub same : (rest : List ℕ) → verdict_on topology after next (lines_of (begun' ++ rest)) ≡ verdict_on topology before progress (lines_of (begun ++ (piece ++ rest)))
  pub unended : lines_of begun' ≡ []
  pub few : length after ≤ length before + length piece
