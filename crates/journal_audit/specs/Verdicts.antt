-- What an audit says of a text.
use Rattle.std.specs.Prelude.{◌≡◌, ℕ, List, length, count_by, Result, Ok, Err}
use Rattle.pipe_types.specs.declared.topology.Topology.{Topology}
use Rattle.pipe_model.specs.History.{History, accepted}
use Rattle.pipe_model.specs.Legal.{happened, is_halt}
use Rattle.pipe_model.specs.Moves.{is_drained}
use Rattle.pipe_laws.specs.KeptClaims.{KeepsClaims}
use Rattle.journal_texts.specs.Report.{places, is_successful, is_failed, is_lost}
use Rattle.reading_laws.specs.Text.{Bad as BadAt, text_in, IsTextOf}
use Rattle.journal_audit.specs.declared.verdict.BadCause.{BadCause}
use Rattle.journal_audit.specs.declared.verdict.Summary.{Summary}
use Rattle.journal_audit.specs.declared.verdict.Verdict.{Verdict}
use Rattle.journal_audit.specs.declared.verdict.Verdict.TheVariants.{Legal, Bad}
use Rattle.journal_audit.specs.Causes.{judged}

-- how many steps there are, where the accepted messages stand, and whether the journal is drained or halted
abbrev pub summary_of : Topology → History → Summary
summary_of topology before = record {
  steps = length before;
  accepted = accepted before;
  successful = count_by is_successful (places topology before);
  failed = count_by is_failed (places topology before);
  lost = count_by is_lost (places topology before);
  drained = is_drained topology before;
  halted = happened is_halt before;
}

abbrev pub verdict_by : Topology → Result History (BadAt BadCause) → Verdict
verdict_by topology (Ok journal) = Legal (summary_of topology journal)
verdict_by topology (Err bad) = Bad bad.0 bad.1

-- the steps that the text spells, judged one by one, or the first bad line with its cause; what stands behind the end line is
-- not read
abbrev pub verdict_in : Topology → (text : List ℕ) → Verdict
verdict_in topology text = verdict_by topology (text_in judged topology text)

-- the text is that of this legal journal, which keeps every claim, with nothing or anything behind its end line
pub record IsLegalText (topology : Topology) (text : List ℕ) (summary : Summary) : Type 0 where
  pub journal : History
  pub text_of : IsTextOf journal text
  pub claims : KeepsClaims topology journal
  pub counts : summary ≡ summary_of topology journal

-- what a verdict says of the text
abbrev pub IsSaid : Topology → (text : List ℕ) → Verdict → Type 0
IsSaid topology text (Legal summary) = IsLegalText topology text summary
IsSaid topology text (Bad line cause) = text_in judged topology text ≡ Err (line, cause)
