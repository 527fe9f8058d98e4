-- What the reading of one line leads to.
use Rattle.std.specs.Prelude.{◌≡◌, ◌≢◌, ℕ, suc, List, ◌∷◌, length, Result, Ok, Err}
use Rattle.pipe_types.specs.declared.topology.Topology.{Topology}
use Rattle.pipe_model.specs.History.{History}
use Rattle.reading_laws.specs.Text.{line_after, bad_line, lines_in}
use Rattle.journal_reading.specs.declared.fault.JournalFault.{JournalFault}
use Rattle.journal_reading.specs.declared.fault.JournalFault.TheVariants.{OutOfMemory}
use Rattle.journal_reading.specs.declared.progress.Progress.{Progress}
use Rattle.journal_reading.specs.declared.steps.Next.{Next}
use Rattle.journal_reading.specs.declared.steps.Next.TheVariants.{More, Done}
use Rattle.journal_reading.specs.Faults.{unjudged}
use Rattle.journal_reading.specs.Reads.{steps_in, IsOf}

-- one more step, from which the lines behind are read on
pub record GoesOn (topology : Topology) (before : History) (line : List ℕ) (next : Progress) : Type 0 where
  pub same : (lines : List (List ℕ)) → lines_in unjudged topology before (line ∷ lines) ≡ lines_in unjudged topology (steps_in next) lines
  pub more : length (steps_in next) ≡ suc (length before)
  pub of : IsOf topology next

abbrev pub ReadsOne : Topology → History → List ℕ → Result Next JournalFault → Type 0
ReadsOne topology before line (Ok (More next)) = GoesOn topology before line next
ReadsOne topology before line (Ok (Done journal)) = (lines : List (List ℕ)) → lines_in unjudged topology before (line ∷ lines) ≡ Ok journal.steps
ReadsOne topology before line (Err fault) = fault ≢ OutOfMemory → (lines : List (List ℕ)) → lines_in unjudged topology before (line ∷ lines) ≡ bad_line (line_after before) fault
