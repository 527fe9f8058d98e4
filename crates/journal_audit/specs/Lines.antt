-- What the audit of one line leads to.
use Rattle.std.specs.Prelude.{◌≡◌, ℕ, suc, true, false, List, ◌∷◌, length, Ok}
use Rattle.pipe_types.specs.declared.step.Step.{Step as StepOf}
use Rattle.pipe_types.specs.declared.topology.Topology.{Topology}
use Rattle.pipe_model.specs.History.{History}
use Rattle.pipe_model.specs.Legal.{allows}
use Rattle.reading_laws.specs.Text.{line_after, bad_line, lines_in}
use Rattle.journal_audit.specs.declared.verdict.BadCause.TheVariants.{Step}
use Rattle.journal_audit.specs.declared.lines.LineFound.{LineFound}
use Rattle.journal_audit.specs.declared.lines.LineFound.TheVariants.{Good, Last, Bad}
use Rattle.journal_audit.specs.Causes.{judged}

-- one more legal step, from which the lines behind are read on
pub record GoesOn (topology : Topology) (before after : History) (line : List ℕ) : Type 0 where
  pub same : (lines : List (List ℕ)) → lines_in judged topology before (line ∷ lines) ≡ lines_in judged topology after lines
  pub more : length after ≡ suc (length before)

abbrev pub Finds : Topology → (before after : History) → (line : List ℕ) → LineFound → Type 0
Finds topology before after line Good = GoesOn topology before after line
Finds topology before after line Last = (after ≡ before) × ((lines : List (List ℕ)) → lines_in judged topology before (line ∷ lines) ≡ Ok before)
Finds topology before after line (Bad cause) = (after ≡ before) × ((lines : List (List ℕ)) → lines_in judged topology before (line ∷ lines) ≡ bad_line (line_after before) cause)

-- the step was legal and stands now before the others, or it was not
abbrev pub Judges : Topology → (before after : History) → StepOf → LineFound → Type 0
Judges topology before after step Good = (allows topology before step ≡ true) × (after ≡ step ∷ before)
Judges topology before after step Last = ⊥
Judges topology before after step (Bad cause) = (allows topology before step ≡ false) × (cause ≡ Step) × (after ≡ before)
