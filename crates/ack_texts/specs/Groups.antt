-- The rows of a log by the places of their steps.
use Rattle.std.specs.Prelude.{◌≡◌, ◌≢◌, ℕ, ◌<◌, ◌≤◌, List, [], ◌∷◌, length}
use Rattle.pipe_laws.proofs.Lists.{Each}
use Rattle.pipe_journal.specs.declared.acked.AckRow.{AckRow}

-- all of steps in front of this place
abbrev pub Early : (place : ℕ) → List AckRow → Type 0
Early place rows = Each (λ row. row.at < place) rows

-- none of a step in front of this place
abbrev pub Late : (place : ℕ) → List AckRow → Type 0
Late place rows = Each (λ row. place ≤ row.at) rows

-- all of the step at this place
abbrev pub AreOf : (place : ℕ) → List AckRow → Type 0
AreOf place rows = Each (λ row. row.at ≡ place) rows

-- the places do not fall, and none is in front of this one
abbrev pub Rising : (place : ℕ) → List AckRow → Type 0
Rising place [] = Unit {0}
Rising place (row ∷ rows) = (place ≤ row.at) × Rising row.at rows

-- the first, if there is one, is of another step
abbrev pub BeginsOther : (place : ℕ) → List AckRow → Type 0
BeginsOther place [] = Unit {0}
BeginsOther place (row ∷ rows) = row.at ≢ place

-- some rows of one step, behind which stands none of the same
pub record IsGroup (group later : List AckRow) : Type 0 where
  pub place : ℕ
  pub some : 0 < length group
  pub same : AreOf place group
  pub apart : BeginsOther place later
