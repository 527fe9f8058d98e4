-- Which rows are the log of what a journal acknowledges.
use Rattle.std.specs.Prelude.{◌≡◌, ℕ, false, not, ◌&&◌, List, [], ◌∷◌, ◌++◌, length, map, All, Some}
use Rattle.pipe_types.specs.declared.topology.Topology.{Topology}
use Rattle.pipe_types.specs.declared.step.Step.{Step}
use Rattle.pipe_model.specs.History.{History}
use Rattle.pipe_model.specs.Content.{producer_of}
use Rattle.pipe_model.specs.Flow.{place, among}
use Rattle.pipe_model.specs.Acknowledgements.{is_acked, is_acked_successful}
use Rattle.pipe_journal.specs.declared.acked.AckRow.{AckRow}

abbrev pub numbers_of : List AckRow → List ℕ
numbers_of rows = map (λ row. row.no.0) rows

-- none of the numbers stands twice
abbrev pub AreOnce : List ℕ → Type 0
AreOnce [] = Unit {0}
AreOnce (n ∷ numbers) = (among numbers n ≡ false) × AreOnce numbers

-- the row has the producer of its message, whether it succeeded, and the place of the step
pub record IsAckRow (topology : Topology) (before : History) (step : Step) (row : AckRow) : Type 0 where
  pub producer : producer_of (step ∷ before) row.no.0 ≡ Some row.producer
  pub ended : is_acked_successful (place topology (step ∷ before) row.no.0) ≡ row.successful
  pub at : row.at ≡ length before

-- the rows are those of the messages that the step acknowledges, each once
pub record AreAcked (topology : Topology) (before : History) (step : Step) (rows : List AckRow) : Type 0 where
  pub members : (n : ℕ) → among (numbers_of rows) n ≡ (not (is_acked (place topology before n)) && is_acked (place topology (step ∷ before) n))
  pub once : AreOnce (numbers_of rows)
  pub each : All (IsAckRow topology before step) rows

-- the rows are those of the messages that the journal's steps acknowledge, step by step
abbrev pub IsLog : Topology → History → List AckRow → Type 0
IsLog topology [] rows = rows ≡ []
IsLog topology (step ∷ before) rows =
    (older : List AckRow) × (last : List AckRow) × (rows ≡ older ++ last) × IsLog topology before older × AreAcked topology before step last
