-- A text that goes to a sink of bytes in pieces.
use Rattle.std.specs.Prelude.{◌≡◌, ◌≤◌, ℕ, Bool, true, false, IsTrue, List, ◌++◌, take}
use Rattle.pipe_types.specs.Counts.{Rose}

-- a sink, and the piece that is not written yet
pub record StreamSeen : Type 0 where
  pub told : Bool
  pub held : List ℕ
  pub faults : ℕ
  pub piece : List ℕ
  pub failed : Bool

-- some bytes were written, and the piece is what is left of the text
pub record Moved (old new : StreamSeen) (text : List ℕ) : Type 0 where
  pub written : List ℕ
  pub held : new.held ≡ old.held ++ written
  pub rest : written ++ new.piece ≡ old.piece ++ text

-- a front of the text was written
pub record Begun (held held' text : List ℕ) : Type 0 where
  pub count : ℕ
  pub is : held' ≡ held ++ take count text

-- what was done with the text: no byte of it is lost, but behind a fault
pub record Streams (old new : StreamSeen) (text : List ℕ) : Type 0 where
  pub same_telling : new.told ≡ old.told
  pub faults_stay : old.faults ≤ new.faults
  pub moved : new.failed ≡ false → (old.failed ≡ false) × (IsTrue old.told → Moved old new text)
  pub broke : old.failed ≡ false → new.failed ≡ true → Rose old.faults new.faults × (IsTrue old.told → Begun old.held new.held (old.piece ++ text))
  pub broken : old.failed ≡ true → (new.failed ≡ true) × (new.faults ≡ old.faults) × (IsTrue old.told → new.held ≡ old.held)

-- what a whole text came to, from an empty piece to an empty piece: all of it was written, or a front before a fault
pub record IsStreamed (old new : StreamSeen) (text : List ℕ) (whole : Bool) : Type 0 where
  pub told : new.told ≡ old.told
  pub stay : old.faults ≤ new.faults
  pub fault : whole ≡ false → Rose old.faults new.faults
  pub all : whole ≡ true → IsTrue old.told → new.held ≡ old.held ++ text
  pub begun : IsTrue old.told → Begun old.held new.held text
