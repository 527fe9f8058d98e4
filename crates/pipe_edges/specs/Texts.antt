-- Lines as bytes.
use Rattle.std.specs.Prelude.{◌≢◌, ◌<◌, ◌≤◌, ◌+◌, ◌⊎◌, ℕ, List, [], ◌∷◌, ◌++◌, length, take, All}
use Rattle.pipe_types.specs.Lines.{max_bytes}

-- no LF stands in the bytes
abbrev pub HasNoLf : List ℕ → Type 0
HasNoLf bytes = All (λ b. b ≢ 10) bytes

-- at most the longest line, with no LF in it
pub record IsLine (bytes : List ℕ) : Type 0 where
  pub short : length bytes ≤ max_bytes
  pub unbroken : HasNoLf bytes

-- there are more bytes than a line may have before a first LF
pub record BeginsTooLong (bytes : List ℕ) : Type 0 where
  pub long : max_bytes < length bytes
  pub unbroken : HasNoLf (take (max_bytes + 1) bytes)

-- no whole line stands in front
abbrev pub HasNoWholeLine : List ℕ → Type 0
HasNoWholeLine bytes = IsLine bytes ⊎ BeginsTooLong bytes

-- each line followed by an LF
abbrev pub ended : List (List ℕ) → List ℕ
ended [] = []
ended (line ∷ lines) = line ++ 10 ∷ ended lines

-- the lines with nothing between them
abbrev pub joined : List (List ℕ) → List ℕ
joined [] = []
joined (line ∷ lines) = line ++ joined lines
