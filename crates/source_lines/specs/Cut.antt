-- Records as lines of bytes.
use Rattle.std.specs.Prelude.{◌≡◌, ◌≤◌, ℕ, List, ◌++◌, length, All}
use Rattle.pipe_types.specs.Lines.{max_bytes, pieces, lines}
use Rattle.pipe_edges.specs.Texts.{BeginsTooLong, ended}

-- no line of the bytes is longer than 65,536 bytes
abbrev pub HasShortLines : List ℕ → Type 0
HasShortLines bytes = All (λ piece. length piece ≤ max_bytes) (pieces bytes)

-- the records are the first of the lines
pub record AreFirstLines (bytes : List ℕ) (records : List (List ℕ)) : Type 0 where
  pub others : List (List ℕ)
  pub parts : lines bytes ≡ records ++ others

-- the records are all the lines, and none of these is too long
pub record AreAllLines (bytes : List ℕ) (records : List (List ℕ)) : Type 0 where
  pub all : records ≡ lines bytes
  pub short : HasShortLines bytes

-- the records are the lines before the first that is too long: of what stands behind them, 65,537 bytes have no LF
pub record AreLinesBeforeLong (bytes : List ℕ) (records : List (List ℕ)) : Type 0 where
  pub all : records ≡ lines bytes
  pub rest : List ℕ
  pub parts : bytes ≡ ended records ++ rest
  pub long : BeginsTooLong rest
