-- Whole lines cut off the front of bytes.
use Rattle.std.specs.Prelude.{◌≡◌, ◌<◌, ◌≤◌, ◌+◌, ◌⊎◌, ℕ, List, ◌∷◌, ◌++◌, length, take, drop, All}
use Rattle.pipe_edges.specs.Texts.{HasNoLf, IsLine, HasNoWholeLine, ended}

-- the first LF stands at this place
pub record EndsAt (bytes : List ℕ) (n : ℕ) : Type 0 where
  pub within : n < length bytes
  pub parts : bytes ≡ take n bytes ++ 10 ∷ drop (n + 1) bytes
  pub unbroken : HasNoLf (take n bytes)

-- the first searched bytes are there and have no LF
pub record IsSearched (bytes : List ℕ) (searched : ℕ) : Type 0 where
  pub within : searched ≤ length bytes
  pub unbroken : HasNoLf (take searched bytes)

-- these are the first lines, which take up used bytes, and of what is left so many bytes are searched
pub record CutsLines (bytes : List ℕ) (records : List (List ℕ)) (used searched : ℕ) : Type 0 where
  pub within : used ≤ length bytes
  pub parts : bytes ≡ ended records ++ drop used bytes
  pub each_is_a_line : All IsLine records
  pub left_searched : IsSearched (drop used bytes) searched

-- as many lines as there are whole ones in front, and at most max
pub record CutsAll (max : ℕ) (records : List (List ℕ)) (left : List ℕ) : Type 0 where
  pub at_most : length records ≤ max
  pub all_whole : (length records ≡ max) ⊎ HasNoWholeLine left
