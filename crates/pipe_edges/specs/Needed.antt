-- How much a fetch reads.
use Rattle.std.specs.Prelude.{◌≡◌, ◌≤◌, ◌⊎◌, ℕ, List, ◌++◌, length}
use Rattle.pipe_edges.specs.Texts.{IsLine}

-- bytes were read: what was held before the last piece of them, of at most 8,192 bytes, is part of a line, without an LF
pub record IsReadBehind (held held' text : List ℕ) : Type 0 where
  pub front : List ℕ
  pub piece : List ℕ
  pub parts : held ++ (front ++ piece) ≡ text ++ held'
  pub one_piece : length piece ≤ 8192
  pub part_of_line : IsLine (held ++ front)

-- from what is held to what is held then no more is read than the text needs: nothing, or the last piece came behind a part of a line
abbrev pub ReadsAsNeeded : (held held' text : List ℕ) → Type 0
ReadsAsNeeded held held' text = (held ≡ text ++ held') ⊎ IsReadBehind held held' text
