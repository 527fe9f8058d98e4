-- The lines of a byte string.
use Rattle.std.proofs.Common.{◌≡◌, refl}
use Rattle.std.specs.Prelude.{[], ◌∷◌, ◌++◌, codes}
use Rattle.pipe_types.specs.Lines.{lines, lines_of_pieces, pieces}

-- a last piece without LF is a line where it is not empty
with_lf : lines (codes "a" ++ 10 ∷ codes "b" ++ 10 ∷ []) ≡ codes "a" ∷ codes "b" ∷ []
unfolding lines lines_of_pieces pieces
with_lf = refl

without_lf : lines (codes "a" ++ 10 ∷ codes "b") ≡ codes "a" ∷ codes "b" ∷ []
unfolding lines lines_of_pieces pieces
without_lf = refl

-- an empty line is a line
empty_lines : lines (10 ∷ codes "a" ++ 10 ∷ 10 ∷ []) ≡ [] ∷ codes "a" ∷ [] ∷ []
unfolding lines lines_of_pieces pieces
empty_lines = refl

only_lf : lines (10 ∷ []) ≡ [] ∷ []
unfolding lines lines_of_pieces pieces
only_lf = refl

no_bytes : lines [] ≡ []
unfolding lines lines_of_pieces pieces
no_bytes = refl

-- a CR is kept
with_cr : lines (codes "a" ++ 13 ∷ 10 ∷ []) ≡ (codes "a" ++ 13 ∷ []) ∷ []
unfolding lines lines_of_pieces pieces
with_cr = refl
