use Rattle.std.proofs.Common.{◌≡◌, ◌+◌, ◌≤◌, ℕ, List, [], ◌++◌, length}
use Rattle.reading_laws.specs.Text.{lines_of}
use Rattle.journal_audit.specs.Pieces.{verdict_on}
use Rattle.journal_audit.proofs.pieces.take_piece.Given as goal

-- what was begun and is left of the piece, with the steps so far, makes the same verdict
abbrev pub invariant-loop-cut : goal.invariant-loop-cut
invariant-loop-cut l = record {
  of : l.run.topology ≡ l.initial.run.topology;
  unended : lines_of l.begun.items ≡ [];
  same : (behind : List ℕ) → verdict_on l.initial.run.topology l.run.steps l.next (lines_of (l.begun.items ++ (l.rest ++ behind))) ≡ verdict_on l.initial.run.topology l.initial.run.steps l.fn.progress (lines_of (l.initial.begun.items ++ (l.piece ++ behind)));
  room : length l.run.steps + length l.rest ≤ length l.initial.run.steps + length l.piece;
}

abbrev pub decreases-loop-cut : goal.decreases-loop-cut
decreases-loop-cut l = length l.rest
