use Rattle.std.proofs.Common.{◌≡◌, ◌+◌, ◌≤◌, [], length}
use Rattle.reading_laws.specs.Text.{lines_of, lines_in, line_after}
use Rattle.journal_reading.specs.Faults.{unjudged}
use Rattle.journal_reading.specs.Reads.{steps_in, IsOf}
use Rattle.journal_reading.proofs.steps.read_lines.Given as goal

-- the steps so far, and the text that is left
abbrev pub invariant-loop-cut : goal.invariant-loop-cut
invariant-loop-cut l = record {
  of : IsOf l.topology l.progress;
  same : lines_in unjudged l.topology (steps_in l.progress) (lines_of l.rest) ≡ lines_in unjudged l.topology [] (lines_of l.text);
  line : l.line ≡ line_after (steps_in l.progress);
  room : l.line + length l.rest ≤ 2 + length l.text;
}

abbrev pub decreases-loop-cut : goal.decreases-loop-cut
decreases-loop-cut l = length l.rest
