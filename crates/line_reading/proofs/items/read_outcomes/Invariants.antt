use Rattle.std.proofs.Common.{◌≡◌, drop}
use Rattle.line_reading.specs.Lines.{items_from, outcome_in, so_far, joined}
use Rattle.line_reading.specs.Reading.{texts_of}
use Rattle.line_reading.proofs.items.read_outcomes.Given as goal

-- the outcomes so far, and the texts that are left
abbrev pub invariant-loop-text : goal.invariant-loop-text
invariant-loop-text l = joined (so_far l.bad l.outcomes.items) (items_from outcome_in l.text-index (drop l.text-index (texts_of l.texts))) ≡ items_from outcome_in 0 (texts_of l.texts)
