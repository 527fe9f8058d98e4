use Rattle.std.proofs.Common.{◌≤◌, take, reverse}
use Rattle.journal_texts.specs.Findings.{AreFindings}
use Rattle.journal_texts.proofs.steps.found_in.Given as goal

-- what the steps so far gave
abbrev pub invariant-loop-at : goal.invariant-loop-at
invariant-loop-at l = AreFindings (take l.at (reverse l.journal.steps)) l.found × ((l.found.restarts ≤ l.at) × (l.found.refusals ≤ l.at))
