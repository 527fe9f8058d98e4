use Rattle.std.proofs.Common.{subst}
use Rattle.line_reading.specs.Spelling.{Each, IsByte}
use Rattle.journal_reading.proofs.Why.{why_tested}
use Rattle.journal_reading.proofs.held.hold_reason.Goals as goal

pub returns : goal.returns
returns c = record { bytes = subst (Each IsByte) c.as_bytes.ensures.text c.hold_bytes.ensures; reason = why_tested c.args.why.now c.as_bytes.ensures.reason }
