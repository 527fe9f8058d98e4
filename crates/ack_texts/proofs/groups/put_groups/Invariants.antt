use Rattle.std.proofs.Common.{◌≤◌, ◌-◌, length, drop}
use Rattle.pipe_model.specs.History.{History}
use Rattle.pipe_journal.specs.Acked.{IsLog}
use Rattle.journal_texts.specs.Acks.{ack_text}
use Rattle.ack_texts.proofs.Along.{At}
use Rattle.ack_texts.proofs.groups.put_groups.Given as goal

-- the acknowledgements of the steps in front of the rows that are left
abbrev pub invariant-groups : goal.invariant-groups
invariant-groups g l = record {
  within : l.start ≤ length l.rows;
  puts : (steps : History) → IsLog l.topology steps l.rows → (before : History) × At steps l.rows (drop l.start l.rows) before × g.W.TextSink.puts l.fn.out l.out (ack_text l.topology before);
}

abbrev pub decreases-groups : goal.decreases-groups
decreases-groups g l = length l.rows - l.start
