use Rattle.pipe_journal.specs.Acked.{AreAcked}
use Rattle.ack_texts.specs.Lines.{step_acks}
use Rattle.ack_texts.proofs.Entries.{kept_each}
use Rattle.ack_texts.proofs.lines.group_text.Goals as goal

pub returns : goal.returns
returns c =
    let topology = c.args.topology.now in
    kept_each c.into_bytes.result _ _ _ _ (λ before step. AreAcked topology before step c.args.rows.now) (step_acks topology) c.new-out.ensures.1 c.new-out.ensures.0 c.into_bytes.ensures c.put_group.ensures
