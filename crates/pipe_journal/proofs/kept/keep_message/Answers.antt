use Rattle.pipe_journal.proofs.Keeping.{kept_same, kept_changed}
use Rattle.pipe_journal.proofs.kept.keep_message.Goals as goal

pub returns-in_ok-key-clause-kept : goal.returns-in_ok-key-clause-kept
returns-in_ok-key-clause-kept c = λ reasons.
    kept_same _ _ reasons _ _ _ _ _ _ _ _ _ (c.is_record.ensures c.if-is_record.true) c.in_ok-key.ensures.kept c.as_slice-payload.ensures c.as_slice-key.ensures

pub returns-in_ok-key-2-clause-kept : goal.returns-in_ok-key-2-clause-kept
returns-in_ok-key-2-clause-kept c = λ reasons.
    kept_changed _ _ reasons _ _ _ _ _ _ _ _ _ c.in_ok-key-2.ensures.first c.in_ok-key-2.ensures.second c.as_slice-payload.ensures c.as_slice-key.ensures
