use Rattle.std.proofs.Common.{refl}
use Rattle.journal_texts.specs.Steps.{journal_text}
use Rattle.run_verdicts.specs.Verdicts.{acks_in, shown}
use Rattle.run_verdicts.proofs.Fronts.{front, after_first}
use Rattle.run_verdicts.proofs.verdict.put_texts.Goals as goal

pub returns-then-not-put_steps-clause-begun : goal.returns-then-not-put_steps-clause-begun
returns-then-not-put_steps-clause-begun g c told = front _ _ (shown c.args.texts.now.steps (journal_text c.args.journal.now.steps)) _ (c.put_steps.ensures.begun told)

pub returns-then-not-put_acks-clause-begun : goal.returns-then-not-put_acks-clause-begun
returns-then-not-put_acks-clause-begun g c told =
    after_first _ _ _ (shown c.args.texts.now.steps (journal_text c.args.journal.now.steps)) _ (c.if-not-put_steps.ensures.whole refl told)
    (front _ _ (acks_in c.args.texts.now.acks c.args.journal.now.steps) c.args.texts.now.last (c.put_acks.ensures.begun (rw c.put_steps.ensures.told told)))

pub returns-clause-begun : goal.returns-clause-begun
returns-clause-begun g c told =
    after_first _ _ _ (shown c.args.texts.now.steps (journal_text c.args.journal.now.steps)) _ (c.if-not-put_steps.ensures.whole refl told)
    (after_first _ _ _ (acks_in c.args.texts.now.acks c.args.journal.now.steps) c.args.texts.now.last (c.if-not-put_acks.ensures.whole refl (rw c.put_steps.ensures.told told))
    (c.put_text.ensures.begun (rw (c.put_acks.ensures.told, c.put_steps.ensures.told) told)))
