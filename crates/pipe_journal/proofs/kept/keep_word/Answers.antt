use Rattle.std.proofs.Common.{refl}
use Rattle.pipe_journal.proofs.Extending.{same, same_place, added_places}
use Rattle.pipe_journal.proofs.kept.keep_word.Goals as goal

pub returns-then-is_at-clause-kept : goal.returns-then-is_at-clause-kept
returns-then-is_at-clause-kept c = same_place _ _ _ _ c.short.ensures (c.is_at.ensures c.if-is_at.true)

pub returns-then-is_at-clause-extends : goal.returns-then-is_at-clause-extends
returns-then-is_at-clause-extends c = same _ _ refl

pub returns-else-is_at-clause-kept : goal.returns-else-is_at-clause-kept
returns-else-is_at-clause-kept c = added_places _ _ _ _ c.add_word.ensures.added
