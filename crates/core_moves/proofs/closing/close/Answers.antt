use Rattle.stage_laws.proofs.Bounds.{close_facts}
use Rattle.core_moves.proofs.closing.close.Goals as goal

pub is_dry-dry-requires-clause-role : goal.is_dry-dry-requires-clause-role
is_dry-dry-requires-clause-role c =
    let core = c.args.core.now in (close_facts core.topology core.journal.steps c.args.stage c.args.first c.requires.legal.trigger c.requires.legal.legal).role
