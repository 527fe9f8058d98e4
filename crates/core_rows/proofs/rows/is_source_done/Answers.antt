use Rattle.core_rows.proofs.Known.{row_within}
use Rattle.core_rows.proofs.rows.is_source_done.Goals as goal

pub row_of-requires-clause-within : goal.row_of-requires-clause-within
row_of-requires-clause-within c = row_within c.args.core.now.topology c.args.spec.now c.requires.stands.holds.sound c.requires.there
