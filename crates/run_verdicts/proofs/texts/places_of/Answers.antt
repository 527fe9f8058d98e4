use Rattle.journal_audit.proofs.Placing.{places_stand}
use Rattle.run_verdicts.proofs.texts.places_of.Goals as goal

pub returns : goal.returns
returns c = places_stand c.args.core.now c.requires.stands.holds
