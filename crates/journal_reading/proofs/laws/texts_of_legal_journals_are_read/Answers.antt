use Rattle.std.proofs.Common.{refl}
use Rattle.reading_laws.proofs.Texts.{text_again}
use Rattle.journal_reading.specs.Faults.{unjudged}
use Rattle.journal_reading.proofs.laws.texts_of_legal_journals_are_read.Goals as goal

pub returns : goal.returns
returns c topology journal behind legal held few = text_again unjudged refl topology journal behind legal held few
