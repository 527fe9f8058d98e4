use Rattle.reading_laws.proofs.Texts.{text_again}
use Rattle.reading_laws.proofs.texts_of_legal_journals_are_read.Goals as goal

pub returns : goal.returns
returns c causes topology journal behind calm legal held few = text_again causes calm topology journal behind legal held few
