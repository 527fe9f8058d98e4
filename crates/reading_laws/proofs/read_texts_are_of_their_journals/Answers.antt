use Rattle.reading_laws.proofs.Found.{text_found}
use Rattle.reading_laws.proofs.read_texts_are_of_their_journals.Goals as goal

pub returns : goal.returns
returns c causes topology text journal is = text_found causes topology text journal is
