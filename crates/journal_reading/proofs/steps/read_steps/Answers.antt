use Rattle.std.proofs.Common.{refl, ap, ◌∙◌}
use Rattle.reading_laws.specs.Text.{text_in}
use Rattle.reading_laws.proofs.Texts.{text_again}
use Rattle.journal_reading.specs.Faults.{unjudged}
use Rattle.journal_reading.proofs.Reading.{again_by, found_by}
use Rattle.journal_reading.proofs.steps.read_steps.Goals as goal

pub returns-clause-again : goal.returns-clause-again
returns-clause-again c journal behind legal held few is =
    again_by c.read_text.result (text_in unjudged c.args.topology.now c.args.bytes.now) journal c.read_text.ensures
    (ap (text_in unjudged c.args.topology.now) is ∙ text_again unjudged refl c.args.topology.now journal behind legal held few)

pub returns-clause-found : goal.returns-clause-found
returns-clause-found c = found_by c.read_text.result c.args.topology.now c.args.bytes.now c.read_text.ensures
