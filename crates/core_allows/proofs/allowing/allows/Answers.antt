use Rattle.std.proofs.Common.{◌∙◌, ap, sym}
use Rattle.std.specs.Prelude.{◌&&◌}
use Rattle.core_allows.specs.Tested.{is_given}
use Rattle.core_allows.proofs.Allowed.{same_law, model_law, legal_law}
use Rattle.core_allows.proofs.allowing.allows.Goals as goal

pub returns-clause-same : goal.returns-clause-same
returns-clause-same c =
    λ e. c.allows_by_rows.ensures ∙ same_law c.args.core.now.topology c.args.core.now.journal.steps c.args.step.now c.requires.stands.unowed e

pub returns-clause-model : goal.returns-clause-model
returns-clause-model c = λ e. c.allows_by_rows.ensures ∙ model_law c.args.core.now c.args.step.now c.requires.stands e

pub returns-clause-legal : goal.returns-clause-legal
returns-clause-legal c =
    let core = c.args.core.now in
    legal_law core c.args.step.now c.requires.stands ∙ ap (λ b. b && is_given core.topology core.journal.steps c.args.step.now) (sym c.allows_by_rows.ensures)
