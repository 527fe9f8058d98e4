use Rattle.std.proofs.Common.{ap, sym, reverse, ◌∙◌}
use Rattle.std.proofs.lemmas.List.{reverse-reverse}
use Rattle.pipe_model.specs.Legal.{happened, is_halt}
use Rattle.journal_texts.specs.Report.{is_source_fault}
use Rattle.journal_texts.proofs.Reports.{status_is}
use Rattle.journal_texts.proofs.status.status.Goals as goal

pub returns : goal.returns
returns c =
    let twice = reverse-reverse c.args.journal.now.steps in
    status_is c.args._topology.now c.args.journal.now.steps c.args.places.now.items (reverse c.args.journal.now.steps) _ _ _ _ _
    c.requires twice
    (c.bad_ends-source_fault.ensures.source_fault ∙ sym (ap (happened is_source_fault) twice))
    (c.bad_ends-source_fault.ensures.halted ∙ sym (ap (happened is_halt) twice)) c.any_lost-lost.ensures c.any_failed-failed.ensures c.gravest.ensures
