use Rattle.std.proofs.Common.{◌∙◌, ap, sym}
use Rattle.std.specs.Prelude.{◌&&◌}
use Rattle.pipe_model.specs.Flow.{is_empty}
use Rattle.pipe_model.specs.Standing.{gathered_in}
use Rattle.core_rows.proofs.Working.{clear_known}
use Rattle.core_rows.proofs.rests.is_stage_bare.Goals as goal

pub returns-then-is_idle : goal.returns-then-is_idle
returns-then-is_idle c = λ home.
    let core = c.args.core.now in
    let x = c.requires.stands in
    c.is_gathered_empty.ensures
    ∙ (ap (λ b. b && is_empty (gathered_in core.topology core.journal.steps c.args.stage)) (sym (sym c.is_idle.ensures ∙ c.if-is_idle.true))
    ∙ clear_known core.topology core.journal.steps c.args.stage x.holds.legal x.unowed home c.requires.there)

pub returns-else-is_idle : goal.returns-else-is_idle
returns-else-is_idle c = λ home.
    let core = c.args.core.now in
    let x = c.requires.stands in
    c.if-is_idle.false
    ∙ (ap (λ b. b && is_empty (gathered_in core.topology core.journal.steps c.args.stage)) (sym (sym c.is_idle.ensures ∙ c.if-is_idle.false))
    ∙ clear_known core.topology core.journal.steps c.args.stage x.holds.legal x.unowed home c.requires.there)
