use Rattle.std.proofs.Common.{◌∙◌, ap, sym}
use Rattle.std.specs.Prelude.{◌&&◌}
use Rattle.pipe_model.specs.Flow.{is_empty, inbox}
use Rattle.core_rows.proofs.Totals.{draining_is, dry_by}
use Rattle.core_rows.proofs.rests.is_dry.Goals as goal

pub returns-then-not-is_done_above_all : goal.returns-then-not-is_done_above_all
returns-then-not-is_done_above_all c =
    let core = c.args.core.now in
    let x = c.requires.stands.holds in
    ap (λ b. b && is_empty (inbox core.topology core.journal.steps c.args.batcher)) (sym (sym c.is_done_above_all.ensures ∙ c.if-not-is_done_above_all.true))
    ∙ dry_by core.topology core.journal.steps c.args.batcher x.sound x.legal c.requires.role (sym (draining_is core x) ∙ c.if-not-core.false) (sym c.is_no_fetch_out.ensures ∙ c.if-not-is_no_fetch_out.false)

pub returns : goal.returns
returns c =
    let core = c.args.core.now in
    let x = c.requires.stands.holds in
    c.is_inbox_empty.ensures
    ∙ (ap (λ b. b && is_empty (inbox core.topology core.journal.steps c.args.batcher)) (sym (sym c.is_done_above_all.ensures ∙ c.if-not-is_done_above_all.false))
    ∙ dry_by core.topology core.journal.steps c.args.batcher x.sound x.legal c.requires.role (sym (draining_is core x) ∙ c.if-not-core.false) (sym c.is_no_fetch_out.ensures ∙ c.if-not-is_no_fetch_out.false))
