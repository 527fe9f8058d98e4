use Rattle.std.proofs.Common.{false, true, ap, sym, ◌∙◌}
use Rattle.std.specs.Prelude.{not}
use Rattle.core_rows.proofs.Totals.{draining_is, drained_if}
use Rattle.core_rows.proofs.rests.is_drained.Goals as goal

pub returns-then-not-is_all_bare : goal.returns-then-not-is_all_bare
returns-then-not-is_all_bare c =
    let core = c.args.core.now in
    let x = c.requires.stands.holds in
    drained_if core.topology core.journal.steps x.sound x.legal (sym (draining_is core x) ∙ c.if-not-core.false) false (λ home. sym c.if-not-is_all_bare.true ∙ c.is_all_bare.ensures home)

pub returns : goal.returns
returns c =
    let core = c.args.core.now in
    let x = c.requires.stands.holds in
    ap not c.is_any_out.ensures
    ∙ drained_if core.topology core.journal.steps x.sound x.legal (sym (draining_is core x) ∙ c.if-not-core.false) true (λ home. sym c.if-not-is_all_bare.false ∙ c.is_all_bare.ensures home)
