use Rattle.std.proofs.Common.{◌∙◌, length, ap, sym, refl, arith}
use Rattle.pipe_edges.specs.declared.edges.EdgeKind.TheVariants.{Source}
use Rattle.program_checks.proofs.Names.{differ}
use Rattle.program_checks.proofs.outside.edges_of.Goals as goal

pub add_source-requires-clause-new_name : goal.add_source-requires-clause-new_name
add_source-requires-clause-new_name c = c.in_ok-edges.ensures _ (omega (arith, ap length c.in_ok-text_of.ensures))

pub add_source-requires-2-clause-new_name : goal.add_source-requires-2-clause-new_name
add_source-requires-2-clause-new_name c =
    c.in_ok-add_source.ensures.ok.elsewhere.new Source _ (λ e. differ _ _ (sym c.in_ok-text_of-2.ensures ∙ e.1 ∙ c.in_ok-text_of.ensures) refl)
    (c.in_ok-edges.ensures _ (omega (arith, ap length c.in_ok-text_of-2.ensures)))

pub add_source-requires-3-clause-new_name : goal.add_source-requires-3-clause-new_name
add_source-requires-3-clause-new_name c =
    c.in_ok-add_source-2.ensures.ok.elsewhere.new Source _ (λ e. differ _ _ (sym c.in_ok-text_of-3.ensures ∙ e.1 ∙ c.in_ok-text_of-2.ensures) refl)
    (c.in_ok-add_source.ensures.ok.elsewhere.new Source _ (λ e. differ _ _ (sym c.in_ok-text_of-3.ensures ∙ e.1 ∙ c.in_ok-text_of.ensures) refl)
    (c.in_ok-edges.ensures _ (omega (arith, ap length c.in_ok-text_of-3.ensures))))

pub add_first-requires-clause-a : goal.add_first-requires-clause-a
add_first-requires-clause-a c =
    c.in_ok-add_source-3.ensures.ok.elsewhere.new Source _ (λ e. differ _ _ (e.1 ∙ c.in_ok-text_of-3.ensures) refl)
    (c.in_ok-add_source-2.ensures.ok.elsewhere.new Source _ (λ e. differ _ _ (e.1 ∙ c.in_ok-text_of-2.ensures) refl)
    (c.in_ok-add_source.ensures.ok.elsewhere.new Source _ (λ e. differ _ _ (e.1 ∙ c.in_ok-text_of.ensures) refl)
    (c.in_ok-edges.ensures _ (omega arith))))

pub add_first-requires-clause-t : goal.add_first-requires-clause-t
add_first-requires-clause-t c =
    c.in_ok-add_source-3.ensures.ok.elsewhere.new Source _ (λ e. differ _ _ (e.1 ∙ c.in_ok-text_of-3.ensures) refl)
    (c.in_ok-add_source-2.ensures.ok.elsewhere.new Source _ (λ e. differ _ _ (e.1 ∙ c.in_ok-text_of-2.ensures) refl)
    (c.in_ok-add_source.ensures.ok.elsewhere.new Source _ (λ e. differ _ _ (e.1 ∙ c.in_ok-text_of.ensures) refl)
    (c.in_ok-edges.ensures _ (omega arith))))
