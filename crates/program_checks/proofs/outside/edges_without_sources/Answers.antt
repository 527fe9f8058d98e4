use Rattle.std.proofs.Common.{◌≡◌, ◌∙◌, sym, refl}
use Rattle.pipe_edges.specs.declared.edges.EdgeKind.TheVariants.{File, Source, Sink}
use Rattle.program_checks.proofs.Names.{differ}
use Rattle.program_checks.proofs.outside.edges_without_sources.Goals as goal

sink_is_no_file : Sink ≡ File → ⊥
sink_is_no_file h = cc

source_is_no_file : Source ≡ File → ⊥
source_is_no_file h = cc

source_is_no_sink : Source ≡ Sink → ⊥
source_is_no_sink h = cc

pub add_file-requires : goal.add_file-requires
add_file-requires c = c.new-edges.ensures.empty File _

pub add_sink-requires-clause-new_name : goal.add_sink-requires-clause-new_name
add_sink-requires-clause-new_name c =
    c.in_ok-add_file.ensures.ok.elsewhere.new Sink _ (λ e. sink_is_no_file e.0) (c.new-edges.ensures.empty Sink _)

pub add_sink-requires-2-clause-new_name : goal.add_sink-requires-2-clause-new_name
add_sink-requires-2-clause-new_name c =
    c.in_ok-add_sink.ensures.ok.elsewhere.new Sink _ (λ e. differ _ _ (sym c.in_ok-text_of-3.ensures ∙ e.1 ∙ c.in_ok-text_of-2.ensures) refl)
    (c.in_ok-add_file.ensures.ok.elsewhere.new Sink _ (λ e. sink_is_no_file e.0) (c.new-edges.ensures.empty Sink _))

pub add_sink-requires-3-clause-new_name : goal.add_sink-requires-3-clause-new_name
add_sink-requires-3-clause-new_name c =
    c.in_ok-add_sink-2.ensures.ok.elsewhere.new Sink _ (λ e. differ _ _ (sym c.in_ok-text_of-4.ensures ∙ e.1 ∙ c.in_ok-text_of-3.ensures) refl)
    (c.in_ok-add_sink.ensures.ok.elsewhere.new Sink _ (λ e. differ _ _ (sym c.in_ok-text_of-4.ensures ∙ e.1 ∙ c.in_ok-text_of-2.ensures) refl)
    (c.in_ok-add_file.ensures.ok.elsewhere.new Sink _ (λ e. sink_is_no_file e.0) (c.new-edges.ensures.empty Sink _)))

pub returns : goal.returns
returns c name =
    c.in_ok-add_sink-3.ensures.ok.elsewhere.new Source name (λ e. source_is_no_sink e.0)
    (c.in_ok-add_sink-2.ensures.ok.elsewhere.new Source name (λ e. source_is_no_sink e.0)
    (c.in_ok-add_sink.ensures.ok.elsewhere.new Source name (λ e. source_is_no_sink e.0)
    (c.in_ok-add_file.ensures.ok.elsewhere.new Source name (λ e. source_is_no_file e.0) (c.new-edges.ensures.empty Source name))))
