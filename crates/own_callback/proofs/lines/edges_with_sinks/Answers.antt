use Rattle.std.proofs.Common.{◌≡◌, ◌∙◌, sym, ap, refl}
use Rattle.pipe_edges.specs.declared.edges.EdgeKind.TheVariants.{File, Source, Sink}
use Rattle.mem_edges.specs.MemEdges.{named_in}
use Rattle.own_callback.proofs.Names.{differ, file_is_no_sink, source_is_no_sink, source_is_no_file, file_is_no_source}
use Rattle.own_callback.proofs.lines.edges_with_sinks.Goals as goal

pub add_sink-requires-clause-new_name : goal.add_sink-requires-clause-new_name
add_sink-requires-clause-new_name c = c.new-edges.ensures.empty Sink _

pub add_sink-requires-2-clause-new_name : goal.add_sink-requires-2-clause-new_name
add_sink-requires-2-clause-new_name c =
    c.in_ok-add_sink.ensures.ok.elsewhere.new Sink _ (λ e. differ _ _ (sym c.in_ok-text-2.ensures ∙ e.1 ∙ c.in_ok-text.ensures) refl)
    (c.new-edges.ensures.empty Sink _)

pub add_file-requires : goal.add_file-requires
add_file-requires c =
    c.in_ok-add_sink-2.ensures.ok.elsewhere.new File _ (λ e. file_is_no_sink e.0)
    (c.in_ok-add_sink.ensures.ok.elsewhere.new File _ (λ e. file_is_no_sink e.0) (c.new-edges.ensures.empty File _))

pub add_source-requires-clause-new_name : goal.add_source-requires-clause-new_name
add_source-requires-clause-new_name c =
    c.in_ok-add_file.ensures.ok.elsewhere.new Source _ (λ e. source_is_no_file e.0)
    (c.in_ok-add_sink-2.ensures.ok.elsewhere.new Source _ (λ e. source_is_no_sink e.0)
    (c.in_ok-add_sink.ensures.ok.elsewhere.new Source _ (λ e. source_is_no_sink e.0) (c.new-edges.ensures.empty Source _)))

pub returns-clause-file : goal.returns-clause-file
returns-clause-file c =
    c.in_ok-add_source.ensures.ok.elsewhere.named File _ (λ e. file_is_no_source e.0)
    ∙ (ap (named_in c.add_file.new.self File) (sym c.in_ok-text-3.ensures) ∙ (c.in_ok-add_file.ensures.ok.stands ∙ c.in_ok-bytes.ensures))

pub returns-clause-lines : goal.returns-clause-lines
returns-clause-lines c =
    ap (named_in c.add_source.new.self Source) (sym c.in_ok-text-4.ensures)
    ∙ (c.in_ok-add_source.ensures.ok.stands ∙ (c.new-source.ensures.bytes ∙ c.in_ok-bytes-2.ensures))
