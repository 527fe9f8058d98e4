use Rattle.std.proofs.Common.{◌≡◌, ◌∙◌, sym, ap}
use Rattle.pipe_edges.specs.declared.edges.EdgeKind.TheVariants.{File, Source}
use Rattle.mem_edges.specs.MemEdges.{named_in}
use Rattle.own_callback.proofs.Names.{source_is_no_file, file_is_no_source}
use Rattle.own_callback.proofs.call.edges_of.Goals as goal

pub add_file-requires : goal.add_file-requires
add_file-requires c =
    c.new-edges.ensures.empty File _

pub add_source-requires-clause-new_name : goal.add_source-requires-clause-new_name
add_source-requires-clause-new_name c =
    c.in_ok-add_file.ensures.ok.elsewhere.new Source _ (λ e. source_is_no_file e.0) (c.new-edges.ensures.empty Source _)

pub returns-clause-file : goal.returns-clause-file
returns-clause-file c =
    c.in_ok-add_source.ensures.ok.elsewhere.named File _ (λ e. file_is_no_source e.0)
    ∙ (ap (named_in c.add_file.new.self File) (sym c.in_ok-text.ensures) ∙ (c.in_ok-add_file.ensures.ok.stands ∙ c.in_ok-bytes.ensures))

pub returns-clause-lines : goal.returns-clause-lines
returns-clause-lines c =
    ap (named_in c.add_source.new.self Source) (sym c.in_ok-text-2.ensures)
    ∙ (c.in_ok-add_source.ensures.ok.stands ∙ (c.new-source.ensures.bytes ∙ c.in_ok-bytes-2.ensures))
