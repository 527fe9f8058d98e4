use Rattle.std.proofs.Common.{◌≡◌}
use Rattle.pipe_edges.specs.declared.edges.EdgeKind.TheVariants.{File, Source, Sink}
use Rattle.edge_checks.proofs.names.three_names.Goals as goal

sink_is_no_source : Sink ≡ Source → ⊥
sink_is_no_source h = cc

file_is_no_source : File ≡ Source → ⊥
file_is_no_source h = cc

file_is_no_sink : File ≡ Sink → ⊥
file_is_no_sink h = cc

pub add_source-requires-clause-new_name : goal.add_source-requires-clause-new_name
add_source-requires-clause-new_name c = c.new-edges.ensures.empty Source _

pub add_sink-requires-clause-new_name : goal.add_sink-requires-clause-new_name
add_sink-requires-clause-new_name c =
    c.in_ok-add_source.ensures.ok.elsewhere.new Sink _ (λ e. sink_is_no_source e.0) (c.new-edges.ensures.empty Sink _)

pub add_file-requires : goal.add_file-requires
add_file-requires c =
    c.in_ok-add_sink.ensures.ok.elsewhere.new File _ (λ e. file_is_no_sink e.0)
    (c.in_ok-add_source.ensures.ok.elsewhere.new File _ (λ e. file_is_no_source e.0) (c.new-edges.ensures.empty File _))
