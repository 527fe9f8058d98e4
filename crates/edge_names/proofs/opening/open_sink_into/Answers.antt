use Rattle.std.proofs.Common.{[], ◌∷◌, sym, ◌∙◌, subst}
use Rattle.pipe_edges.specs.declared.edges.EdgeKind.TheVariants.{Sink}
use Rattle.edge_names.specs.Opened.{IsOneFailed}
use Rattle.edge_names.proofs.Seeing.{seen_by}
use Rattle.edge_names.proofs.Cuts.{cut_uncalled, cut_empty, failed_call}
use Rattle.edge_names.proofs.opening.open_sink_into.Goals as goal

pub returns-in_default-clause-opens : goal.returns-in_default-clause-opens
returns-in_default-clause-opens g c = cut_uncalled _ _

pub returns-in-Err-OutOfMemory-clause-opens : goal.returns-in-Err-OutOfMemory-clause-opens
returns-in-Err-OutOfMemory-clause-opens g c = cut_empty _ _ _ _ _ (rw c.in-Err-OutOfMemory.field-0-is at c.in-Err-OutOfMemory.ensures.opens)

pub returns-in-Err-Failed-clause-opens : goal.returns-in-Err-Failed-clause-opens
returns-in-Err-Failed-clause-opens g c =
    let seen = seen_by g.E.Edges g.E.Source.ByteSource g.E.Sink.ByteSink in
    subst (λ n. IsOneFailed ((Sink, c.args.name.now) ∷ []) n (seen c.args.edges.now) (seen c.open_sink.new.edges)) (sym (c.in-Ok.ensures ∙ c.as_str.ensures))
    (failed_call Sink c.args.name.now (seen c.args.edges.now) (seen c.open_sink.new.edges) (rw c.in-Err-Failed.field-0-is at c.in-Err-Failed.ensures.opens))
