use Rattle.std.proofs.Common.{[], ◌∷◌, sym, ◌∙◌, subst}
use Rattle.pipe_edges.specs.declared.edges.EdgeKind.TheVariants.{Source}
use Rattle.edge_names.specs.Opened.{IsOneFailed}
use Rattle.edge_names.proofs.Seeing.{seen_by}
use Rattle.edge_names.proofs.Cuts.{cut_uncalled, cut_empty, cut_returned, failed_call}
use Rattle.edge_names.proofs.lines.open_lines.Goals as goal

pub returns-in_default-clause-cut_off : goal.returns-in_default-clause-cut_off
returns-in_default-clause-cut_off g c = cut_uncalled _ _

pub returns-in-Ok-open_control_source-clause-cut_off : goal.returns-in-Ok-open_control_source-clause-cut_off
returns-in-Ok-open_control_source-clause-cut_off g c =
    cut_returned _ _ _ _ _ c.in-Ok-open_control_source.source c.in-Ok-open_control_source.ensures.opens c.in-Ok-open_control_source.ensures.given c.in-Err.ensures.returned

pub returns-clause-cut_off : goal.returns-clause-cut_off
returns-clause-cut_off g c = cut_empty _ _ _ _ _ (rw c.in-Err-OutOfMemory.field-0-is at c.in-Err-OutOfMemory.ensures.opens)

pub returns-in-Err-Failed-clause-failed : goal.returns-in-Err-Failed-clause-failed
returns-in-Err-Failed-clause-failed g c =
    let seen = seen_by g.E.Edges g.E.Source.ByteSource g.E.Sink.ByteSink in
    subst (λ n. IsOneFailed ((Source, c.args.name.now) ∷ []) n (seen c.args.edges.now) (seen c.open_control_source.new.edges)) (sym (c.in-Ok.ensures ∙ c.as_str.ensures))
    (failed_call Source c.args.name.now (seen c.args.edges.now) (seen c.open_control_source.new.edges) (rw c.in-Err-Failed.field-0-is at c.in-Err-Failed.ensures.opens))
