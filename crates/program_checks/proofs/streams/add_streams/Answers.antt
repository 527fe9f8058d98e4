use Rattle.std.proofs.Common.{◌∙◌, length, ap, sym, refl, arith}
use Rattle.pipe_edges.specs.declared.edges.EdgeKind.TheVariants.{Source}
use Rattle.program_checks.proofs.streams.add_streams.Goals as goal

pub loop-at-init : goal.loop-at-init
loop-at-init c = record { short = λ name _. c.requires name; long = λ name _. c.requires name }

pub add_source-requires-clause-new_name : goal.add_source-requires-clause-new_name
add_source-requires-clause-new_name c = c.loop-at.invariant.long _ (omega (arith, c.in_ok-stream_name.ensures))

pub loop-at-preserved : goal.loop-at-preserved
loop-at-preserved c = record {
  short = λ name few. c.in_ok-add_source.ensures.ok.elsewhere.new Source name (λ e. absurd (omega (arith, few, ap length e.1, c.in_ok-stream_name.ensures))) (c.loop-at.invariant.short name few);
  long = λ name many. c.in_ok-add_source.ensures.ok.elsewhere.new Source name (λ e. absurd (omega (arith, many, ap length e.1, c.in_ok-stream_name.ensures))) (c.loop-at.invariant.long name (omega (arith, many)));
}
