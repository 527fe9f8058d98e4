use Rattle.std.proofs.Common.{◌∙◌, ap, ◌||◌}
use Rattle.std.specs.Prelude.{bytes_eq}
use Rattle.config_table.specs.Fault.{least}
use Rattle.config_judge.specs.Judge.{name_faults}
use Rattle.config_judge.specs.Stood.{stands}
use Rattle.config_judge.proofs.Steps.{name_step}
use Rattle.config_judge.proofs.Stood.{stands_next}
use Rattle.config_judge.proofs.names.duplicate_name.Goals as goal

pub loop-i-preserved : goal.loop-i-preserved
loop-i-preserved c = record {
  known = stands_next c.args.before.now c.args.names.now c.loop-i.i c.index-names-i.result c.loop-i.stood c.stood_before.new.stood c.loop-i-test.true c.index-names-i.is
      c.loop-i.invariant.known
      (λ other. c.in_ok-known.ensures.added other ∙ ap (λ text. bytes_eq text other || stands c.loop-i.stood other) c.as_str.ensures);
  faults =
      rw c.sooner-found.ensures
      (name_step c.args.path.now c.args.before.now c.args.names.now c.loop-i.i c.index-names-i.result c.loop-i.found c.in_ok-fault.fault c.loop-i-test.true c.index-names-i.is
      (c.in_ok-fault.ensures
      ∙ ap (λ known. least (name_faults c.args.path.now c.loop-i.i known)) (c.in_ok-known.ensures.known ∙ ap (λ text. stands c.loop-i.stood text) c.as_str.ensures ∙ c.loop-i.invariant.known c.index-names-i.result))
      ∙ c.loop-i.invariant.faults);
}
