use Rattle.std.proofs.Common.{◌+◌, List, length, ap, sym, ◌∙◌}
use Rattle.pipe_types.specs.declared.topology.StageSpec.{StageSpec}
use Rattle.pipe_model.specs.History.{History}
use Rattle.settle_laws.specs.Settled.{settled_last}
use Rattle.plain_run.proofs.Beginning.{begins}
use Rattle.plain_run.proofs.run.PlainRun.begin.Goals as goal

pub invariant_of-result : goal.invariant_of-result
invariant_of-result c =
    let w = c.in-Ok.ensures in
    record {
      run = begins c.args.core c.in-Ok.works (length c.as_slice.result.now + 1) c.requires.stands c.requires.empty (ap (λ (ss : List StageSpec). length ss + 1) c.as_slice.ensures) w.taken_len w.taken w.counts w.started;
      settled = c.new.ensures.items ∙ sym (ap (λ (h : History). settled_last c.args.core.topology h) c.requires.empty);
    }
