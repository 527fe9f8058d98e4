use Rattle.std.proofs.Common.{◌≡◌, [], length, drop, ap, arith}
use Rattle.std.proofs.lemmas.List.{drop_all}
use Rattle.core_rows.proofs.Finding.{stage_there}
use Rattle.core_rows.proofs.Fetched.{out_among, out_is, out_more}
use Rattle.core_rows.proofs.jobs.fetches_out.Goals as goal

pub fetched_by-requires-clause-there : goal.fetched_by-requires-clause-there
fetched_by-requires-clause-there c =
    stage_there c.args.core.now.topology c.as_slice-spec-items.result.now c.loop-spec.spec-index c.spec-item.result c.requires.stands.holds.sound c.as_slice-spec-items.ensures c.loop-spec-test.true c.spec-item.is

pub overflow_add-out : goal.overflow_add-out
overflow_add-out c =
    omega (arith, c.loop-spec.invariant.few, c.loop-spec-test.true, ap length c.as_slice-spec-items.ensures, c.requires.stands.holds.fields.sized.few, c.fetched_by.type_inv)

pub loop-spec-preserved : goal.loop-spec-preserved
loop-spec-preserved c =
    let more = out_more c.args.core.now.journal.steps c.as_slice-spec-items.result.now c.loop-spec.spec-index c.spec-item.result c.loop-spec-test.true c.spec-item.is in
    record {
      out = omega (arith, more, c.fetched_by.ensures, c.loop-spec.invariant.out);
      few = omega (arith, c.loop-spec.invariant.few, c.fetched_by.type_inv);
    }

pub returns : goal.returns
returns c =
    let core = c.args.core.now in
    let specs = c.as_slice-spec-items.result.now in
    let none : drop c.loop-spec.spec-index specs ≡ [] = drop_all c.loop-spec.spec-index specs (omega arith) in
    let nothing : out_among core.journal.steps (drop c.loop-spec.spec-index specs) ≡ 0 = ap (out_among core.journal.steps) none in
    let all : out_among core.journal.steps specs ≡ out_among core.journal.steps core.topology.stages = ap (out_among core.journal.steps) c.as_slice-spec-items.ensures in
    omega (arith, nothing, all, out_is core.topology core.journal.steps, c.loop-spec.invariant.out)
