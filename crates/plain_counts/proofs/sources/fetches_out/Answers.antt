use Rattle.std.proofs.Common.{◌≡◌, ◌+◌, take, arith}
use Rattle.pipe_model.specs.History.{history}
use Rattle.plain_counts.specs.Fetches.{out_of, sum_out}
use Rattle.plain_counts.proofs.Fetches.{out_upto}
use Rattle.plain_counts.proofs.sources.fetches_out.Goals as goal

pub loop-spec-preserved : goal.loop-spec-preserved
loop-spec-preserved c =
    let before = history c.args.steps.now in
    let specs = c.as_slice-specs.result.now in
    let i = c.loop-spec.spec-index in
    let spec = c.spec-item.result in
    let more : sum_out before (take (i + 1) specs) ≡ sum_out before (take i specs) + out_of before spec = out_upto before specs i spec (omega arith) c.spec-item.is in
    let one : c.out_of.result ≡ out_of before spec = c.out_of.ensures in
    let as_wide : c.from.result ≡ c.out_of.result = c.from.ensures in
    let sum : c.in_ok-sum.sum ≡ c.loop-spec.sum + c.from.result = c.in_ok-sum.ensures in
    let old : c.loop-spec.sum ≡ sum_out before (take i specs) = c.loop-spec.invariant in
    omega (arith, more, one, as_wide, sum, old)
