use Rattle.std.proofs.Common.{ap, ◌∙◌, cond, length, arith}
use Rattle.std.proofs.lemmas.List.{take_all}
use Rattle.pipe_types.specs.Sound.{is_producer, producers}
use Rattle.edge_names.proofs.Gating.{byte_is, cond_low, count_turn}
use Rattle.edge_names.proofs.gates.count_producers.Goals as goal

pub loop-spec-preserved : goal.loop-spec-preserved
loop-spec-preserved c =
    let x = c.loop-spec.invariant in
    let same = c.as_slice-spec-items.ensures in
    let spec = c.spec-item.result in
    let one = c.from-count.ensures ∙ byte_is c.is_producer.result ∙ ap (λ b. cond b 1 0) c.is_producer.ensures in
    let small = cond_low (is_producer spec.role) in
    record {
      count = count_turn c.args.topology.now.stages c.loop-spec.spec-index spec _ _ (rw same at c.loop-spec-test.true) (rw same at c.spec-item.is) x.count one;
      low = omega (arith, x.low, one, small);
    }

pub returns : goal.returns
returns c =
    let same = c.as_slice-spec-items.ensures in
    c.loop-spec.invariant.count ∙ ap (λ xs. length (producers xs)) (take_all c.loop-spec.spec-index c.args.topology.now.stages (rw same at c.loop-spec-test.false))
