use Rattle.std.proofs.Common.{ap, sym, ◌∙◌, arith}
use Rattle.pipe_model.specs.Lives.{one_more}
use Rattle.plain_lives.proofs.Renewals.{generation_upto}
use Rattle.plain_lives.proofs.deaths.generation.Goals as goal

pub loop-renewal-preserved : goal.loop-renewal-preserved
loop-renewal-preserved c =
    c.in_ok-count.ensures
    ∙ ap (λ b. one_more b c.loop-renewal.count) c.renewed_by.ensures
    ∙ ap (one_more _) c.loop-renewal.invariant
    ∙ sym (generation_upto c.as_slice-renewals.result.now c.loop-renewal.renewal-index c.renewal-item.result c.args.consumer c.args.producer (omega arith) c.renewal-item.is)
