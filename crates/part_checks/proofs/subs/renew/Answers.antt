use Rattle.std.proofs.Common.{◌+◌, ◌∙◌, ap, Some}
use Rattle.pipe_types.specs.Numbers.{stage}
use Rattle.stage_subs.specs.Subs.{generation_in, begun}
use Rattle.part_checks.proofs.subs.renew.Goals as goal

pub invariant_of-pair : goal.invariant_of-pair
invariant_of-pair c = record { row = c.renew.ensures.renewed.rows (stage 2) (stage 1) ∙ ap (λ row. Some (begun (generation_in row + 1) 5 10)) c.args.pair.now.row }
