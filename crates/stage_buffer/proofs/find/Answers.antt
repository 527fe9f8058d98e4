use Rattle.std.proofs.Common.{arith, ◌∙◌}
use Rattle.stage_buffer.proofs.Rings.{past_item, item_at}
use Rattle.stage_buffer.proofs.find.Goals as goal

pub returns-then-part-rings : goal.returns-then-part-rings
returns-then-part-rings g c = past_item c.args.rings.now c.args.part c.args.at (omega arith)

pub returns : goal.returns
returns g c = c.get.ensures ∙ item_at c.args.rings.now c.args.part c.args.at c.index-rings-part.result (omega arith) c.index-rings-part.is
