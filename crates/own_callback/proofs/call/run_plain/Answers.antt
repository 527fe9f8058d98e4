use Rattle.std.proofs.Common.{map}
use Rattle.own_callback.proofs.PlainText.{came_plain}
use Rattle.own_callback.proofs.call.run_plain.Goals as goal

pub returns : goal.returns
returns g c = record { plain = came_plain g.C.Boxed.seen (map g.C.Boxed.seen c.args.stock.items) c.run_with.result c.run_with.ensures.counted }
