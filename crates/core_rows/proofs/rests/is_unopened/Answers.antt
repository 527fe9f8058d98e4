use Rattle.std.proofs.Common.{refl}
use Rattle.core_rows.proofs.Queues.{none_opened, some_opened}
use Rattle.core_rows.proofs.rests.is_unopened.Goals as goal

pub returns-in-Some : goal.returns-in-Some
returns-in-Some c =
    let held = c.args.batcher.now in
    let x = c.in-Some.ensures.closable in
    some_opened held.batches _ x.batch x.there

pub returns-in-None : goal.returns-in-None
returns-in-None c = none_opened c.args.batcher.now (c.in-None.ensures.none.0 refl)
