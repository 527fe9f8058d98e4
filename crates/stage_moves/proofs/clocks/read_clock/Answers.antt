use Rattle.std.proofs.Common.{◌≤◌, arith}
use Rattle.pipe_model.specs.History.{now}
use Rattle.stage_moves.proofs.Ticking.{tick_may}
use Rattle.stage_moves.proofs.Turning.{tick_waits}
use Rattle.stage_moves.proofs.clocks.read_clock.Goals as goal

pub tick-requires-clause-legal : goal.tick-requires-clause-legal
tick-requires-clause-legal g c =
    tick_may c.args.core.now.topology c.args.core.now.journal.steps c.now-reading.result c.requires.stands.unowed c.requires.going below
  where
    below : now c.args.core.now.journal.steps ≤ c.now-reading.result
    below = let k = c.now.ensures in let h = c.if-reading-now.true in omega (arith, k, h)

pub returns-in_ok-tick-clause-waits : goal.returns-in_ok-tick-clause-waits
returns-in_ok-tick-clause-waits g c =
    let e = c.tick.ensures in
    tick_waits c.args.core.now.topology c.tick.new.core.topology c.args.core.now.journal.steps c.tick.new.core.journal.steps c.now-reading.result c.tick.result c.requires.stands.holds.sound e.topology e.stands.holds.legal e.appended e.unchanged
