use Rattle.std.proofs.Common.{◌≡◌, ◌++◌, drop, map}
use Rattle.pipe_model.specs.History.{history}
use Rattle.pipe_replay.specs.Rows.{life_of}
use Rattle.pipe_replay.proofs.lives.life_rows.Given as goal

abbrev pub invariant-loop-spec : goal.invariant-loop-spec
invariant-loop-spec l = l.rows.items ++ map (life_of l.past.topology.now (history l.past.steps.now)) (drop l.spec-index l.specs) ≡ map (life_of l.past.topology.now (history l.past.steps.now)) l.specs
