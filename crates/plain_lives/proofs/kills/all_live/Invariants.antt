use Rattle.std.proofs.Common.{◌≡◌, ◌++◌, drop}
use Rattle.pipe_model.specs.Lives.{all_live}
use Rattle.plain_lives.specs.Lives.{live_by}
use Rattle.plain_lives.proofs.kills.all_live.Given as goal

abbrev pub invariant-loop-spec : goal.invariant-loop-spec
invariant-loop-spec l = l.set.items ++ all_live (live_by l.topology l.lives) (drop l.spec-index l.specs) ≡ all_live (live_by l.topology l.lives) l.specs
