use Rattle.std.proofs.Common.{◌≡◌, drop}
use Rattle.pipe_model.specs.Lives.{cascade}
use Rattle.plain_lives.specs.Lives.{live_by, generation_by}
use Rattle.plain_lives.proofs.kills.cascade.Given as goal

abbrev pub invariant-loop-spec : goal.invariant-loop-spec
invariant-loop-spec l = cascade l.topology (live_by l.topology l.lives) (generation_by l.lives.renewals.items) l.why (drop l.spec-index l.specs) l.set.items ≡ cascade l.topology (live_by l.topology l.lives) (generation_by l.lives.renewals.items) l.why l.specs l.fn.start.items
