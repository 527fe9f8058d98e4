use Rattle.std.proofs.Common.{◌≡◌, drop}
use Rattle.std.specs.Prelude.{find, is_some, ◌&&◌}
use Rattle.pipe_types.specs.Stages.{feeds}
use Rattle.pipe_model.specs.Lives.{reason_in}
use Rattle.plain_lives.specs.Lives.{live_by}
use Rattle.plain_lives.proofs.kills.killed_feeder.Given as goal

abbrev pub invariant-loop-spec : goal.invariant-loop-spec
invariant-loop-spec l = find (λ p. is_some (reason_in l.set p.no) && (live_by l.topology l.lives p.no && feeds l.topology p.no l.consumer)) (drop l.spec-index l.specs) ≡ find (λ p. is_some (reason_in l.set p.no) && (live_by l.topology l.lives p.no && feeds l.topology p.no l.consumer)) l.specs
