use Rattle.std.proofs.Common.{◌≡◌, ◌++◌, drop}
use Rattle.pipe_model.specs.History.{history}
use Rattle.pipe_model.specs.Lives.{live_subs_from}
use Rattle.plain_lives.proofs.past.Past.live_subs.Given as goal

abbrev pub invariant-loop-spec : goal.invariant-loop-spec
invariant-loop-spec l = l.subs.items ++ live_subs_from l.self.topology.now (history l.self.steps.now) l.stage (drop l.spec-index l.specs) ≡ live_subs_from l.self.topology.now (history l.self.steps.now) l.stage l.specs
