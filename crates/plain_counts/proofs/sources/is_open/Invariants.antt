use Rattle.std.proofs.Common.{◌≡◌, take}
use Rattle.pipe_model.specs.History.{history}
use Rattle.pipe_model.specs.Legal.{restart_times}
use Rattle.pipe_types.specs.Restarts.{restarts_counted}
use Rattle.plain_counts.proofs.sources.is_open.Given as goal

abbrev pub invariant-loop-i : goal.invariant-loop-i
invariant-loop-i l = l.count ≡ restarts_counted l.limit.window_ms l.time (restart_times l.topology (history (take l.i l.steps)) l.at)
