use Rattle.std.proofs.Common.{◌≡◌, take}
use Rattle.pipe_model.specs.History.{history}
use Rattle.plain_counts.specs.Fetches.{last_fetch}
use Rattle.plain_counts.proofs.sources.fetch_out.Given as goal

abbrev pub invariant-loop-step : goal.invariant-loop-step
invariant-loop-step l = l.last ≡ last_fetch (history (take l.step-index l.steps)) l.stage
