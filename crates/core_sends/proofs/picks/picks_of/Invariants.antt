use Rattle.std.proofs.Common.{◌≡◌, ◌++◌, drop, take}
use Rattle.pipe_model.specs.Flow.{picks_by, view_of, waiting}
use Rattle.core_sends.specs.Picks.{picks_list}
use Rattle.core_sends.proofs.picks.picks_of.Given as goal

abbrev pub invariant-loop-k : goal.invariant-loop-k
invariant-loop-k l =
    l.picks.items ++ picks_list (picks_by l.core.topology l.core.journal.steps (view_of l.core.topology l.core.journal.steps)) l.rooms (drop l.k (take l.fn.count (waiting l.core.topology l.core.journal.steps l.fn.stage)))
    ≡ picks_list (picks_by l.core.topology l.core.journal.steps (view_of l.core.topology l.core.journal.steps)) l.rooms (take l.fn.count (waiting l.core.topology l.core.journal.steps l.fn.stage))
