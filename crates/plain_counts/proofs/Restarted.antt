-- One step more, and the restarts under a limit that count.
use Rattle.std.proofs.Common.{◌≡◌, ℕ, ◌+◌, ◌∷◌, Bool, true, false, refl}
use Rattle.std.specs.Prelude.{◌==◌, nat_le, if◌then◌else◌}
use Rattle.pipe_types.specs.declared.topology.Topology.{Topology}
use Rattle.pipe_types.specs.declared.step.Step.{Step}
use Rattle.pipe_types.specs.declared.step.Step.TheVariants.{Restart}
use Rattle.pipe_types.specs.Restarts.{restarts_counted}
use Rattle.pipe_model.specs.History.{History, now}
use Rattle.pipe_model.specs.Legal.{limit_of, restart_times}
use Rattle.plain_counts.specs.Limits.{is_under}

pub counted_step : (topology : Topology) (window time l : ℕ) (step : Step) (before : History)
    → (if is_under topology step l then (if nat_le time (now before + window) then restarts_counted window time (restart_times topology before l) + 1 else restarts_counted window time (restart_times topology before l)) else restarts_counted window time (restart_times topology before l))
    ≡ restarts_counted window time (restart_times topology (step ∷ before) l)
counted_step topology window time l (Restart s) before = by (limit_of topology s == l)
  where
    by : (b : Bool)
        → (if b then (if nat_le time (now before + window) then restarts_counted window time (restart_times topology before l) + 1 else restarts_counted window time (restart_times topology before l)) else restarts_counted window time (restart_times topology before l))
        ≡ restarts_counted window time (if b then now before ∷ restart_times topology before l else restart_times topology before l)
    by true = refl
    by false = refl
counted_step topology window time l step before = refl
