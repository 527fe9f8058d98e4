-- The limits on restarts: the pipeline's, and those of tables that have one of their own.
use Rattle.std.specs.Prelude.{ℕ, ◌+◌, ◌*◌, Bool, ◌||◌, List, [], ◌∷◌, ◌++◌, map, flat_map, Option, Some, None, is_some, unwrap_or, if◌then◌else◌}
use Rattle.pipe_types.specs.declared.topology.RestartLimit.{RestartLimit}
use Rattle.config_settings.specs.declared.settings.OwnLimit.{OwnLimit}
use Rattle.config_settings.specs.declared.settings.ProducerSettings.{ProducerSettings}
use Rattle.config_settings.specs.declared.settings.ProcessorSettings.{ProcessorSettings}
use Rattle.config_settings.specs.declared.settings.SupervisorSettings.{SupervisorSettings}
use Rattle.config_settings.specs.declared.settings.BatcherSettings.{BatcherSettings}
use Rattle.config_settings.specs.declared.settings.Settings.{Settings}

-- a table that has one of the two restart keys gives its stages a limit of their own
abbrev pub is_own : OwnLimit → Bool
is_own own = is_some own.max_restarts || is_some own.max_seconds

-- which takes from the pipeline what the table does not give
abbrev pub limit_from : Settings → OwnLimit → RestartLimit
limit_from s own = record { max_restarts = unwrap_or own.max_restarts s.max_restarts; window_ms = unwrap_or own.max_seconds s.max_seconds * 1000 }

abbrev pub own_limits : Settings → OwnLimit → List RestartLimit
own_limits s own = if is_own own then limit_from s own ∷ [] else []

-- ---- the tables in stage order

abbrev pub producer_limits : List ProducerSettings → List OwnLimit
producer_limits = map (λ p. p.limit)

abbrev pub processor_limits : Option ProcessorSettings → List OwnLimit
processor_limits None = []
processor_limits (Some p) = p.limit ∷ []

abbrev pub supervisor_limits : Option SupervisorSettings → List OwnLimit
supervisor_limits None = []
supervisor_limits (Some s) = s.limit ∷ []

abbrev pub batcher_limits : List BatcherSettings → List OwnLimit
batcher_limits = map (λ b. b.limit)

-- the pipeline's limit, which all stages share that have none of their own
abbrev pub pipeline_limit : Settings → RestartLimit
pipeline_limit s = record { max_restarts = s.max_restarts; window_ms = s.max_seconds * 1000 }

-- and behind it the tables' own
abbrev pub limits_of : Settings → List RestartLimit
limits_of s =
    pipeline_limit s
    ∷ (flat_map (own_limits s) (producer_limits s.producers)
    ++ (flat_map (own_limits s) (processor_limits s.processors)
    ++ (flat_map (own_limits s) (supervisor_limits s.supervisor)
    ++ flat_map (own_limits s) (batcher_limits s.batchers))))

-- ---- places among the limits

-- the limit of a table's stages: the next one, or the pipeline's
abbrev pub limit_place : (next : ℕ) → OwnLimit → ℕ
limit_place next own = if is_own own then next else 0

abbrev pub next_place : (next : ℕ) → OwnLimit → ℕ
next_place next own = if is_own own then next + 1 else next

-- the place behind those of tables
abbrev pub places_after : (next : ℕ) → List OwnLimit → ℕ
places_after next [] = next
places_after next (own ∷ owns) = places_after (next_place next own) owns
