-- One more table's limit behind those of others.
use Rattle.std.proofs.Common.{◌≡◌, ℕ, ◌+◌, ◌<◌, List, [], ◌∷◌, ◌++◌, length, map, drop, get_or, flat_map, append_assoc}
use Rattle.std.proofs.lemmas.List.{drop_more}
use Rattle.pipe_types.specs.declared.topology.RestartLimit.{RestartLimit}
use Rattle.config_settings.specs.declared.settings.ProducerSettings.{ProducerSettings}
use Rattle.config_settings.specs.declared.settings.BatcherSettings.{BatcherSettings}
use Rattle.config_settings.specs.declared.settings.Settings.{Settings}
use Rattle.config_build.specs.Limits.{own_limits, producer_limits, batcher_limits, next_place, places_after}

pub producer_step : (s : Settings) (limits : List RestartLimit) (i : ℕ) (ps : List ProducerSettings) (p : ProducerSettings) → i < length ps → p ≡ get_or ps i p
    → (limits ++ own_limits s p.limit) ++ flat_map (own_limits s) (producer_limits (drop (i + 1) ps)) ≡ limits ++ flat_map (own_limits s) (producer_limits (drop i ps))
producer_step s limits i ps p below at =
    rw (drop_more ps i p below, ← at) (append_assoc limits (own_limits s p.limit) (flat_map (own_limits s) (producer_limits (drop (i + 1) ps))))

pub batcher_step : (s : Settings) (limits : List RestartLimit) (i : ℕ) (bs : List BatcherSettings) (b : BatcherSettings) → i < length bs → b ≡ get_or bs i b
    → (limits ++ own_limits s b.limit) ++ flat_map (own_limits s) (batcher_limits (drop (i + 1) bs)) ≡ limits ++ flat_map (own_limits s) (batcher_limits (drop i bs))
batcher_step s limits i bs b below at =
    rw (drop_more bs i b below, ← at) (append_assoc limits (own_limits s b.limit) (flat_map (own_limits s) (batcher_limits (drop (i + 1) bs))))

pub next_after : (next i : ℕ) (ps : List ProducerSettings) (p : ProducerSettings) → i < length ps → p ≡ get_or ps i p
    → places_after (next_place next p.limit) (producer_limits (drop (i + 1) ps)) ≡ places_after next (producer_limits (drop i ps))
next_after next i ps p below at = rw (drop_more ps i p below, ← at)
