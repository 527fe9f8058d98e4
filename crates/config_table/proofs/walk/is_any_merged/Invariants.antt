use Rattle.std.proofs.Common.{◌≡◌, drop}
use Rattle.toml.specs.View.{items_view}
use Rattle.config_table.specs.Walk.{any_merged}
use Rattle.config_table.proofs.walk.is_any_merged.Given as goal

-- the producers before the rest have no merge
abbrev pub invariant-loop-producer : goal.invariant-loop-producer
invariant-loop-producer l = any_merged (items_view l.producers) ≡ any_merged (items_view (drop l.producer-index l.producers))
