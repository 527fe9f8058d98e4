use Rattle.std.proofs.Common.{◌≡◌, ◌++◌, drop}
use Rattle.toml.specs.View.{items_view}
use Rattle.config_settings.specs.Settings.{batchers_in}
use Rattle.config_settings.proofs.read.batchers_in.Given as goal

abbrev pub invariant-loop-item : goal.invariant-loop-item
invariant-loop-item l = l.batchers.items ++ batchers_in (items_view (drop l.item-index l.items)) ≡ batchers_in (items_view l.items)
