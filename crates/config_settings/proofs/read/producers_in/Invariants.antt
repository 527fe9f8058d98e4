use Rattle.std.proofs.Common.{◌≡◌, ◌++◌, drop}
use Rattle.toml.specs.View.{items_view}
use Rattle.config_settings.specs.Settings.{producers_in}
use Rattle.config_settings.proofs.read.producers_in.Given as goal

abbrev pub invariant-loop-item : goal.invariant-loop-item
invariant-loop-item l = l.producers.items ++ producers_in (items_view (drop l.item-index l.items)) ≡ producers_in (items_view l.items)
