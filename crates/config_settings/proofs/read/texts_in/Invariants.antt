use Rattle.std.proofs.Common.{◌≡◌, ◌++◌, drop}
use Rattle.toml.specs.View.{items_view}
use Rattle.config_settings.specs.Settings.{texts_in}
use Rattle.config_settings.proofs.read.texts_in.Given as goal

abbrev pub invariant-loop-item : goal.invariant-loop-item
invariant-loop-item l = l.texts.items ++ texts_in (items_view (drop l.item-index l.items)) ≡ texts_in (items_view l.items)
