-- One more item of an array.
use Rattle.std.proofs.Common.{◌≡◌, ℕ, ◌+◌, ◌<◌, List, [], ◌∷◌, ◌++◌, length, drop, get_or, Some, None, append_assoc}
use Rattle.toml.specs.Data.{Members, as_str, as_table}
use Rattle.toml.specs.View.{view, items_view}
use Rattle.toml.specs.declared.value.Value.{Value}
use Rattle.toml.proofs.Views.{items_view-drop}
use Rattle.config_settings.specs.declared.settings.ProducerSettings.{ProducerSettings}
use Rattle.config_settings.specs.declared.settings.BatcherSettings.{BatcherSettings}
use Rattle.config_settings.specs.Settings.{texts_in, producer_of, producers_in, batcher_of, batchers_in}

pub text_step : (vs : List Value) (i : ℕ) (v : Value) (found : List (List ℕ)) (text : List ℕ) → i < length vs → v ≡ get_or vs i v → as_str (view v) ≡ Some text
    → (found ++ text ∷ []) ++ texts_in (items_view (drop (i + 1) vs)) ≡ found ++ texts_in (items_view (drop i vs))
text_step vs i v found text below at is =
    rw (items_view-drop vs i v below, ← at, is) (append_assoc found (text ∷ []) (texts_in (items_view (drop (i + 1) vs))))

pub text_skip : (vs : List Value) (i : ℕ) (v : Value) (found : List (List ℕ)) → i < length vs → v ≡ get_or vs i v → as_str (view v) ≡ None
    → found ++ texts_in (items_view (drop (i + 1) vs)) ≡ found ++ texts_in (items_view (drop i vs))
text_skip vs i v found below at is = rw (items_view-drop vs i v below, ← at, is)

pub producer_step : (vs : List Value) (i : ℕ) (v : Value) (found : List ProducerSettings) (producer : ProducerSettings) (table : Members) → i < length vs → v ≡ get_or vs i v → as_table (view v) ≡ Some table → producer ≡ producer_of table
    → (found ++ producer ∷ []) ++ producers_in (items_view (drop (i + 1) vs)) ≡ found ++ producers_in (items_view (drop i vs))
producer_step vs i v found producer table below at is made =
    rw (items_view-drop vs i v below, ← at, is, made) (append_assoc found (producer_of table ∷ []) (producers_in (items_view (drop (i + 1) vs))))

pub producer_skip : (vs : List Value) (i : ℕ) (v : Value) (found : List ProducerSettings) → i < length vs → v ≡ get_or vs i v → as_table (view v) ≡ None
    → found ++ producers_in (items_view (drop (i + 1) vs)) ≡ found ++ producers_in (items_view (drop i vs))
producer_skip vs i v found below at is = rw (items_view-drop vs i v below, ← at, is)

pub batcher_step : (vs : List Value) (i : ℕ) (v : Value) (found : List BatcherSettings) (batcher : BatcherSettings) (table : Members) → i < length vs → v ≡ get_or vs i v → as_table (view v) ≡ Some table → batcher ≡ batcher_of table
    → (found ++ batcher ∷ []) ++ batchers_in (items_view (drop (i + 1) vs)) ≡ found ++ batchers_in (items_view (drop i vs))
batcher_step vs i v found batcher table below at is made =
    rw (items_view-drop vs i v below, ← at, is, made) (append_assoc found (batcher_of table ∷ []) (batchers_in (items_view (drop (i + 1) vs))))

pub batcher_skip : (vs : List Value) (i : ℕ) (v : Value) (found : List BatcherSettings) → i < length vs → v ≡ get_or vs i v → as_table (view v) ≡ None
    → found ++ batchers_in (items_view (drop (i + 1) vs)) ≡ found ++ batchers_in (items_view (drop i vs))
batcher_skip vs i v found below at is = rw (items_view-drop vs i v below, ← at, is)
