-- An array's items beside the list that they stand for.
use Rattle.std.proofs.Common.{◌≡◌, ℕ, ◌+◌, ◌<◌, ◌≤◌, Bool, true, false, List, [], ◌∷◌, length, drop, get_or, flat_map, string_bytes, Option, refl, ap, ◌∙◌, arith}
use Rattle.std.specs.Prelude.{◌||◌}
use Rattle.std.proofs.lemmas.List.{drop_more, at_drop_all}
use Rattle.toml.specs.Data.{Members, as_str, as_table}
use Rattle.toml.specs.View.{view, items_view, members_view}
use Rattle.toml.specs.declared.value.Value.{Value}
use Rattle.toml.proofs.Views.{Entry, items_view-drop}
use Rattle.config_table.specs.declared.fault.ConfigFault.{ConfigFault}
use Rattle.config_table.specs.declared.format.FileVersion.{FileVersion}
use Rattle.config_table.specs.declared.format.Shape.{Shape}
use Rattle.config_table.specs.declared.format.Section.{Section}
use Rattle.config_table.specs.declared.format.Row.{Row}
use Rattle.config_table.specs.Fault.{least, sooner, at_place}
use Rattle.config_table.specs.Values.{item_count, flaw_faults, text_flaw, item_faults}
use Rattle.config_table.specs.Walk.{table_faults, each_faults, row_faults, key_faults, unknown_keys, top_faults, faults_beside, is_merged_in, any_merged}
use Rattle.config_table.proofs.Least.{sooner-part}

pub count_lemma : (vs : List Value) → item_count (items_view vs) ≡ length vs
count_lemma [] = refl
count_lemma (v ∷ vs) = omega (arith, count_lemma vs)

-- one more text of an array
pub item_step : (path : List ℕ) (shape : Shape) (i : ℕ) (vs : List Value) (v : Value) (found fault : Option ConfigFault)
    → i < length vs → v ≡ get_or vs i v → fault ≡ least (flaw_faults (at_place path i) (text_flaw shape (as_str (view v))))
    → sooner (sooner found fault) (least (item_faults path shape (i + 1) (items_view (drop (i + 1) vs)))) ≡ sooner found (least (item_faults path shape i (items_view (drop i vs))))
item_step path shape i vs v found fault below at is =
    rw (items_view-drop vs i v below, ← at, is)
    (sooner-part found (flaw_faults (at_place path i) (text_flaw shape (as_str (view v)))) (item_faults path shape (i + 1) (items_view (drop (i + 1) vs))))

-- one more table of an array
pub each_step : (version : FileVersion) (section : Section) (path : List ℕ) (i : ℕ) (vs : List Value) (v : Value) (found fault : Option ConfigFault)
    → i < length vs → v ≡ get_or vs i v → fault ≡ least (table_faults version section (at_place path i) (as_table (view v)))
    → sooner (sooner found fault) (least (each_faults version section path (i + 1) (items_view (drop (i + 1) vs)))) ≡ sooner found (least (each_faults version section path i (items_view (drop i vs))))
each_step version section path i vs v found fault below at is =
    rw (items_view-drop vs i v below, ← at, is)
    (sooner-part found (table_faults version section (at_place path i) (as_table (view v))) (each_faults version section path (i + 1) (items_view (drop (i + 1) vs))))

-- one more row of a table
pub row_step : (version : FileVersion) (path : List ℕ) (table : Members) (i : ℕ) (rows : List Row) (r : Row) (found fault : Option ConfigFault)
    → i < length rows → fault ≡ least (row_faults version path table (get_or rows i r))
    → sooner (sooner found fault) (least (flat_map (row_faults version path table) (drop (i + 1) rows))) ≡ sooner found (least (flat_map (row_faults version path table) (drop i rows)))
row_step version path table i rows r found fault below is =
    rw (drop_more rows i r below, is)
    (sooner-part found (row_faults version path table (get_or rows i r)) (flat_map (row_faults version path table) (drop (i + 1) rows)))

-- one more key of a table
pub unknown_step : (version : FileVersion) (path : List ℕ) (rows : List Row) (left rest : List Entry) (e : Entry) (found fault total : Option ConfigFault)
    → left ≡ e ∷ rest → fault ≡ least (key_faults version path rows (string_bytes e.0))
    → sooner found (least (unknown_keys version path rows (members_view left))) ≡ total
    → sooner (sooner found fault) (least (unknown_keys version path rows (members_view rest))) ≡ total
unknown_step version path rows left rest e found fault total same is so_far =
    rw is (sooner-part found (key_faults version path rows (string_bytes e.0)) (unknown_keys version path rows (members_view rest)) ∙ rw same at so_far)

-- one more key of the file
pub top_step : (version : FileVersion) (producers : ℕ) (left rest : List Entry) (e : Entry) (found fault total : Option ConfigFault)
    → left ≡ e ∷ rest → fault ≡ least (top_faults version producers (string_bytes e.0) (view e.1))
    → sooner found (least (faults_beside version producers (members_view left))) ≡ total
    → sooner (sooner found fault) (least (faults_beside version producers (members_view rest))) ≡ total
top_step version producers left rest e found fault total same is so_far =
    rw is (sooner-part found (top_faults version producers (string_bytes e.0) (view e.1)) (faults_beside version producers (members_view rest)) ∙ rw same at so_far)

merged_at : (i : ℕ) (vs : List Value) (v : Value) → i < length vs → v ≡ get_or vs i v → any_merged (items_view (drop i vs)) ≡ (is_merged_in (as_table (view v)) || any_merged (items_view (drop (i + 1) vs)))
merged_at i vs v below at = rw (items_view-drop vs i v below, ← at) refl

-- a producer without a merge
pub merged_next : (i : ℕ) (vs : List Value) (v : Value) → i < length vs → v ≡ get_or vs i v → is_merged_in (as_table (view v)) ≡ false → any_merged (items_view (drop i vs)) ≡ any_merged (items_view (drop (i + 1) vs))
merged_next i vs v below at is = merged_at i vs v below at ∙ ap (λ (b : Bool). b || any_merged (items_view (drop (i + 1) vs))) is

pub merged_here : (i : ℕ) (vs : List Value) (v : Value) → i < length vs → v ≡ get_or vs i v → is_merged_in (as_table (view v)) ≡ true → any_merged (items_view (drop i vs)) ≡ true
merged_here i vs v below at is = merged_at i vs v below at ∙ ap (λ (b : Bool). b || any_merged (items_view (drop (i + 1) vs))) is

pub merged_none : (i : ℕ) (vs : List Value) → length vs ≤ i → any_merged (items_view (drop i vs)) ≡ false
merged_none i vs all = at_drop_all (λ (left : List Value). any_merged (items_view left)) vs i all
