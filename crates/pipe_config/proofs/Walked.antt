-- What the walk of a file without faults says of its values.
use Rattle.std.proofs.Common.{◌≡◌, ℕ, zero, suc, ◌+◌, ◌-◌, ◌/◌, ◌<◌, ◌≤◌, ℤ, pos, negsuc, Bool, true, false, not, cond, nat_le, nat_lt, List, [], ◌∷◌, ◌++◌, length, flat_map, Option, Some, None, option_map, option_and_then, unwrap_or, Ordering, Less, Equal, Greater, nat_cmp, refl, ap, sym, ◌∙◌, subst, arith, ◌&&◌, ◌||◌, ◌==◌, codes, is_none, min, max}
use Rattle.std.proofs.lemmas.Bool.{and_parts, le-leb, leb-true}
use Rattle.std.proofs.lemmas.Bool.Decides.{nat_tests}
use Rattle.std.proofs.lemmas.Map.Text.{is_eq-slice_cmp}
use Rattle.std.proofs.lemmas.Slice.Eq.{bytes_eq-Decides}
use Rattle.std.specs.Ordering.{match_ordering, is_eq}
use Rattle.std.specs.Cmp.Lexicographic.{slice_cmp}
use Rattle.std.specs.List.{list_all}
use Rattle.pipe_types.specs.Sound.{is_between, is_name, is_reason, is_lines, is_control, is_rate}
use Rattle.toml.specs.Data.{Data, Items, no_items, item, Members, no_members, member, get_member, as_integer, as_str, as_array, as_table}
use Rattle.config_table.specs.declared.fault.ConfigFault.{ConfigFault}
use Rattle.config_table.specs.declared.format.FileVersion.{FileVersion}
use Rattle.config_table.specs.declared.format.Key.{Key}
use Rattle.config_table.specs.declared.format.Key.TheVariants as key
use Rattle.config_table.specs.declared.format.Range.{Range}
use Rattle.config_table.specs.declared.format.Row.{Row}
use Rattle.config_table.specs.declared.format.Form.TheVariants.{Text, RuleTexts, SelectTexts}
use Rattle.config_table.specs.declared.format.Shape.TheVariants as shape
use Rattle.config_table.specs.declared.format.Section.{Section}
use Rattle.config_table.specs.declared.format.Section.TheVariants as section
use Rattle.config_table.specs.Fault.{least, sooner, at_place, number_of}
use Rattle.config_table.specs.Format as format
use Rattle.config_table.specs.Format.{key_name, value_at, number, given, given_number, or_default, rows, row, required_row}
use Rattle.config_table.specs.Values.{item_count, item_faults, items_faults, flaw_faults, text_flaw, rules_flaw, select_flaw, inner_faults}
use Rattle.config_table.specs.Shape.{fits}
use Rattle.config_table.specs.declared.format.Shape.{Shape}
use Rattle.config_table.specs.declared.value.Flaw.TheVariants.{OutOfRange}
use Rattle.config_table.specs.Walk.{held_faults, row_faults, rows_faults, unknown_keys, table_faults, each_faults, array_faults, top_faults, rate_need, faults_beside, faults_of}
use Rattle.config_settings.specs.Settings as settings
use Rattle.config_settings.specs.Settings.{texts_in, text_before, table_at, array_at, settings_of, producers_in, producers_at, batchers_in, batchers_at, producer_of, processors_of, supervisor_of, batcher_of, own_limit, reason_of, kind_of, demand_of, pipeline_number}
use Rattle.config_build.specs.Limits.{producer_limits, processor_limits, supervisor_limits, batcher_limits}
use Rattle.pipe_config.specs.Fit.{IsFit, most_fit, seconds_fit, limit_fits, demand_fits, producer_fits, field_fits, processors_fit, supervisor_fits, are_selectors, is_broadcast, selects_fit, batcher_fits}
use Rattle.pipe_config.proofs.Named.{both}
use Rattle.pipe_config.proofs.Distinct.{nothing_left}

-- ---- no fault at all

sooner_some : (x : ConfigFault) (o : Option ConfigFault) → sooner (Some x) o ≡ None → ⊥
sooner_some x None h = cc
sooner_some x (Some y) h = chosen (nat_lt (number_of y) (number_of x)) h
  where
    chosen : (b : Bool) → cond b (Some y) (Some x) ≡ None → ⊥
    chosen true e = cc
    chosen false e = cc

pub least_none : (faults : List ConfigFault) → least faults ≡ None → faults ≡ []
least_none [] h = refl
least_none (x ∷ faults) h = absurd (sooner_some x (least faults) h)

same_bytes : (k l : List ℕ) → slice_cmp nat_cmp k l ≡ Equal → k ≡ l
same_bytes k l e = (bytes_eq-Decides k l).0 (sym (is_eq-slice_cmp k l) ∙ ap is_eq e)

found_here : (v : FileVersion) (n : ℕ) (o : Ordering) (k l : List ℕ) (d e : Data) (found : Option Data) → slice_cmp nat_cmp k l ≡ o → match_ordering o found (Some e) found ≡ Some d → top_faults v n l e ≡ [] → (found ≡ Some d → top_faults v n k d ≡ []) → top_faults v n k d ≡ []
found_here v n Less k l d e found is h clear later = later h
found_here v n Equal k l d e found is h clear later =
    let same : e ≡ d = cc in
    subst (λ (x : List ℕ). top_faults v n x d ≡ []) (sym (same_bytes k l is)) (subst (λ (y : Data). top_faults v n l y ≡ []) same clear)
found_here v n Greater k l d e found is h clear later = later h

-- a key of a file without faults has none
at_key : (v : FileVersion) (n : ℕ) (ms : Members) (k : List ℕ) (d : Data) → faults_beside v n ms ≡ [] → get_member k ms ≡ Some d → top_faults v n k d ≡ []
at_key v n no_members k d clear h = cc
at_key v n (member l e ms) k d clear h =
    let (here, more) = nothing_left (top_faults v n l e) (faults_beside v n ms) clear in
    found_here v n (slice_cmp nat_cmp k l) k l d e (get_member k ms) refl h here (at_key v n ms k d more)

held_table : (v : FileVersion) (n : ℕ) (ms : Members) (k : Key) (s : Section) (o : Option Data) (t : Members) → ((d : Data) → top_faults v n (key_name k) d ≡ table_faults v s (key_name k) (as_table d)) → faults_beside v n ms ≡ [] → value_at k ms ≡ o → option_and_then as_table o ≡ Some t → rows_faults v (key_name k) (rows s t) t ≡ []
held_table v n ms k s None t same clear is h = cc
held_table v n ms k s (Some d) t same clear is h = rw h at (sym (same d) ∙ at_key v n ms (key_name k) d clear is)

held_array : (v : FileVersion) (n : ℕ) (ms : Members) (k : Key) (s : Section) (o : Option Data) (items : Items) → ((d : Data) → top_faults v n (key_name k) d ≡ array_faults v s (key_name k) (as_array d)) → faults_beside v n ms ≡ [] → value_at k ms ≡ o → option_and_then as_array o ≡ Some items → each_faults v s (key_name k) 0 items ≡ []
held_array v n ms k s None items same clear is h = cc
held_array v n ms k s (Some d) items same clear is h = rw h at (sym (same d) ∙ at_key v n ms (key_name k) d clear is)

abbrev RowsClear : FileVersion → List ℕ → Members → List Row → Type 0
RowsClear v path t [] = Unit {0}
RowsClear v path t (r ∷ rows) = (row_faults v path t r ≡ []) × RowsClear v path t rows

rows_clear : (v : FileVersion) (path : List ℕ) (t : Members) (rows : List Row) → flat_map (row_faults v path t) rows ≡ [] → RowsClear v path t rows
rows_clear v path t [] h = tt
rows_clear v path t (r ∷ rows) h = let (here, more) = nothing_left (row_faults v path t r) (flat_map (row_faults v path t) rows) h in (here, rows_clear v path t rows more)

table_clear : (v : FileVersion) (path : List ℕ) (t : Members) (rows : List Row) → rows_faults v path rows t ≡ [] → RowsClear v path t rows
table_clear v path t rows h = rows_clear v path t rows (nothing_left (unknown_keys v path rows t) (flat_map (row_faults v path t) rows) h).1

-- ---- rows

given_text : (sh : Shape) (path : List ℕ) (u : Option (List ℕ)) (rest : List ConfigFault) → flaw_faults path (text_flaw sh u) ++ rest ≡ [] → (text : List ℕ) × ((u ≡ Some text) × (fits sh text ≡ true))
given_text sh path None rest h = cc
given_text sh path (Some text) rest h = fitting (fits sh text) refl h
  where
    fitting : (b : Bool) → fits sh text ≡ b → flaw_faults path (cond b None (Some OutOfRange)) ++ rest ≡ [] → (t : List ℕ) × ((Some text ≡ Some t) × (fits sh t ≡ true))
    fitting true e h = (text, (refl, e))
    fitting false e h = cc

name_clear : (path : List ℕ) (o : Option Data) → held_faults path (required_row key.Name (Text shape.Name)) o ≡ [] → is_name (unwrap_or (option_and_then as_str o) []) ≡ true
name_clear path None h = cc
name_clear path (Some d) h = let (text, (is, fit)) = given_text shape.Name path (as_str d) [] h in rw is fit

control_clear : (path : List ℕ) (o : Option Data) → held_faults path (row key.Control (Text shape.Edge)) o ≡ [] → is_control (option_and_then as_str o) ≡ true
control_clear path None h = refl
control_clear path (Some d) h = let (text, (is, fit)) = given_text shape.Edge path (as_str d) [] h in rw is fit

length-before : (o : Option (List ℕ)) (texts : List (List ℕ)) (n : ℕ) → length texts ≤ n → length (text_before o texts) ≤ n + 1
length-before None texts n h = omega arith
length-before (Some text) texts n h = omega arith

length-texts : (items : Items) → length (texts_in items) ≤ item_count items
length-texts no_items = omega arith
length-texts (item d ds) = length-before (as_str d) (texts_in ds) (item_count ds) (length-texts ds)

few_items : (path : List ℕ) (u : Option Items) (rest : List ConfigFault) → flaw_faults path (rules_flaw u) ++ rest ≡ [] → nat_le (length (unwrap_or (option_map texts_in u) [])) 64 ≡ true
few_items path None rest h = cc
few_items path (Some items) rest h = few (nat_le (item_count items) 64) refl h
  where
    few : (b : Bool) → nat_le (item_count items) 64 ≡ b → flaw_faults path (cond b None (Some OutOfRange)) ++ rest ≡ [] → nat_le (length (texts_in items)) 64 ≡ true
    few true e h = le-leb (length (texts_in items)) 64 (omega (arith, leb-true (item_count items) 64 e, length-texts items))
    few false e h = cc

steps_clear : (path : List ℕ) (o : Option Data) → held_faults path (row key.Steps RuleTexts) o ≡ [] → nat_le (length (unwrap_or (option_map texts_in (option_and_then as_array o)) [])) 64 ≡ true
steps_clear path None h = refl
steps_clear path (Some d) h = few_items path (as_array d) (inner_faults path RuleTexts d) h

-- ---- numbers and words, which are in range as they are read

number_fits : (r : Range) (z : Option ℤ) → is_between r.low r.high r.default ≡ true → is_between r.low r.high (or_default r (given_number r z)) ≡ true
number_fits r None h = h
number_fits r (Some (negsuc n)) h = h
number_fits r (Some (pos n)) h = chosen (is_between r.low r.high n) refl
  where
    chosen : (b : Bool) → is_between r.low r.high n ≡ b → is_between r.low r.high (or_default r (cond b (Some n) None)) ≡ true
    chosen true e = e
    chosen false e = h

number_between : (r : Range) (k : Key) (t : Members) → is_between r.low r.high r.default ≡ true → is_between r.low r.high (number r k t) ≡ true
number_between r k t h = number_fits r (option_and_then as_integer (value_at k t)) h

number_most : (r : Range) (k : Key) (t : Members) → is_between r.low r.high r.default ≡ true → nat_le (number r k t) r.high ≡ true
number_most r k t h = (and_parts (nat_le r.low (number r k t)) (nat_le (number r k t) r.high) (number_between r k t h)).1

field_given : (z : Option ℤ) → field_fits (given_number format.partition_by z) ≡ true
field_given None = refl
field_given (Some (negsuc n)) = refl
field_given (Some (pos n)) = chosen (is_between 0 255 n) refl
  where
    chosen : (b : Bool) → is_between 0 255 n ≡ b → field_fits (cond b (Some n) None) ≡ true
    chosen true e = (and_parts (nat_le 0 n) (nat_le n 255) e).1
    chosen false e = refl

reason_given : (o : Option (List ℕ)) → is_reason (option_and_then reason_of o) ≡ true
reason_given None = refl
reason_given (Some text) = chosen (is_reason (Some text)) refl
  where
    chosen : (b : Bool) → is_reason (Some text) ≡ b → is_reason (cond b (Some text) None) ≡ true
    chosen true e = e
    chosen false e = refl

no_lines : (n : ℕ) → not (is_lines (kind_of n)) ≡ true
no_lines zero = refl
no_lines (suc n) = refl

lt_true : (a b : ℕ) → a < b → nat_lt a b ≡ true
lt_true a b h = grind (arith, nat_tests)

half_fits : (max : ℕ) → 1 ≤ max → is_between 0 (max - 1) (max / 2) ≡ true
half_fits max h = let half : max / 2 ≤ max - 1 = omega arith in both (le-leb 0 (max / 2) (omega arith)) (le-leb (max / 2) (max - 1) half)

-- the demand of a table whose max is in a range from one on
demand_given : (r : Range) (most : ℕ) (t : Members) → r.low ≡ 1 → r.high ≡ most → is_between r.low r.high r.default ≡ true → demand_fits most (demand_of r t) ≡ true
demand_given r most t low high h =
    let max : ℕ = number r key.MaxDemand t in
    let (least_max, most_max) = and_parts (nat_le r.low max) (nat_le max r.high) (number_between r key.MaxDemand t h) in
    let one : 1 ≤ max = omega (arith, leb-true r.low max least_max, low) in
    let below : nat_le (number (format.min_demand max) key.MinDemand t) (max - 1) ≡ true = number_most (format.min_demand max) key.MinDemand t (half_fits max one) in
    let less : number (format.min_demand max) key.MinDemand t < max = omega (arith, leb-true (number (format.min_demand max) key.MinDemand t) (max - 1) below) in
    both (lt_true (number (format.min_demand max) key.MinDemand t) max less) (subst (λ (n : ℕ). nat_le max n ≡ true) high most_max)

-- ---- tables

producer_clear : (v : FileVersion) (path : List ℕ) (t : Members) → rows_faults v path (rows section.Producer t) t ≡ [] → producer_fits (producer_of t) ≡ true
producer_clear v path t h =
    let clear : RowsClear v path t format.producer_rows = table_clear v path t format.producer_rows h in
    both (name_clear _ (value_at key.Name t) clear.1.1.1.1.1.0) (number_most format.buffer_size key.BufferSize t refl)

processors_clear : (v : FileVersion) (path : List ℕ) (t : Members) → rows_faults v path (rows section.Processors t) t ≡ [] → processors_fit (Some (processors_of t)) ≡ true
processors_clear v path t h =
    let clear : RowsClear v path t (format.processors_rows (number format.processors_max key.MaxDemand t)) = table_clear v path t (format.processors_rows (number format.processors_max key.MaxDemand t)) h in
    both (both (number_between format.processors_concurrency key.Concurrency t refl) (field_given (option_and_then as_integer (value_at key.PartitionBy t))))
    (both (demand_given format.processors_max 10000 t refl refl refl)
    (both (no_lines (settings.word shape.Kind key.Kind t))
    (both (steps_clear _ (value_at key.Steps t) clear.1.1.1.1.1.1.1.1.1.0) (reason_given (settings.text_at key.Failed t)))))

supervisor_clear : (v : FileVersion) (path : List ℕ) (t : Members) → rows_faults v path (rows section.Supervisor t) t ≡ [] → supervisor_fits (Some (supervisor_of t)) ≡ true
supervisor_clear v path t h =
    let clear : RowsClear v path t (format.supervisor_rows (number format.supervisor_max key.MaxDemand t)) = table_clear v path t (format.supervisor_rows (number format.supervisor_max key.MaxDemand t)) h in
    both (demand_given format.supervisor_max 16 t refl refl refl)
    (both (no_lines (settings.word shape.Kind key.Kind t))
    (both (steps_clear _ (value_at key.Steps t) clear.1.1.1.1.1.1.1.1.0) (reason_given (settings.text_at key.Failed t))))

wider : (n : ℕ) → is_between 1 10000 n ≡ true → is_between (format.range 1 10000 n).low (format.range 1 10000 n).high (format.range 1 10000 n).default ≡ true
wider n h = h

-- selectors

short_items : (path : List ℕ) (i : ℕ) (items : Items) → item_faults path shape.Selector i items ≡ [] → list_all (λ text. nat_le (length text) 4096) (texts_in items) ≡ true
short_items path i no_items h = refl
short_items path i (item d ds) h =
    let (here, more) = nothing_left (flaw_faults (at_place path i) (text_flaw shape.Selector (as_str d))) (item_faults path shape.Selector (i + 1) ds) h in
    one (as_str d) here (short_items path (i + 1) ds more)
  where
    one : (o : Option (List ℕ)) → flaw_faults (at_place path i) (text_flaw shape.Selector o) ≡ [] → list_all (λ text. nat_le (length text) 4096) (texts_in ds) ≡ true
        → list_all (λ text. nat_le (length text) 4096) (text_before o (texts_in ds)) ≡ true
    one None h rest = rest
    one (Some text) h rest = fitting (nat_le (length text) 4096) refl h
      where
        fitting : (b : Bool) → nat_le (length text) 4096 ≡ b → flaw_faults (at_place path i) (cond b None (Some OutOfRange)) ≡ [] → (nat_le (length text) 4096 && list_all (λ t. nat_le (length t) 4096) (texts_in ds)) ≡ true
        fitting true e k = both e rest
        fitting false e k = cc

cast_given : (o : Option (List ℕ)) → format.is_broadcast_word o ≡ true → is_broadcast (settings.given_dispatch o) ≡ true
cast_given None h = cc
cast_given (Some word) h = (let same : word ≡ codes "broadcast" = (bytes_eq-Decides word (codes "broadcast")).0 h in rw same refl)

selects_clear : (path : List ℕ) (n : ℕ) (t : Members) (o : Option Data) → value_at key.Select t ≡ o → held_faults path (row key.Select (SelectTexts n (format.does_broadcast t))) o ≡ [] → selects_fit (batcher_of t) ≡ true
selects_clear path n t None e h = rw e refl
selects_clear path n t (Some d) e h =
    let (own, inner) = nothing_left (flaw_faults path (select_flaw n (format.does_broadcast t) (as_array d))) (items_faults path shape.Selector (as_array d)) h in
    by (as_array d) refl own inner
  where
    by : (u : Option Items) → as_array d ≡ u → flaw_faults path (select_flaw n (format.does_broadcast t) u) ≡ [] → items_faults path shape.Selector u ≡ [] → selects_fit (batcher_of t) ≡ true
    by None f own inner = cc
    by (Some items) f own inner = fitting (item_count items == n && format.does_broadcast t) refl own
      where
        is : settings.texts_at key.Select t ≡ Some (texts_in items)
        is = ap (λ (x : Option Data). option_map texts_in (option_and_then as_array x)) e ∙ ap (option_map texts_in) f

        fitting : (b : Bool) → (item_count items == n && format.does_broadcast t) ≡ b → flaw_faults path (cond b None (Some OutOfRange)) ≡ [] → selects_fit (batcher_of t) ≡ true
        fitting true k clear =
            let cast : format.does_broadcast t ≡ true = (and_parts (item_count items == n) (format.does_broadcast t) k).1 in
            subst (λ (ts : Option (List (List ℕ))). (are_selectors ts && (is_none ts || is_broadcast (settings.given_dispatch (settings.text_at key.Dispatch t)))) ≡ true) (sym is)
            (both (short_items path 0 items inner) (cast_given (settings.text_at key.Dispatch t) cast))
        fitting false k clear = cc

batcher_clear : (v : FileVersion) (path : List ℕ) (t : Members) → rows_faults v path (rows section.Batcher t) t ≡ [] → batcher_fits (batcher_of t) ≡ true
batcher_clear v path t h =
    let clear : RowsClear v path t (rows section.Batcher t) = table_clear v path t (rows section.Batcher t) h in
    let size : is_between 1 10000 (number format.batch_size key.BatchSize t) ≡ true = number_between format.batch_size key.BatchSize t refl in
    both
    (both (both (name_clear _ (value_at key.Name t) clear.1.1.1.1.1.1.1.1.1.1.1.0) (number_between format.batcher_concurrency key.Concurrency t refl))
    (both (both size (number_between format.batch_timeout key.BatchTimeout t refl))
    (both (demand_given (format.batcher_max t) 10000 t refl refl (wider (number format.batch_size key.BatchSize t) size))
    (both (steps_clear _ (value_at key.Steps t) clear.1.1.1.1.1.1.1.1.1.1.1.1.1.1.0) (reason_given (settings.text_at key.Failed t))))))
    (selects_clear _ (number format.batcher_concurrency key.Concurrency t) t (value_at key.Select t) refl clear.1.1.1.1.1.1.1.1.1.1.1.1.0)

producers_clear : (v : FileVersion) (path : List ℕ) (i : ℕ) (items : Items) → each_faults v section.Producer path i items ≡ [] → list_all producer_fits (producers_in items) ≡ true
producers_clear v path i no_items h = refl
producers_clear v path i (item d ds) h =
    let (here, more) = nothing_left (table_faults v section.Producer (at_place path i) (as_table d)) (each_faults v section.Producer path (i + 1) ds) h in
    one (as_table d) here (producers_clear v path (i + 1) ds more)
  where
    one : (o : Option Members) → table_faults v section.Producer (at_place path i) o ≡ [] → list_all producer_fits (producers_in ds) ≡ true → list_all producer_fits (settings.producer_before o (producers_in ds)) ≡ true
    one None h rest = cc
    one (Some t) h rest = both (producer_clear v (at_place path i) t h) rest

batchers_clear : (v : FileVersion) (path : List ℕ) (i : ℕ) (items : Items) → each_faults v section.Batcher path i items ≡ [] → list_all batcher_fits (batchers_in items) ≡ true
batchers_clear v path i no_items h = refl
batchers_clear v path i (item d ds) h =
    let (here, more) = nothing_left (table_faults v section.Batcher (at_place path i) (as_table d)) (each_faults v section.Batcher path (i + 1) ds) h in
    one (as_table d) here (batchers_clear v path (i + 1) ds more)
  where
    one : (o : Option Members) → table_faults v section.Batcher (at_place path i) o ≡ [] → list_all batcher_fits (batchers_in ds) ≡ true → list_all batcher_fits (settings.batcher_before o (batchers_in ds)) ≡ true
    one None h rest = cc
    one (Some t) h rest = both (batcher_clear v (at_place path i) t h) rest

-- ---- the file

producers_given : (v : FileVersion) (o : Option Items) → ((items : Items) → o ≡ Some items → each_faults v section.Producer (key_name key.Producer) 0 items ≡ []) → list_all producer_fits (producers_at o) ≡ true
producers_given v None h = refl
producers_given v (Some items) h = producers_clear v (key_name key.Producer) 0 items (h items refl)

batchers_given : (v : FileVersion) (o : Option Items) → ((items : Items) → o ≡ Some items → each_faults v section.Batcher (key_name key.Batcher) 0 items ≡ []) → list_all batcher_fits (batchers_at o) ≡ true
batchers_given v None h = refl
batchers_given v (Some items) h = batchers_clear v (key_name key.Batcher) 0 items (h items refl)

processors_given : (v : FileVersion) (o : Option Members) → ((t : Members) → o ≡ Some t → rows_faults v (key_name key.Processors) (rows section.Processors t) t ≡ []) → processors_fit (option_map processors_of o) ≡ true
processors_given v None h = refl
processors_given v (Some t) h = processors_clear v (key_name key.Processors) t (h t refl)

supervisor_given : (v : FileVersion) (o : Option Members) → ((t : Members) → o ≡ Some t → rows_faults v (key_name key.Supervisor) (rows section.Supervisor t) t ≡ []) → supervisor_fits (option_map supervisor_of o) ≡ true
supervisor_given v None h = refl
supervisor_given v (Some t) h = supervisor_clear v (key_name key.Supervisor) t (h t refl)

pipeline_between : (r : Range) (k : Key) (o : Option Members) → is_between r.low r.high r.default ≡ true → is_between r.low r.high (pipeline_number r k o) ≡ true
pipeline_between r k None h = h
pipeline_between r k (Some t) h = number_between r k t h

control_given : (v : FileVersion) (n : ℕ) (o : Option Members) → ((t : Members) → o ≡ Some t → rows_faults v (key_name key.Pipeline) (rows (section.Pipeline n) t) t ≡ []) → is_control (option_and_then (settings.text_at key.Control) o) ≡ true
control_given v n None h = refl
control_given v n (Some t) h = control_clear _ (value_at key.Control t) (table_clear v (key_name key.Pipeline) t (rows (section.Pipeline n) t) (h t refl)).1.1.0

-- limits of their own, which are in range as they are read

most_given : (z : Option ℤ) → most_fit (given_number format.max_restarts z) ≡ true
most_given None = refl
most_given (Some (negsuc n)) = refl
most_given (Some (pos n)) = chosen (is_between 0 1000 n) refl
  where
    chosen : (b : Bool) → is_between 0 1000 n ≡ b → most_fit (cond b (Some n) None) ≡ true
    chosen true e = (and_parts (nat_le 0 n) (nat_le n 1000) e).1
    chosen false e = refl

seconds_given : (z : Option ℤ) → seconds_fit (given_number format.max_seconds z) ≡ true
seconds_given None = refl
seconds_given (Some (negsuc n)) = refl
seconds_given (Some (pos n)) = chosen (is_between 1 3600 n) refl
  where
    chosen : (b : Bool) → is_between 1 3600 n ≡ b → seconds_fit (cond b (Some n) None) ≡ true
    chosen true e = e
    chosen false e = refl

own_given : (t : Members) → limit_fits (own_limit t) ≡ true
own_given t = both (most_given (option_and_then as_integer (value_at key.MaxRestarts t))) (seconds_given (option_and_then as_integer (value_at key.MaxSeconds t)))

producers_own : (items : Items) → list_all limit_fits (producer_limits (producers_in items)) ≡ true
producers_own no_items = refl
producers_own (item d ds) = one (as_table d) (producers_own ds)
  where
    one : (o : Option Members) → list_all limit_fits (producer_limits (producers_in ds)) ≡ true → list_all limit_fits (producer_limits (settings.producer_before o (producers_in ds))) ≡ true
    one None rest = rest
    one (Some t) rest = both (own_given t) rest

batchers_own : (items : Items) → list_all limit_fits (batcher_limits (batchers_in items)) ≡ true
batchers_own no_items = refl
batchers_own (item d ds) = one (as_table d) (batchers_own ds)
  where
    one : (o : Option Members) → list_all limit_fits (batcher_limits (batchers_in ds)) ≡ true → list_all limit_fits (batcher_limits (settings.batcher_before o (batchers_in ds))) ≡ true
    one None rest = rest
    one (Some t) rest = both (own_given t) rest

producers_at_own : (o : Option Items) → list_all limit_fits (producer_limits (producers_at o)) ≡ true
producers_at_own None = refl
producers_at_own (Some items) = producers_own items

batchers_at_own : (o : Option Items) → list_all limit_fits (batcher_limits (batchers_at o)) ≡ true
batchers_at_own None = refl
batchers_at_own (Some items) = batchers_own items

processors_own : (o : Option Members) → list_all limit_fits (processor_limits (option_map processors_of o)) ≡ true
processors_own None = refl
processors_own (Some t) = both (own_given t) refl

supervisor_own : (o : Option Members) → list_all limit_fits (supervisor_limits (option_map supervisor_of o)) ≡ true
supervisor_own None = refl
supervisor_own (Some t) = both (own_given t) refl

-- what is let in, which is enough for every producer as it is read

rate_between : (n k : ℕ) → is_between (min (max n 1) 1000001) 1000000 k ≡ true → (is_between 1 1000000 k && nat_le n k) ≡ true
rate_between n k h =
    let (low, high) = and_parts (nat_le (min (max n 1) 1000001) k) (nat_le k 1000000) h in
    let least : min (max n 1) 1000001 ≤ k = leb-true (min (max n 1) 1000001) k low in
    let most : k ≤ 1000000 = leb-true k 1000000 high in
    both (both (le-leb 1 k (omega (arith, least, most))) high) (le-leb n k (omega (arith, least, most)))

interval_given : (n k : ℕ) (z : Option ℤ) → (is_between 1 1000000 k && nat_le n k) ≡ true → is_rate n (settings.rate_of (Some k) (given_number format.interval z)) ≡ true
interval_given n k None h = refl
interval_given n k (Some (negsuc i)) h = refl
interval_given n k (Some (pos i)) h = chosen (is_between 1 3600000 i) refl
  where
    chosen : (b : Bool) → is_between 1 3600000 i ≡ b → is_rate n (settings.rate_of (Some k) (cond b (Some i) None)) ≡ true
    chosen true e = both h e
    chosen false e = refl

allowed_given : (n : ℕ) (y z : Option ℤ) → is_rate n (settings.rate_of (given_number (format.allowed_messages n) y) (given_number format.interval z)) ≡ true
allowed_given n None z = refl
allowed_given n (Some (negsuc k)) z = refl
allowed_given n (Some (pos k)) z = chosen (is_between (min (max n 1) 1000001) 1000000 k) refl
  where
    chosen : (b : Bool) → is_between (min (max n 1) 1000001) 1000000 k ≡ b → is_rate n (settings.rate_of (cond b (Some k) None) (given_number format.interval z)) ≡ true
    chosen true e = interval_given n k z (rate_between n k e)
    chosen false e = refl

rate_given : (n : ℕ) (o : Option Members) → is_rate n (settings.rate_in n o) ≡ true
rate_given n None = refl
rate_given n (Some t) = allowed_given n (option_and_then as_integer (value_at key.AllowedMessages t)) (option_and_then as_integer (value_at key.Interval t))

most_of : (low high n : ℕ) → is_between low high n ≡ true → nat_le n high ≡ true
most_of low high n h = (and_parts (nat_le low n) (nat_le n high) h).1

-- the settings of a file whose walk finds no fault are in their ranges
pub walked_fits : (v : FileVersion) (table : Members) → least (faults_of v table) ≡ None → IsFit (settings_of table)
walked_fits v table h =
    let clear : faults_of v table ≡ [] = least_none (faults_of v table) h in
    record {
      producers = producers_given v (array_at key.Producer table) (λ items is. held_array v (rate_need table) table key.Producer section.Producer (value_at key.Producer table) items (λ d. refl) clear refl is);
      processors = processors_given v (table_at key.Processors table) (λ t is. held_table v (rate_need table) table key.Processors section.Processors (value_at key.Processors table) t (λ d. refl) clear refl is);
      supervisor = supervisor_given v (table_at key.Supervisor table) (λ t is. held_table v (rate_need table) table key.Supervisor section.Supervisor (value_at key.Supervisor table) t (λ d. refl) clear refl is);
      batchers = batchers_given v (array_at key.Batcher table) (λ items is. held_array v (rate_need table) table key.Batcher section.Batcher (value_at key.Batcher table) items (λ d. refl) clear refl is);
      pipeline = both
          (both (most_of 0 1000 (pipeline_number format.max_restarts key.MaxRestarts (table_at key.Pipeline table)) (pipeline_between format.max_restarts key.MaxRestarts (table_at key.Pipeline table) refl))
          (pipeline_between format.max_seconds key.MaxSeconds (table_at key.Pipeline table) refl))
          (both (most_of 0 1000000 (pipeline_number format.idle_limit key.IdleLimit (table_at key.Pipeline table)) (pipeline_between format.idle_limit key.IdleLimit (table_at key.Pipeline table) refl))
          (control_given v (rate_need table) (table_at key.Pipeline table) (λ t is. held_table v (rate_need table) table key.Pipeline (section.Pipeline (rate_need table)) (value_at key.Pipeline table) t (λ d. refl) clear refl is)));
      limits = both (producers_at_own (array_at key.Producer table)) (both (processors_own (table_at key.Processors table)) (both (supervisor_own (table_at key.Supervisor table)) (batchers_at_own (array_at key.Batcher table))));
      sizes = both (pipeline_between format.record_limit key.RecordLimit (table_at key.Pipeline table) refl) (pipeline_between format.byte_limit key.ByteLimit (table_at key.Pipeline table) refl);
      rate = rate_given (length (producers_at (array_at key.Producer table))) (table_at key.Pipeline table);
    }
