-- The table of a file without faults in its places is flat.
use Rattle.std.proofs.Common.{◌≡◌, ℕ, ◌+◌, ℤ, Bool, true, false, ◌||◌, cond, codes, List, [], ◌∷◌, ◌++◌, flat_map, Option, Some, None, option_and_then, is_some, is_none, Ordering, Less, Equal, Greater, String, Global, string_bytes, nat_cmp, refl, ap, sym, ◌∙◌}
use Rattle.std.proofs.lemmas.Bool.{and_parts}
use Rattle.std.proofs.lemmas.Cmp.{nat_list_cmp_total}
use Rattle.std.proofs.lemmas.Slice.Eq.{bytes_eq-Decides}
use Rattle.std.specs.Prelude.{bytes_eq}
use Rattle.std.specs.Cmp.{tied_itself}
use Rattle.std.specs.Cmp.Lexicographic.{slice_cmp}
use Rattle.std.specs.List.{AllByRecursion}
use Rattle.std.specs.List.Sorted.{IsStrictlySortedBy}
use Rattle.std.specs.Map.{keys_of}
use Rattle.std.specs.Ordering.{match_ordering}
use Rattle.std.specs.String.{string_cmp}
use Rattle.toml.specs.Data.{Data, string, integer, array, table, Items, no_items, item, Members, no_members, member, get_member, as_integer, as_str, as_array, as_table}
use Rattle.toml.specs.View.{members_view}
use Rattle.toml.proofs.Views.{Entry}
use Rattle.config_table.specs.declared.fault.ConfigFault.{ConfigFault}
use Rattle.config_table.specs.declared.fault.ConfigFault.TheVariants.{UnknownKey}
use Rattle.config_table.specs.declared.format.FileVersion.{FileVersion}
use Rattle.config_table.specs.declared.format.FileVersion.TheVariants.{Two}
use Rattle.config_table.specs.declared.format.Form.{Form}
use Rattle.config_table.specs.declared.format.Form.TheVariants.{Whole, Text, RuleTexts, SinkTexts, SelectTexts}
use Rattle.config_table.specs.declared.format.Key.TheVariants as key
use Rattle.config_table.specs.declared.format.Range.{Range}
use Rattle.config_table.specs.declared.format.Row.{Row}
use Rattle.config_table.specs.declared.format.Section.{Section}
use Rattle.config_table.specs.declared.format.Section.TheVariants as section
use Rattle.config_table.specs.declared.format.Shape.{Shape}
use Rattle.config_table.specs.declared.format.Shape.TheVariants as shape
use Rattle.config_table.specs.Fault.{under, at_place}
use Rattle.config_table.specs.Format.{has, key_name, value_at, rows}
use Rattle.config_table.specs.Values.{number_flaw, text_flaw, rules_flaw, sinks_flaw, select_flaw, flaw_faults, item_faults, items_faults, value_faults}
use Rattle.config_table.specs.Walk.{is_named, is_known, key_faults, unknown_keys, held_faults, row_faults, rows_faults, table_faults, each_faults, array_faults, top_faults, rate_need, faults_beside, faults_of, version_in, version_of}
use Rattle.pipe_config.specs.Flat.{is_text, are_texts, is_leaf, are_leaves, is_leaf_table, are_leaf_tables, is_part, is_flat, are_distinct, table_is_distinct, tables_are_distinct, part_is_distinct, parts_are_distinct}
use Rattle.pipe_config.proofs.Named.{both}
use Rattle.pipe_config.proofs.Distinct.{nothing_left}
use Rattle.pipe_config.proofs.Upgraded.{same_bytes}

-- ---- the keys of a map, which ascend, are distinct

absent_view : (k : String Global) (es : List Entry) → AllByRecursion (λ y. string_cmp k y ≡ Less) (keys_of es) → is_none (get_member (string_bytes k) (members_view es)) ≡ true
absent_view k [] h = refl
absent_view k (e ∷ es) h = rw h.0 (absent_view k es h.1)

pub distinct_view : (es : List Entry) → IsStrictlySortedBy string_cmp (keys_of es) → are_distinct (members_view es) ≡ true
unfolding IsStrictlySortedBy
distinct_view [] h = refl
distinct_view (e ∷ es) h = both (absent_view e.0 es h.0) (distinct_view es h.1)

-- ---- a value without faults is a leaf

number_there : (path : List ℕ) (range : Range) (o : Option ℤ) (rest : List ConfigFault) → flaw_faults path (number_flaw range o) ++ rest ≡ [] → is_some o ≡ true
number_there path range None rest h = cc
number_there path range (Some z) rest h = refl

text_there : (path : List ℕ) (sh : Shape) (o : Option (List ℕ)) (rest : List ConfigFault) → flaw_faults path (text_flaw sh o) ++ rest ≡ [] → is_some o ≡ true
text_there path sh None rest h = cc
text_there path sh (Some text) rest h = refl

rules_there : (path : List ℕ) (o : Option Items) (rest : List ConfigFault) → flaw_faults path (rules_flaw o) ++ rest ≡ [] → is_some o ≡ true
rules_there path None rest h = cc
rules_there path (Some ds) rest h = refl

sinks_there : (path : List ℕ) (n : ℕ) (o : Option Items) (rest : List ConfigFault) → flaw_faults path (sinks_flaw n o) ++ rest ≡ [] → is_some o ≡ true
sinks_there path n None rest h = cc
sinks_there path n (Some ds) rest h = refl

select_there : (path : List ℕ) (n : ℕ) (casts : Bool) (o : Option Items) (rest : List ConfigFault) → flaw_faults path (select_flaw n casts o) ++ rest ≡ [] → is_some o ≡ true
select_there path n casts None rest h = cc
select_there path n casts (Some ds) rest h = refl

number_leaf : (d : Data) → is_some (as_integer d) ≡ true → is_leaf d ≡ true
number_leaf (integer z) h = refl
number_leaf _ h = cc

is_a_text : (d : Data) → is_some (as_str d) ≡ true → is_text d ≡ true
is_a_text (string text) h = refl
is_a_text _ h = cc

text_leaf : (d : Data) → is_some (as_str d) ≡ true → is_leaf d ≡ true
text_leaf (string text) h = refl
text_leaf _ h = cc

texts_from : (path : List ℕ) (sh : Shape) (i : ℕ) (ds : Items) → item_faults path sh i ds ≡ [] → are_texts ds ≡ true
texts_from path sh i no_items h = refl
texts_from path sh i (item d ds) h =
    let (here, more) = nothing_left (flaw_faults (at_place path i) (text_flaw sh (as_str d))) (item_faults path sh (i + 1) ds) h in
    both (is_a_text d (there (as_str d) here)) (texts_from path sh (i + 1) ds more)
  where
    there : (o : Option (List ℕ)) → flaw_faults (at_place path i) (text_flaw sh o) ≡ [] → is_some o ≡ true
    there None h = cc
    there (Some text) h = refl

array_leaf : (path : List ℕ) (sh : Shape) (d : Data) → is_some (as_array d) ≡ true → items_faults path sh (as_array d) ≡ [] → is_leaf d ≡ true
array_leaf path sh (array ds) is h = texts_from path sh 0 ds h
array_leaf path sh _ is h = cc

value_leaf : (path : List ℕ) (form : Form) (d : Data) → value_faults path form d ≡ [] → is_leaf d ≡ true
value_leaf path (Whole range) d h = number_leaf d (number_there path range (as_integer d) [] h)
value_leaf path (Text sh) d h = text_leaf d (text_there path sh (as_str d) [] h)
value_leaf path RuleTexts d h =
    array_leaf path shape.Rule d (rules_there path (as_array d) (items_faults path shape.Rule (as_array d)) h)
    (nothing_left (flaw_faults path (rules_flaw (as_array d))) (items_faults path shape.Rule (as_array d)) h).1
value_leaf path (SinkTexts n) d h =
    array_leaf path shape.Any d (sinks_there path n (as_array d) (items_faults path shape.Any (as_array d)) h)
    (nothing_left (flaw_faults path (sinks_flaw n (as_array d))) (items_faults path shape.Any (as_array d)) h).1
value_leaf path (SelectTexts n casts) d h =
    array_leaf path shape.Selector d (select_there path n casts (as_array d) (items_faults path shape.Selector (as_array d)) h)
    (nothing_left (flaw_faults path (select_flaw n casts (as_array d))) (items_faults path shape.Selector (as_array d)) h).1

-- ---- a known key holds a leaf

row_leaf : (v : FileVersion) (path : List ℕ) (t : Members) (r : Row) (k : List ℕ) (d : Data) → is_named v k r ≡ true → get_member k t ≡ Some d → row_faults v path t r ≡ [] → is_leaf d ≡ true
row_leaf v path t r k d named found h =
    let (new, same) = and_parts (has v r.since) (bytes_eq (key_name r.key) k) named in
    let is : key_name r.key ≡ k = (bytes_eq-Decides (key_name r.key) k).0 same in
    let at : value_at r.key t ≡ Some d = ap (λ (x : List ℕ). get_member x t) is ∙ found in
    let place : List ℕ = under path (key_name r.key) in
    let held : held_faults place r (value_at r.key t) ≡ [] = sym (ap (λ (b : Bool). cond b (held_faults place r (value_at r.key t)) []) new) ∙ h in
    value_leaf place r.form d (sym (ap (held_faults place r) at) ∙ held)

rows_leaf : (v : FileVersion) (path : List ℕ) (t : Members) (rs : List Row) (k : List ℕ) (d : Data) → is_known v rs k ≡ true → get_member k t ≡ Some d → flat_map (row_faults v path t) rs ≡ [] → is_leaf d ≡ true
rows_leaf v path t [] k d known found h = cc
rows_leaf v path t (r ∷ rs) k d known found h =
    let (here, more) = nothing_left (row_faults v path t r) (flat_map (row_faults v path t) rs) h in
    by (is_named v k r) refl known here (λ later. rows_leaf v path t rs k d later found more)
  where
    by : (b : Bool) → is_named v k r ≡ b → (b || is_known v rs k) ≡ true → row_faults v path t r ≡ [] → (is_known v rs k ≡ true → is_leaf d ≡ true) → is_leaf d ≡ true
    by true e known here later = row_leaf v path t r k d e found here
    by false e known here later = later known

key_known : (v : FileVersion) (path : List ℕ) (rs : List Row) (k : List ℕ) → key_faults v path rs k ≡ [] → is_known v rs k ≡ true
key_known v path rs k h = by (is_known v rs k) refl h
  where
    by : (b : Bool) → is_known v rs k ≡ b → cond b [] (UnknownKey (under path k) ∷ []) ≡ [] → is_known v rs k ≡ true
    by true e h = e
    by false e h = cc

-- ---- a look-up finds each member, as keys are distinct

none_is : (o : Option Data) → is_none o ≡ true → o ≡ None
none_is None h = refl
none_is (Some d) h = cc

found_here : (k : List ℕ) (d : Data) (ms : Members) → get_member k (member k d ms) ≡ Some d
found_here k d ms = rw (tied_itself nat_list_cmp_total k) refl

found_later : (k l : List ℕ) (d e : Data) (ms : Members) → get_member l ms ≡ None → get_member k ms ≡ Some e → get_member k (member l d ms) ≡ Some e
found_later k l d e ms none found = by (slice_cmp nat_cmp k l) refl
  where
    by : (o : Ordering) → slice_cmp nat_cmp k l ≡ o → match_ordering o (get_member k ms) (Some d) (get_member k ms) ≡ Some e
    by Less is = found
    by Equal is = let gone : get_member k ms ≡ None = ap (λ (x : List ℕ). get_member x ms) (same_bytes k l is) ∙ none in cc
    by Greater is = found

leaves_from : (v : FileVersion) (path : List ℕ) (t : Members) (rs : List Row) (ms : Members) → ((k : List ℕ) (d : Data) → get_member k ms ≡ Some d → get_member k t ≡ Some d) → are_distinct ms ≡ true
    → unknown_keys v path rs ms ≡ [] → flat_map (row_faults v path t) rs ≡ [] → are_leaves ms ≡ true
leaves_from v path t rs no_members within once known held = refl
leaves_from v path t rs (member k d ms) within once known held =
    let (new, others) = and_parts (is_none (get_member k ms)) (are_distinct ms) once in
    let (here, more) = nothing_left (key_faults v path rs k) (unknown_keys v path rs ms) known in
    let none : get_member k ms ≡ None = none_is (get_member k ms) new in
    both (rows_leaf v path t rs k d (key_known v path rs k here) (within k d (found_here k d ms)) held)
    (leaves_from v path t rs ms (λ j e found. within j e (found_later j k d e ms none found)) others more held)

table_leaves : (v : FileVersion) (s : Section) (path : List ℕ) (t : Members) → are_distinct t ≡ true → rows_faults v path (rows s t) t ≡ [] → are_leaves t ≡ true
table_leaves v s path t once h =
    let (known, held) = nothing_left (unknown_keys v path (rows s t) t) (flat_map (row_faults v path t) (rows s t)) h in
    leaves_from v path t (rows s t) t (λ k d found. found) once known held

-- ---- what stands at the top

table_part : (v : FileVersion) (s : Section) (path : List ℕ) (d : Data) → part_is_distinct d ≡ true → table_faults v s path (as_table d) ≡ [] → is_part d ≡ true
table_part v s path (table ms) once h = table_leaves v s path ms once h
table_part v s path _ once h = cc

leaf_table : (v : FileVersion) (s : Section) (path : List ℕ) (d : Data) → table_is_distinct d ≡ true → table_faults v s path (as_table d) ≡ [] → is_leaf_table d ≡ true
leaf_table v s path (table ms) once h = table_leaves v s path ms once h
leaf_table v s path _ once h = cc

leaf_tables : (v : FileVersion) (s : Section) (path : List ℕ) (i : ℕ) (ds : Items) → tables_are_distinct ds ≡ true → each_faults v s path i ds ≡ [] → are_leaf_tables ds ≡ true
leaf_tables v s path i no_items once h = refl
leaf_tables v s path i (item d ds) once h =
    let (first, others) = and_parts (table_is_distinct d) (tables_are_distinct ds) once in
    let (here, more) = nothing_left (table_faults v s (at_place path i) (as_table d)) (each_faults v s path (i + 1) ds) h in
    both (leaf_table v s (at_place path i) d first here) (leaf_tables v s path (i + 1) ds others more)

array_part : (v : FileVersion) (s : Section) (path : List ℕ) (d : Data) → part_is_distinct d ≡ true → array_faults v s path (as_array d) ≡ [] → is_part d ≡ true
array_part v s path (array ds) once h = leaf_tables v s path 0 ds once h
array_part v s path _ once h = cc

-- by either branch
branch : {A : Type 0} (b : Bool) {x y : List ConfigFault} → (x ≡ [] → A) → (y ≡ [] → A) → cond b x y ≡ [] → A
branch true f g h = f h
branch false f g h = g h

top_part : (v : FileVersion) (n : ℕ) (k : List ℕ) (d : Data) → part_is_distinct d ≡ true → (k ≡ codes "version" → is_part d ≡ true) → top_faults v n k d ≡ [] → is_part d ≡ true
top_part v n k d once number =
    branch (bytes_eq k (key_name key.Batcher)) (array_part v section.Batcher k d once)
    (branch (bytes_eq k (key_name key.Pipeline)) (table_part v (section.Pipeline n) k d once)
    (branch (bytes_eq k (key_name key.Processors)) (table_part v section.Processors k d once)
    (branch (bytes_eq k (key_name key.Producer)) (array_part v section.Producer k d once)
    (branch (bytes_eq k (key_name key.Supervisor)) (table_part v section.Supervisor k d once)
    (by (bytes_eq k (key_name key.Version)) refl)))))
  where
    by : (b : Bool) → bytes_eq k (key_name key.Version) ≡ b → cond b [] (UnknownKey k ∷ []) ≡ [] → is_part d ≡ true
    by true e h = number ((bytes_eq-Decides k (key_name key.Version)).0 e)
    by false e h = cc

number_part : (v : FileVersion) (d : Data) → version_in (as_integer d) ≡ Some v → is_part d ≡ true
number_part v (integer z) h = refl
number_part v _ h = cc

version_part : (v : FileVersion) (t : Members) → version_of t ≡ Some v → (d : Data) → get_member (codes "version") t ≡ Some d → is_part d ≡ true
version_part v t h d found = number_part v d (sym (ap (λ (o : Option Data). version_in (option_and_then as_integer o)) found) ∙ h)

flat_from : (v : FileVersion) (n : ℕ) (t : Members) → ((d : Data) → get_member (codes "version") t ≡ Some d → is_part d ≡ true) → (ms : Members) → ((k : List ℕ) (d : Data) → get_member k ms ≡ Some d → get_member k t ≡ Some d)
    → are_distinct ms ≡ true → parts_are_distinct ms ≡ true → faults_beside v n ms ≡ [] → is_flat ms ≡ true
flat_from v n t number no_members within once parts clear = refl
flat_from v n t number (member k d ms) within once parts clear =
    let (new, others) = and_parts (is_none (get_member k ms)) (are_distinct ms) once in
    let (part, rest) = and_parts (part_is_distinct d) (parts_are_distinct ms) parts in
    let (here, more) = nothing_left (top_faults v n k d) (faults_beside v n ms) clear in
    let none : get_member k ms ≡ None = none_is (get_member k ms) new in
    both (top_part v n k d part (λ same. number d (ap (λ (x : List ℕ). get_member x t) (sym same) ∙ within k d (found_here k d ms))) here)
    (flat_from v n t number ms (λ j e found. within j e (found_later j k d e ms none found)) others rest more)

-- the table of a file of version 2 without faults in its places is flat
pub flat_table : (t : Members) → are_distinct t ≡ true → parts_are_distinct t ≡ true → version_of t ≡ Some Two → faults_of Two t ≡ [] → is_flat t ≡ true
flat_table t once parts version clear = flat_from Two (rate_need t) t (version_part Two t version) t (λ k d found. found) once parts clear
