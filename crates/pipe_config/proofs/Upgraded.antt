-- A table with version 2 names the topology that it named.
use Rattle.std.proofs.Common.{◌≡◌, ◌≢◌, ℕ, ◌+◌, ◌≤◌, length, ltb, pos, arith, Bool, true, false, not, ◌&&◌, ◌||◌, cond, codes, List, [], ◌∷◌, ◌++◌, flat_map, Option, Some, None, is_some, option_and_then, Result, Ok, Err, Ordering, Less, Equal, Greater, String, Global, string_bytes, nat_cmp, is_eq, refl, ap, sym, ◌∙◌, subst}
use Rattle.std.proofs.lemmas.Bool.{and_parts}
use Rattle.std.proofs.lemmas.Bool.Decides.{nat_tests}
use Rattle.std.specs.Str.{is_utf8}
use Rattle.toml.specs.Parse.{parse_document}
use Rattle.std.proofs.lemmas.Cmp.{nat_list_cmp_total}
use Rattle.std.proofs.lemmas.Map.Text.{is_eq-slice_cmp}
use Rattle.std.proofs.lemmas.Slice.Eq.{bytes_eq-Decides}
use Rattle.std.specs.Prelude.{bytes_eq}
use Rattle.std.specs.BTreeMap.{insert_entry}
use Rattle.std.specs.Cmp.{tied_itself}
use Rattle.std.specs.Cmp.Lexicographic.{slice_cmp}
use Rattle.std.specs.String.{string_cmp}
use Rattle.std.specs.Ordering.{match_ordering}
use Rattle.std.specs.List.{list_all}
use Rattle.pipe_types.specs.declared.topology.Topology.{Topology}
use Rattle.toml.specs.Data.{Data, integer, Items, no_items, item, Members, no_members, member, get_member, as_array, as_table}
use Rattle.toml.specs.View.{view, members_view}
use Rattle.toml.specs.declared.value.Value.{Value}
use Rattle.toml.proofs.Views.{Entry}
use Rattle.config_table.specs.declared.fault.ConfigFault.{ConfigFault}
use Rattle.config_table.specs.declared.fault.ConfigFault.TheVariants.{Version, UnknownKey, OutOfMemory}
use Rattle.config_table.specs.declared.format.FileVersion.{FileVersion}
use Rattle.config_table.specs.declared.format.FileVersion.TheVariants.{One, Two}
use Rattle.config_table.specs.declared.format.Key.TheVariants as key
use Rattle.config_table.specs.declared.format.Row.{Row}
use Rattle.config_table.specs.declared.format.Section.{Section}
use Rattle.config_table.specs.declared.format.Section.TheVariants as section
use Rattle.config_table.specs.Fault.{least, under, at_place}
use Rattle.config_table.specs.Format.{has, key_name, value_at, pipeline_rows, rows}
use Rattle.config_table.specs.Walk.{is_named, is_known, key_faults, unknown_keys, missing_faults, held_faults, row_faults, rows_faults, table_faults, each_faults, array_faults, top_faults, need_in, rate_need, faults_beside, faults_of, version_of}
use Rattle.config_settings.specs.Settings.{settings_of}
use Rattle.pipe_config.specs.File.{unless, judged, topology_by, topology_of, topology_of_table, topology_of_file, IsAccepted}
use Rattle.pipe_config.specs.Upgrade.{set_member, with_version_2, refusal_of, IsUpgrade, IsRefused}
use Rattle.pipe_config.proofs.Distinct.{nothing_left}
use Rattle.pipe_config.proofs.Walked.{least_none}

-- ---- keys

pub same_bytes : (k l : List ℕ) → slice_cmp nat_cmp k l ≡ Equal → k ≡ l
same_bytes k l e = (bytes_eq-Decides k l).0 (sym (is_eq-slice_cmp k l) ∙ ap is_eq e)

-- a look-up passes over another key
pass_by : (o : Ordering) (k l : List ℕ) → slice_cmp nat_cmp k l ≡ o → bytes_eq k l ≡ false → (rest : Option Data) (d : Data) → match_ordering o rest (Some d) rest ≡ rest
pass_by Less k l is other rest d = refl
pass_by Equal k l is other rest d = let same : bytes_eq k l ≡ true = (bytes_eq-Decides k l).1 (same_bytes k l is) in cc
pass_by Greater k l is other rest d = refl

-- the value at another key stays
get_other : (k n : List ℕ) (d : Data) (ms : Members) → bytes_eq k n ≡ false → get_member k (set_member n d ms) ≡ get_member k ms
get_other k n d no_members other = pass_by (slice_cmp nat_cmp k n) k n refl other None d
get_other k n d (member l e ms) other = by_order (slice_cmp nat_cmp n l) refl (get_other k n d ms other)
  where
    by_order : (o : Ordering) → slice_cmp nat_cmp n l ≡ o → get_member k (set_member n d ms) ≡ get_member k ms
        → get_member k (match_ordering o (member n d (member l e ms)) (member l d ms) (member l e (set_member n d ms))) ≡ get_member k (member l e ms)
    by_order Less is later = pass_by (slice_cmp nat_cmp k n) k n refl other (get_member k (member l e ms)) d
    by_order Equal is later =
        let apart : bytes_eq k l ≡ false = subst (λ (x : List ℕ). bytes_eq k x ≡ false) (same_bytes n l is) other in
        pass_by (slice_cmp nat_cmp k l) k l refl apart (get_member k ms) d ∙ sym (pass_by (slice_cmp nat_cmp k l) k l refl apart (get_member k ms) e)
    by_order Greater is later = ap (λ (found : Option Data). match_ordering (slice_cmp nat_cmp k l) found (Some e) found) later

-- the value that was set
get_set : (k : List ℕ) (d : Data) (ms : Members) → get_member k (set_member k d ms) ≡ Some d
get_set k d no_members = rw (tied_itself nat_list_cmp_total k) refl
get_set k d (member l e ms) = by_order (slice_cmp nat_cmp k l) refl (get_set k d ms)
  where
    by_order : (o : Ordering) → slice_cmp nat_cmp k l ≡ o → get_member k (set_member k d ms) ≡ Some d
        → get_member k (match_ordering o (member k d (member l e ms)) (member l d ms) (member l e (set_member k d ms))) ≡ Some d
    by_order Less is later = rw (tied_itself nat_list_cmp_total k) refl
    by_order Equal is later = rw is refl
    by_order Greater is later = rw is later

-- ---- a key that the map of a table is given

match_members : (o : Ordering) (a b c : List Entry) → members_view (match_ordering o a b c) ≡ match_ordering o (members_view a) (members_view b) (members_view c)
match_members Less a b c = refl
match_members Equal a b c = refl
match_members Greater a b c = refl

inserted_view : (es : List Entry) (k : String Global) (v : Value) → members_view (insert_entry string_cmp es k v) ≡ set_member (string_bytes k) (view v) (members_view es)
inserted_view [] k v = refl
inserted_view (e ∷ es) k v =
    match_members (string_cmp k e.0) ((k, v) ∷ e ∷ es) ((e.0, v) ∷ es) (e ∷ insert_entry string_cmp es k v)
    ∙ ap (λ (ms : Members). match_ordering (string_cmp k e.0) (member (string_bytes k) (view v) (members_view (e ∷ es))) (member (string_bytes e.0) (view v) (members_view es)) (member (string_bytes e.0) (view e.1) ms)) (inserted_view es k v)

pub set_view : (es : List Entry) (k : String Global) (v : Value) (name : List ℕ) (d : Data) → string_bytes k ≡ name → view v ≡ d → members_view (insert_entry string_cmp es k v) ≡ set_member name d (members_view es)
set_view es k v name d same seen = rw (← same, ← seen) (inserted_view es k v)

-- ---- what a file of version 1 has, one of version 2 has

lift_cond : (b : Bool) {x y u w : List ConfigFault} → (x ≡ [] → u ≡ []) → (y ≡ [] → w ≡ []) → cond b x y ≡ [] → cond b u w ≡ []
lift_cond true f g h = f h
lift_cond false f g h = g h

lift_append : {x y u w : List ConfigFault} → (x ≡ [] → u ≡ []) → (y ≡ [] → w ≡ []) → x ++ y ≡ [] → u ++ w ≡ []
lift_append {x} {y} f g h = let (here, more) = nothing_left x y h in rw (f here, g more) refl

named_lift : (since : FileVersion) (b : Bool) → (has One since && b) ≡ true → (has Two since && b) ≡ true
named_lift One b h = h
named_lift Two b h = cc

or_lift : (a b c d : Bool) → (a ≡ true → c ≡ true) → (b ≡ true → d ≡ true) → (a || b) ≡ true → (c || d) ≡ true
or_lift true b c d f g h = rw (f refl) refl
or_lift false b true d f g h = refl
or_lift false b false d f g h = g h

known_lift : (rows : List Row) (k : List ℕ) → is_known One rows k ≡ true → is_known Two rows k ≡ true
known_lift [] k h = h
known_lift (r ∷ rows) k h = or_lift (is_named One k r) (is_known One rows k) (is_named Two k r) (is_known Two rows k) (named_lift r.since (bytes_eq (key_name r.key) k)) (known_lift rows k) h

known_here : (path : List ℕ) (rows : List Row) (k : List ℕ) → key_faults One path rows k ≡ [] → is_known One rows k ≡ true
known_here path rows k h = by (is_known One rows k) refl h
  where
    by : (b : Bool) → is_known One rows k ≡ b → cond b [] (UnknownKey (under path k) ∷ []) ≡ [] → is_known One rows k ≡ true
    by true e h = e
    by false e h = cc

unknown_lift : (path : List ℕ) (rows : List Row) (ms : Members) → unknown_keys One path rows ms ≡ [] → unknown_keys Two path rows ms ≡ []
unknown_lift path rows no_members h = h
unknown_lift path rows (member k d ms) h =
    lift_append {x = key_faults One path rows k} {y = unknown_keys One path rows ms} {u = key_faults Two path rows k} {w = unknown_keys Two path rows ms}
    (λ here. rw (known_lift rows k (known_here path rows k here)) refl) (unknown_lift path rows ms) h

-- a key that a file of version 1 does not have is not there
absent : (path : List ℕ) (rows : List Row) (k : List ℕ) (ms : Members) → is_known One rows k ≡ false → unknown_keys One path rows ms ≡ [] → get_member k ms ≡ None
absent path rows k no_members unknown h = refl
absent path rows k (member l e ms) unknown h =
    let (here, more) = nothing_left (key_faults One path rows l) (unknown_keys One path rows ms) h in
    let known : is_known One rows l ≡ true = known_here path rows l here in
    pass_by (slice_cmp nat_cmp k l) k l refl (apart (bytes_eq k l) refl known) (get_member k ms) e ∙ absent path rows k ms unknown more
  where
    apart : (b : Bool) → bytes_eq k l ≡ b → is_known One rows l ≡ true → bytes_eq k l ≡ false
    apart false e known = e
    apart true e known =
        let same : is_known One rows k ≡ is_known One rows l = ap (is_known One rows) ((bytes_eq-Decides k l).0 e) in
        cc

-- a row of version 1, or one that is not required and that version 1 does not have
abbrev is_one : FileVersion → Bool
is_one One = true
is_one Two = false

abbrev is_right : List Row → Row → Bool
is_right all r = is_one r.since || (not r.required && not (is_known One all (key_name r.key)))

not_true : (b : Bool) → not b ≡ true → b ≡ false
not_true true h = cc
not_true false h = refl

abbrev held : List ℕ → Members → Row → List ConfigFault
held path t r = held_faults (under path (key_name r.key)) r (value_at r.key t)

row_lift : (path : List ℕ) (t : Members) (all : List Row) (r : Row) → is_right all r ≡ true → unknown_keys One path all t ≡ [] → row_faults One path t r ≡ [] → row_faults Two path t r ≡ []
row_lift path t all r right unknown h = by r.since refl right h
  where
    later : (not r.required && not (is_known One all (key_name r.key))) ≡ true → held path t r ≡ []
    later e =
        let (free, new) = and_parts (not r.required) (not (is_known One all (key_name r.key))) e in
        let none : value_at r.key t ≡ None = absent path all (key_name r.key) t (not_true (is_known One all (key_name r.key)) new) unknown in
        let optional : r.required ≡ false = not_true r.required free in
        ap (held_faults (under path (key_name r.key)) r) none ∙ ap (missing_faults (under path (key_name r.key))) optional

    by : (since : FileVersion) → r.since ≡ since → (is_one since || (not r.required && not (is_known One all (key_name r.key)))) ≡ true → cond (has One since) (held path t r) [] ≡ [] → cond (has Two r.since) (held path t r) [] ≡ []
    by One e right h = rw e h
    by Two e right h = rw e (later right)

each_lift : (path : List ℕ) (t : Members) (all rest : List Row) → list_all (is_right all) rest ≡ true → unknown_keys One path all t ≡ [] → flat_map (row_faults One path t) rest ≡ [] → flat_map (row_faults Two path t) rest ≡ []
each_lift path t all [] right unknown h = refl
each_lift path t all (r ∷ rest) right unknown h =
    let (here, more) = and_parts (is_right all r) (list_all (is_right all) rest) right in
    lift_append {x = row_faults One path t r} {y = flat_map (row_faults One path t) rest} {u = row_faults Two path t r} {w = flat_map (row_faults Two path t) rest}
    (row_lift path t all r here unknown) (each_lift path t all rest more unknown) h

-- the keys of a rate are not there, and so neither is required
right_pipeline : (n : ℕ) (has_allowed has_interval : Bool) → has_allowed ≡ false → has_interval ≡ false
    → list_all (is_right (pipeline_rows n has_allowed has_interval)) (pipeline_rows n has_allowed has_interval) ≡ true
right_pipeline n false false e f = refl
right_pipeline n true b e f = cc
right_pipeline n false true e f = cc

right_rows : (s : Section) (path : List ℕ) (t : Members) → unknown_keys One path (rows s t) t ≡ [] → list_all (is_right (rows s t)) (rows s t) ≡ true
right_rows (section.Pipeline n) path t h =
    right_pipeline n (is_some (value_at key.AllowedMessages t)) (is_some (value_at key.Interval t)) (ap is_some (absent path (rows (section.Pipeline n) t) (key_name key.AllowedMessages) t refl h))
    (ap is_some (absent path (rows (section.Pipeline n) t) (key_name key.Interval) t refl h))
right_rows _ path t h = refl

rows_lift : (s : Section) (path : List ℕ) (t : Members) → rows_faults One path (rows s t) t ≡ [] → rows_faults Two path (rows s t) t ≡ []
rows_lift s path t h =
    let (unknown, held) = nothing_left (unknown_keys One path (rows s t) t) (flat_map (row_faults One path t) (rows s t)) h in
    rw (unknown_lift path (rows s t) t unknown, each_lift path t (rows s t) (rows s t) (right_rows s path t unknown) unknown held) refl

table_lift : (s : Section) (path : List ℕ) (o : Option Members) → table_faults One s path o ≡ [] → table_faults Two s path o ≡ []
table_lift s path None h = h
table_lift s path (Some t) h = rows_lift s path t h

items_lift : (s : Section) (path : List ℕ) (i : ℕ) (ds : Items) → each_faults One s path i ds ≡ [] → each_faults Two s path i ds ≡ []
items_lift s path i no_items h = h
items_lift s path i (item d ds) h =
    lift_append {x = table_faults One s (at_place path i) (as_table d)} {y = each_faults One s path (i + 1) ds} {u = table_faults Two s (at_place path i) (as_table d)} {w = each_faults Two s path (i + 1) ds}
    (table_lift s (at_place path i) (as_table d)) (items_lift s path (i + 1) ds) h

array_lift : (s : Section) (path : List ℕ) (o : Option Items) → array_faults One s path o ≡ [] → array_faults Two s path o ≡ []
array_lift s path None h = h
array_lift s path (Some ds) h = items_lift s path 0 ds h

top_lift : (n : ℕ) (k : List ℕ) (d : Data) → top_faults One n k d ≡ [] → top_faults Two n k d ≡ []
top_lift n k d =
    lift_cond (bytes_eq k (key_name key.Batcher)) (array_lift section.Batcher k (as_array d))
    (lift_cond (bytes_eq k (key_name key.Pipeline)) (table_lift (section.Pipeline n) k (as_table d))
    (lift_cond (bytes_eq k (key_name key.Processors)) (table_lift section.Processors k (as_table d))
    (lift_cond (bytes_eq k (key_name key.Producer)) (array_lift section.Producer k (as_array d))
    (lift_cond (bytes_eq k (key_name key.Supervisor)) (table_lift section.Supervisor k (as_table d)) (λ h. h)))))

file_lift : (n : ℕ) (ms : Members) → faults_beside One n ms ≡ [] → faults_beside Two n ms ≡ []
file_lift n no_members h = h
file_lift n (member k d ms) h = lift_append {x = top_faults One n k d} {y = faults_beside One n ms} {u = top_faults Two n k d} {w = faults_beside Two n ms} (top_lift n k d) (file_lift n ms) h

any_lift : (v : FileVersion) (ms : Members) → faults_of v ms ≡ [] → faults_of Two ms ≡ []
any_lift One ms h = file_lift (rate_need ms) ms h
any_lift Two ms h = h

-- ---- the table with version 2

set_clear : (n : ℕ) (d : Data) (ms : Members) → faults_beside Two n ms ≡ [] → faults_beside Two n (set_member (codes "version") d ms) ≡ []
set_clear n d no_members h = refl
set_clear n d (member l e ms) h =
    let (here, more) = nothing_left (top_faults Two n l e) (faults_beside Two n ms) h in
    by_order (slice_cmp nat_cmp (codes "version") l) refl here more (set_clear n d ms more)
  where
    by_order : (o : Ordering) → slice_cmp nat_cmp (codes "version") l ≡ o → top_faults Two n l e ≡ [] → faults_beside Two n ms ≡ [] → faults_beside Two n (set_member (codes "version") d ms) ≡ []
        → faults_beside Two n (match_ordering o (member (codes "version") d (member l e ms)) (member l d ms) (member l e (set_member (codes "version") d ms))) ≡ []
    by_order Less is here more later = rw (here, more) refl
    by_order Equal is here more later =
        let none : top_faults Two n l d ≡ [] = subst (λ (x : List ℕ). top_faults Two n x d ≡ []) (same_bytes (codes "version") l is) refl in
        rw (none, more) refl
    by_order Greater is here more later = rw (here, later) refl

settings_stay : (d : Data) (ms : Members) → settings_of (set_member (codes "version") d ms) ≡ settings_of ms
settings_stay d ms =
    rw (
      get_other (codes "pipeline") (codes "version") d ms refl,
      get_other (codes "producer") (codes "version") d ms refl,
      get_other (codes "processors") (codes "version") d ms refl,
      get_other (codes "supervisor") (codes "version") d ms refl,
      get_other (codes "batcher") (codes "version") d ms refl,
    ) refl

pub is_version_2 : (ms : Members) → version_of (with_version_2 ms) ≡ Some Two
is_version_2 ms = rw (get_set (codes "version") (integer (pos 2)) ms) refl

clear_again : (v : FileVersion) (ms : Members) → least (faults_of v ms) ≡ None → faults_of Two (with_version_2 ms) ≡ []
clear_again v ms e =
    let clear : faults_of Two ms ≡ [] = any_lift v ms (least_none (faults_of v ms) e) in
    let same : rate_need (with_version_2 ms) ≡ rate_need ms = ap (λ (o : Option Data). need_in (option_and_then as_array o)) (get_other (codes "producer") (codes "version") (integer (pos 2)) ms refl) in
    ap (λ (n : ℕ). faults_beside Two n (with_version_2 ms)) same ∙ set_clear (rate_need ms) (integer (pos 2)) ms clear

judged_again : (v : FileVersion) (ms : Members) (o : Option ConfigFault) (t : Topology) → least (faults_of v ms) ≡ o → unless o (judged (settings_of ms)) ≡ Ok t → topology_by (Some Two) (with_version_2 ms) ≡ Ok t
judged_again v ms (Some fault) t e h = cc
judged_again v ms None t e h =
    let clear : faults_of Two (with_version_2 ms) ≡ [] = clear_again v ms e in
    ap (λ (faults : List ConfigFault). unless (least faults) (judged (settings_of (with_version_2 ms)))) clear
    ∙ (ap judged (settings_stay (integer (pos 2)) ms) ∙ h)

by_version : (o : Option FileVersion) (ms : Members) (t : Topology) → topology_by o ms ≡ Ok t → topology_by (Some Two) (with_version_2 ms) ≡ Ok t
by_version None ms t h = cc
by_version (Some v) ms t h = judged_again v ms (least (faults_of v ms)) t refl h

-- the topology of the table with version 2 is that of the table
pub upgraded_topology : (ms : Members) (t : Topology) → topology_of ms ≡ Ok t → topology_of (with_version_2 ms) ≡ Ok t
upgraded_topology ms t h = ap (λ (o : Option FileVersion). topology_by o (with_version_2 ms)) (is_version_2 ms) ∙ by_version (version_of ms) ms t h

-- and it has no faults in its places
clear_judged : (v : FileVersion) (ms : Members) (o : Option ConfigFault) (t : Topology) → least (faults_of v ms) ≡ o → unless o (judged (settings_of ms)) ≡ Ok t → faults_of Two (with_version_2 ms) ≡ []
clear_judged v ms (Some fault) t e h = cc
clear_judged v ms None t e h = clear_again v ms e

clear_by : (o : Option FileVersion) (ms : Members) (t : Topology) → topology_by o ms ≡ Ok t → faults_of Two (with_version_2 ms) ≡ []
clear_by None ms t h = cc
clear_by (Some v) ms t h = clear_judged v ms (least (faults_of v ms)) t refl h

pub upgraded_clear : (ms : Members) (t : Topology) → topology_of ms ≡ Ok t → faults_of Two (with_version_2 ms) ≡ []
upgraded_clear ms t h = clear_by (version_of ms) ms t h

-- a text that reads as the table with version 2 names the topology
pub text_topology : (text : List ℕ) (ms : Members) (t : Topology) → is_utf8 text ≡ true → parse_document text ≡ Some (with_version_2 ms) → topology_of ms ≡ Ok t → length text ≤ 1048576 → topology_of_file text ≡ Ok t
text_topology text ms t utf8 read h short =
    let small : ltb 1048576 (length text) ≡ false = grind (arith, nat_tests) in
    rw (small, utf8, read) (upgraded_topology ms t h)

pub upgraded_text : (bytes text : List ℕ) (ms : Members) → IsAccepted bytes ms → is_utf8 text ≡ true → parse_document text ≡ Some (with_version_2 ms) → IsUpgrade bytes text
upgraded_text bytes text ms accepted good read =
    record {
      table = ms;
      topology = accepted.1.0;
      read = accepted.0;
      accepted = ap topology_of_table accepted.0 ∙ accepted.1.1;
      is_text = good;
      reads_as = read;
      same = text_topology text ms accepted.1.0 good read accepted.1.1;
    }

pub refused_as : (expected : Result Topology ConfigFault) (fault : ConfigFault) → (fault ≢ OutOfMemory → expected ≡ Err fault) → IsRefused expected (refusal_of fault)
refused_as expected OutOfMemory h = tt
refused_as expected _ h = (h (λ e. cc), λ e. cc)
