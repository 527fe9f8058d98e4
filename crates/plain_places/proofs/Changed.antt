-- Tables after a change, and after a step.
use Rattle.std.proofs.Common.{◌≡◌, ℕ, ◌+◌, ◌-◌, Bool, true, false, List, [], ◌∷◌, ◌++◌, length, map, replicate, Option, Some, None, refl, ap, sym, ◌∙◌}
use Rattle.std.proofs.lemmas.List.{append-nil, length-append, length-map}
use Rattle.std.proofs.lemmas.Option.{slice_get-map}
use Rattle.std.proofs.Math.ListN.{length-replicate}
use Rattle.std.specs.Prelude.{if◌then◌else◌, ◌==◌, nat_lt}
use Rattle.pipe_types.specs.declared.numbers.StageNo.{StageNo}
use Rattle.pipe_types.specs.declared.numbers.SubNo.{SubNo}
use Rattle.pipe_types.specs.declared.topology.Topology.{Topology}
use Rattle.pipe_types.specs.declared.message.Place.{Place}
use Rattle.pipe_types.specs.declared.step.Step.{Step}
use Rattle.pipe_types.specs.declared.step.Step.TheVariants.{Dispatch}
use Rattle.pipe_model.specs.History.{History, accepted, closed}
use Rattle.pipe_model.specs.Batches as model
use Rattle.pipe_model.specs.Flow.{count_on, delivered_to, place_after, batch_after, sent_after, sent_to_after, sends_by, new_batch, accepted_to, place, batch, sent, sent_to}
use Rattle.pipe_laws.proofs.Demand.{count_on-append}
use Rattle.queue_laws.proofs.Delivered.{delivered-append}
use Rattle.plain_queues.specs.declared.tables.BatchRow.{BatchRow}
use Rattle.plain_queues.specs.declared.tables.Tables.{Tables}
use Rattle.plain_queues.specs.Views.{batch_of, place_at, batch_at, view_in}
use Rattle.plain_places.specs.Moves.{PlaceChange, Added, Moved, BatchChange, Closed, BatchesMoved, Stays, moved_by, place_change, place_changed, count_changed, batch_moved, batch_change, batch_changed, closed_changed, sent_by}
use Rattle.plain_places.specs.Rows.{each_from, places_changed, batches_changed}
use Rattle.plain_places.specs.Changes.{PlacesAfter, BatchesAfter}
use Rattle.plain_places.specs.Standing.{TablesStand}
use Rattle.plain_places.proofs.Rows.{at, at_each, at_last, at_added, length_each}
use Rattle.plain_places.proofs.Steps.{place_step, accepted_step, batch_step, closed_step}

place_in_change : (before : History) (change : PlaceChange) (places : List Place) (n : ℕ) → length places ≡ accepted before
    → at (places_changed before change places) n ≡ place_changed before change n (at places n)
place_in_change before (Added k p) places n count = at_added places k p n ∙ ap (λ (m : ℕ). accepted_to m k p n (at places n)) count
place_in_change before (Moved move) places n count = at_each (moved_by before move) places n

places_counted : (before : History) (change : PlaceChange) (places : List Place) → length (places_changed before change places) ≡ count_changed change (length places)
places_counted before (Added k p) places = length-append places (replicate k p) ∙ ap (λ (m : ℕ). length places + m) (length-replicate k p)
places_counted before (Moved move) places = length_each (moved_by before move) 1 places

-- the places after a step
pub places_next : (topology : Topology) (before : History) (tables : Tables) (step : Step) (new : List Place) → length tables.places.items ≡ accepted before
    → new ≡ places_changed before (place_change topology before (view_in tables) step) tables.places.items
    → PlacesAfter topology before (view_in tables) step new
places_next topology before tables step new count is =
    let change : PlaceChange = place_change topology before (view_in tables) step in
    let each : (n : ℕ) → place_at new n ≡ place_after topology before (view_in tables) step n =
    λ n. ap (λ ps. at ps n) is ∙ place_in_change before change tables.places.items n count ∙ sym (place_step topology before (view_in tables) step n) in
    record {
      place = λ i. λ n. each n i;
      accepted = ap length is ∙ places_counted before change tables.places.items ∙ ap (count_changed change) count ∙ sym (accepted_step topology before (view_in tables) step);
    }

-- a batch by its row
row_at : (rows : List BatchRow) (n : ℕ) → batch_at rows n ≡ at (map batch_of rows) n
row_at rows n = ap (λ o. if nat_lt 0 n then o else None) (sym (slice_get-map batch_of rows (n - 1)))

stay_map : (batches : List model.Batch) (before : History) (n : ℕ) → each_from (batch_moved before Stays) n batches ≡ batches
stay_map [] before n = refl
stay_map (x ∷ batches) before n = ap (λ xs. x ∷ xs) (stay_map batches before (n + 1))

made : (b : Bool) (numbers : List ℕ) (s : StageNo) (old : Option model.Batch) → (if b then Some (record { numbers = numbers; place = model.AtBatcher s }) else old) ≡ new_batch b numbers s old
made true numbers s old = refl
made false numbers s old = refl

batch_in_change : (before : History) (change : BatchChange) (batches : List model.Batch) (b : ℕ) → length batches ≡ closed before
    → at (batches_changed before change batches) b ≡ batch_changed before change b (at batches b)
batch_in_change before (Closed numbers s) batches b count =
    let row : model.Batch = record { numbers = numbers; place = model.AtBatcher s } in
    ap (λ xs. at (xs ++ row ∷ []) b) (stay_map batches before 1)
    ∙ at_last batches row b
    ∙ ap (λ (k : ℕ). if b == k + 1 then Some row else at batches b) count
    ∙ made (b == closed before + 1) numbers s (at batches b)
batch_in_change before (BatchesMoved move) batches b count = at_each (batch_moved before move) batches b

batches_counted : (before : History) (change : BatchChange) (batches : List model.Batch) → length (batches_changed before change batches) ≡ closed_changed change (length batches)
batches_counted before (Closed numbers s) batches =
    length-append (each_from (batch_moved before Stays) 1 batches) (record { numbers = numbers; place = model.AtBatcher s } ∷ [])
    ∙ ap (λ (m : ℕ). m + 1) (length_each (batch_moved before Stays) 1 batches)
batches_counted before (BatchesMoved move) batches = length_each (batch_moved before move) 1 batches

-- the batches after a step
pub batches_next : (topology : Topology) (before : History) (tables : Tables) (step : Step) (new : List BatchRow) → length tables.batches.items ≡ closed before
    → map batch_of new ≡ batches_changed before (batch_change topology before (view_in tables) step) (map batch_of tables.batches.items)
    → BatchesAfter topology before (view_in tables) step new
batches_next topology before tables step new count is =
    let old : List model.Batch = map batch_of tables.batches.items in
    let change : BatchChange = batch_change topology before (view_in tables) step in
    let counted : length old ≡ closed before = length-map tables.batches.items batch_of ∙ count in
    let each : (b : ℕ) → batch_at new b ≡ batch_after topology before (view_in tables) step b =
    λ b.
    row_at new b
    ∙ ap (λ rs. at rs b) is
    ∙ batch_in_change before change old b counted
    ∙ ap (batch_changed before change b) (sym (row_at tables.batches.items b))
    ∙ sym (batch_step topology before (view_in tables) step b) in
    record {
      batch = λ i. λ b. each b i;
      closed =
          sym (length-map new batch_of)
          ∙ ap length is
          ∙ batches_counted before change old
          ∙ ap (closed_changed change) counted
          ∙ sym (closed_step topology before (view_in tables) step);
    }

sent_more : (topology : Topology) (before : History) (tables : Tables) (step : Step) (u : SubNo)
    → count_on (tables.sends.items ++ sent_by topology before (view_in tables) step) u ≡ sent_after topology before (view_in tables) step u
sent_more topology before tables (Dispatch s) u = count_on-append tables.sends.items (sends_by topology before (view_in tables) s) u
sent_more topology before tables step u = ap (λ xs. count_on xs u) (append-nil tables.sends.items)

delivered_more : (topology : Topology) (before : History) (tables : Tables) (step : Step) (c : StageNo)
    → delivered_to (tables.sends.items ++ sent_by topology before (view_in tables) step) c ≡ sent_to_after topology before (view_in tables) step c
delivered_more topology before tables (Dispatch s) c = delivered-append tables.sends.items (sends_by topology before (view_in tables) s) c
delivered_more topology before tables step c = ap (λ xs. delivered_to xs c) (append-nil tables.sends.items)

-- the tables after one more step
pub stand_next : (topology : Topology) (before : History) (tables after : Tables) (step : Step) → TablesStand topology before tables
    → BatchesAfter topology before (view_in tables) step after.batches.items
    → PlacesAfter topology before (view_in tables) step after.places.items
    → after.sends.items ≡ tables.sends.items ++ sent_by topology before (view_in tables) step
    → TablesStand topology (step ∷ before) after
stand_next topology before tables after step stand batches places sends =
    let p : (n : ℕ) → place_at after.places.items n ≡ place topology (step ∷ before) n =
    λ n. ap (λ f. f n) places.place ∙ ap (λ v. place_after topology before v step n) stand.view in
    let b : (n : ℕ) → batch_at after.batches.items n ≡ batch topology (step ∷ before) n =
    λ n. ap (λ f. f n) batches.batch ∙ ap (λ v. batch_after topology before v step n) stand.view in
    let s : (u : SubNo) → count_on after.sends.items u ≡ sent topology (step ∷ before) u =
    λ u. ap (λ xs. count_on xs u) sends ∙ sent_more topology before tables step u ∙ ap (λ v. sent_after topology before v step u) stand.view in
    let d : (c : StageNo) → delivered_to after.sends.items c ≡ sent_to topology (step ∷ before) c =
    λ c. ap (λ xs. delivered_to xs c) sends ∙ delivered_more topology before tables step c ∙ ap (λ v. sent_to_after topology before v step c) stand.view in
    record {
      view = λ i. record { place = λ n. p n i; batch = λ n. b n i; sent = λ u. s u i; sent_to = λ c. d c i };
      accepted = places.accepted;
      closed = batches.closed;
    }

either_way : {A : Type 0} (b : Bool) (x : A) → (if b then x else x) ≡ x
either_way true x = refl
either_way false x = refl

-- the tables of an empty history
pub stand_first : (topology : Topology) (tables : Tables) → tables.places.items ≡ [] → tables.batches.items ≡ [] → tables.sends.items ≡ [] → TablesStand topology [] tables
stand_first topology tables places batches sends =
    let p : (n : ℕ) → place_at tables.places.items n ≡ place topology [] n = λ n. ap (λ xs. place_at xs n) places ∙ either_way (nat_lt 0 n) None in
    let b : (n : ℕ) → batch_at tables.batches.items n ≡ batch topology [] n = λ n. ap (λ xs. batch_at xs n) batches ∙ either_way (nat_lt 0 n) None in
    record {
      view = λ i. record { place = λ n. p n i; batch = λ n. b n i; sent = λ u. count_on (sends i) u; sent_to = λ c. delivered_to (sends i) c };
      accepted = ap length places;
      closed = ap length batches;
    }
