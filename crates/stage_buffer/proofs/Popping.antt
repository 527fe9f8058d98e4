-- The first, or the last, unit of all went.
use Rattle.std.proofs.Common.{◌≡◌, ◌≢◌, ℕ, ◌-◌, ◌<◌, List, [], ◌∷◌, ◌++◌, length, get_or, map, take, drop, refl, ap, sym, subst, ◌∙◌, ⊎_elim, arith, Option, Some, None, option_map, length-append}
use Rattle.std.specs.Prelude.{filter, slice_get}
use Rattle.std.proofs.lemmas.Bool.{cases_eq}
use Rattle.std.proofs.lemmas.List.{length-set, length-map, length-take, take-map, take-append-le, take_all}
use Rattle.std.proofs.lemmas.Option.{slice_get-map}
use Rattle.std.proofs.Math.ListN.{set}
use Rattle.circular_buffer.specs.Buffer.{Buffer, buffer, last_item}
use Rattle.stage_buffer.specs.declared.Arrived.{Arrived}
use Rattle.stage_buffer.specs.Order.{Entry, entry, in_order, items_at, in_part, remove, spare_in, spare_at, Orders, Becomes, KeepsRoom, IsEarliest, IsLatest, front_at, back_at}
use Rattle.stage_buffer.proofs.Ordering.{keeps, in_its_part}
use Rattle.stage_buffer.proofs.Changes.{Changes, up_to_end, removed_here}
use Rattle.stage_buffer.proofs.Ends.{oldest_part, newest_part, some_oldest, some_newest, filter_before, filter_end, part_within, last_of}
use Rattle.stage_buffer.proofs.Rings.{ring_at, changes, becomes, room_kept, pop_becomes}

-- without the last element
cut : (A : Type 0) (xs : List A) (x : A) (n : ℕ) → n ≡ length (xs ++ x ∷ []) → take (n - 1) (xs ++ x ∷ []) ≡ xs
cut A xs x n is =
    let at : n - 1 ≡ length xs = omega (arith, length-append xs (x ∷ [])) in
    ap (λ (k : ℕ). take k (xs ++ x ∷ [])) at ∙ take-append-le (length xs) xs (x ∷ []) (omega arith) ∙ take_all (length xs) xs (omega arith)

module _ {X : Type 0} where
  unit_by : (p : ℕ) (o : Option (Arrived X)) → option_map (λ (e : Entry X). e.unit) (option_map (entry p) o) ≡ option_map (λ (a : Arrived X). a.unit) o
  unit_by p None = refl
  unit_by p (Some a) = refl

  -- a unit of a ring by the list of its part
  unit_from : (rings : List (Buffer (Arrived X))) (es : List (Entry X)) (p i : ℕ) → Orders rings es → option_map (λ (a : Arrived X). a.unit) (slice_get (items_at rings p) i) ≡ option_map (λ (e : Entry X). e.unit) (slice_get (filter (in_part p) es) i)
  unit_from rings es p i orders =
      sym (ap (λ (xs : List (Entry X)). option_map (λ (e : Entry X). e.unit) (slice_get xs i)) (orders.parted p)
      ∙ ap (option_map (λ (e : Entry X). e.unit)) (slice_get-map (entry p) (items_at rings p) i)
      ∙ unit_by p (slice_get (items_at rings p) i))

  -- The first

  first_goes : (rings : List (Buffer (Arrived X))) (es : List (Entry X)) (p n : ℕ) → Orders rings es → IsEarliest (front_at rings) (length rings) (Some (p, n)) → remove p es ≡ drop 1 es
  first_goes rings [] p n orders earliest = refl
  first_goes rings (e ∷ es) p n orders earliest = removed_here p e es (oldest_part rings e es p n orders earliest)

  first_of : (rings : List (Buffer (Arrived X))) (es : List (Entry X)) (p n : ℕ) → Orders rings es → IsEarliest (front_at rings) (length rings) (Some (p, n)) → slice_get (filter (in_part p) es) 0 ≡ slice_get es 0
  first_of rings [] p n orders earliest = refl
  first_of rings (e ∷ es) p n orders earliest = ap (λ (xs : List (Entry X)). slice_get xs 0) (keeps (in_part p) e es (in_its_part p e (oldest_part rings e es p n orders earliest)))

  no_first : (rings : List (Buffer (Arrived X))) (es : List (Entry X)) → Orders rings es → IsEarliest (front_at rings) (length rings) None → es ≡ []
  no_first rings [] orders none = refl
  no_first rings (e ∷ es) orders none = absurd (some_oldest rings e es orders none)

  pub earliest_within : (rings : List (Buffer (Arrived X))) (p n : ℕ) → IsEarliest (front_at rings) (length rings) (Some (p, n)) → p < length rings
  earliest_within rings p n earliest = part_within rings p 0 n earliest.0

  pub first_becomes : (rings : List (Buffer (Arrived X))) (p n : ℕ) (d r : Buffer (Arrived X)) → IsEarliest (front_at rings) (length rings) (Some (p, n)) → d ≡ get_or rings p d → r ≡ buffer (drop 1 d.items) d.capacity → Orders rings (in_order 0 rings) → Becomes rings (set rings p r) (drop 1 (in_order 0 rings))
  first_becomes rings p n d r earliest is changed orders =
      subst (λ (es : List (Entry X)). Becomes rings (set rings p r) es) (first_goes rings (in_order 0 rings) p n orders earliest)
      (pop_becomes rings p d r (earliest_within rings p n earliest) is changed orders)

  pub first_unit : (rings : List (Buffer (Arrived X))) (p n : ℕ) (d : Buffer (Arrived X)) → IsEarliest (front_at rings) (length rings) (Some (p, n)) → d ≡ get_or rings p d → Orders rings (in_order 0 rings) → option_map (λ (a : Arrived X). a.unit) (slice_get d.items 0) ≡ option_map (λ (e : Entry X). e.unit) (slice_get (in_order 0 rings) 0)
  first_unit rings p n d earliest is orders =
      let ring = ring_at rings p d (earliest_within rings p n earliest) is in
      ap (λ (xs : List (Arrived X)). option_map (λ (a : Arrived X). a.unit) (slice_get xs 0)) (sym ring.items)
      ∙ unit_from rings (in_order 0 rings) p 0 orders
      ∙ ap (option_map (λ (e : Entry X). e.unit)) (first_of rings (in_order 0 rings) p n orders earliest)

  pub none_first_becomes : (rings : List (Buffer (Arrived X))) → IsEarliest (front_at rings) (length rings) None → Orders rings (in_order 0 rings) → Becomes rings rings (drop 1 (in_order 0 rings))
  none_first_becomes rings none orders =
      let empty : in_order 0 rings ≡ [] = no_first rings (in_order 0 rings) orders none in
      let same : in_order 0 rings ≡ drop 1 (in_order 0 rings) = empty ∙ sym (ap (drop 1) empty) in
      record { order = same; orders = subst (λ (es : List (Entry X)). Orders rings es) same orders; parts = refl }

  pub none_first_unit : (rings : List (Buffer (Arrived X))) → IsEarliest (front_at rings) (length rings) None → Orders rings (in_order 0 rings) → ◌≡◌ {A = Option X} None (option_map (λ (e : Entry X). e.unit) (slice_get (in_order 0 rings) 0))
  none_first_unit rings none orders =
      sym (ap (λ (es : List (Entry X)). option_map (λ (e : Entry X). e.unit) (slice_get es 0)) (no_first rings (in_order 0 rings) orders none))

  -- The last

  by_end : (es : List (Entry X)) (P : List (Entry X) → Type 0) → P [] → ((xs : List (Entry X)) (e : Entry X) → P (xs ++ e ∷ [])) → P es
  by_end [] P none some = none
  by_end (x ∷ xs) P none some = by_end xs (λ (ys : List (Entry X)). P (x ∷ ys)) (some [] x) (λ ys e. some (x ∷ ys) e)

  -- the rings but for the last unit of all
  without_last : (rings : List (Buffer (Arrived X))) (es : List (Entry X)) (e : Entry X) (p : ℕ) (new : List (Buffer (Arrived X))) → Orders rings (es ++ e ∷ []) → e.part ≡ p → Changes rings new p (take (length (items_at rings p) - 1) (items_at rings p)) → Orders new es
  without_last rings es e p new orders last changes =
      record {
        ascending = (up_to_end es e orders.ascending).0;
        parted = λ q. ⊎_elim (here q) (other q) (cases_eq q p);
      }
    where
      whole : map (entry p) (items_at rings p) ≡ filter (in_part p) es ++ e ∷ []
      whole = sym (orders.parted p) ∙ subst (λ (n : ℕ). filter (in_part n) (es ++ e ∷ []) ≡ filter (in_part n) es ++ e ∷ []) last (filter_end es e)

      here : (q : ℕ) → q ≡ p → filter (in_part q) es ≡ map (entry q) (items_at new q)
      here q same =
          let long : length (items_at rings p) ≡ length (filter (in_part p) es ++ e ∷ []) = sym (length-map (items_at rings p) (entry p)) ∙ ap length whole in
          ap (λ (n : ℕ). filter (in_part n) es) same
          ∙ sym (cut (Entry X) (filter (in_part p) es) e (length (items_at rings p)) long)
          ∙ ap (take (length (items_at rings p) - 1)) (sym whole)
          ∙ take-map (entry p) (length (items_at rings p) - 1) (items_at rings p)
          ∙ ap (map (entry p)) (sym changes.here)
          ∙ ap (λ (n : ℕ). map (entry n) (items_at new n)) (sym same)

      other : (q : ℕ) → q ≢ p → filter (in_part q) es ≡ map (entry q) (items_at new q)
      other q apart =
          sym (filter_before es e q (λ h. apart (sym h ∙ last)))
          ∙ orders.parted q
          ∙ ap (map (entry q)) (sym (changes.others q apart))

  last_orders : (rings : List (Buffer (Arrived X))) (es : List (Entry X)) (p n : ℕ) (new : List (Buffer (Arrived X))) → Orders rings es → IsLatest (back_at rings) (length rings) (Some (p, n)) → Changes rings new p (take (length (items_at rings p) - 1) (items_at rings p)) → Orders new (take (length es - 1) es)
  last_orders rings es p n new =
      by_end es
      (λ (xs : List (Entry X)). Orders rings xs → IsLatest (back_at rings) (length rings) (Some (p, n)) → Changes rings new p (take (length (items_at rings p) - 1) (items_at rings p)) → Orders new (take (length xs - 1) xs))
      (λ orders latest changed. record { ascending = tt; parted = λ q. none q orders changed })
      (λ xs e orders latest changed.
      subst (λ (ys : List (Entry X)). Orders new ys) (sym (cut (Entry X) xs e (length (xs ++ e ∷ [])) refl))
      (without_last rings xs e p new orders (newest_part rings xs e p n orders latest) changed))
    where
      empty : (q : ℕ) → Orders rings [] → items_at rings q ≡ []
      empty q orders = none_mapped (items_at rings q) (orders.parted q)
        where
          none_mapped : (ring : List (Arrived X)) → [] ≡ map (entry q) ring → ring ≡ []
          none_mapped [] h = refl
          none_mapped (a ∷ ring) h = absurd (cc)

      none : (q : ℕ) → Orders rings [] → Changes rings new p (take (length (items_at rings p) - 1) (items_at rings p)) → [] ≡ map (entry q) (items_at new q)
      none q orders changed = sym (ap (map (entry q)) (⊎_elim (here q orders changed) (λ apart. changed.others q apart ∙ empty q orders) (cases_eq q p)))
        where
          here : (q : ℕ) → Orders rings [] → Changes rings new p (take (length (items_at rings p) - 1) (items_at rings p)) → q ≡ p → items_at new q ≡ []
          here q orders changed same =
              ap (items_at new) same ∙ changed.here
              ∙ ap (λ (xs : List (Arrived X)). take (length xs - 1) xs) (empty p orders)

  last_in : (rings : List (Buffer (Arrived X))) (es : List (Entry X)) (p n : ℕ) → Orders rings es → IsLatest (back_at rings) (length rings) (Some (p, n)) → slice_get (filter (in_part p) es) (length (filter (in_part p) es) - 1) ≡ slice_get es (length es - 1)
  last_in rings es p n =
      by_end es
      (λ (xs : List (Entry X)). Orders rings xs → IsLatest (back_at rings) (length rings) (Some (p, n)) → slice_get (filter (in_part p) xs) (length (filter (in_part p) xs) - 1) ≡ slice_get xs (length xs - 1))
      (λ orders latest. refl)
      (λ xs e orders latest.
      let last : e.part ≡ p = newest_part rings xs e p n orders latest in
      ap (λ (ys : List (Entry X)). slice_get ys (length ys - 1)) (subst (λ (k : ℕ). filter (in_part k) (xs ++ e ∷ []) ≡ filter (in_part k) xs ++ e ∷ []) last (filter_end xs e))
      ∙ last_of (filter (in_part p) xs) e
      ∙ sym (last_of xs e))

  no_last : (rings : List (Buffer (Arrived X))) (es : List (Entry X)) → Orders rings es → IsLatest (back_at rings) (length rings) None → es ≡ []
  no_last rings es =
      by_end es (λ (xs : List (Entry X)). Orders rings xs → IsLatest (back_at rings) (length rings) None → xs ≡ [])
      (λ orders none. refl)
      (λ xs e orders none. absurd (some_newest rings xs e orders none))

  pub latest_within : (rings : List (Buffer (Arrived X))) (p n : ℕ) → IsLatest (back_at rings) (length rings) (Some (p, n)) → p < length rings
  latest_within rings p n latest = part_within rings p (length (items_at rings p) - 1) n latest.0

  pub last_becomes : (rings : List (Buffer (Arrived X))) (p n : ℕ) (d r : Buffer (Arrived X)) → IsLatest (back_at rings) (length rings) (Some (p, n)) → d ≡ get_or rings p d → r ≡ buffer (take (length d.items - 1) d.items) d.capacity → Orders rings (in_order 0 rings) → Becomes rings (set rings p r) (take (length (in_order 0 rings) - 1) (in_order 0 rings))
  last_becomes rings p n d r latest is changed orders =
      let within = latest_within rings p n latest in
      let ring = ring_at rings p d within is in
      let items : r.items ≡ take (length (items_at rings p) - 1) (items_at rings p) =
      ap (λ (b : Buffer (Arrived X)). b.items) changed ∙ ap (λ (xs : List (Arrived X)). take (length xs - 1) xs) (sym ring.items) in
      becomes rings (set rings p r) (take (length (in_order 0 rings) - 1) (in_order 0 rings))
      (last_orders rings (in_order 0 rings) p n (set rings p r) orders latest (changes rings p r (take (length (items_at rings p) - 1) (items_at rings p)) within items))
      (length-set rings p r)

  pub last_unit : (rings : List (Buffer (Arrived X))) (p n : ℕ) (d : Buffer (Arrived X)) → IsLatest (back_at rings) (length rings) (Some (p, n)) → d ≡ get_or rings p d → Orders rings (in_order 0 rings) → option_map (λ (a : Arrived X). a.unit) (last_item d.items) ≡ option_map (λ (e : Entry X). e.unit) (slice_get (in_order 0 rings) (length (in_order 0 rings) - 1))
  last_unit rings p n d latest is orders =
      let ring = ring_at rings p d (latest_within rings p n latest) is in
      let long : length (items_at rings p) ≡ length (filter (in_part p) (in_order 0 rings)) = sym (ap length (orders.parted p) ∙ length-map (items_at rings p) (entry p)) in
      ap (λ (xs : List (Arrived X)). option_map (λ (a : Arrived X). a.unit) (last_item xs)) (sym ring.items)
      ∙ unit_from rings (in_order 0 rings) p (length (items_at rings p) - 1) orders
      ∙ ap (λ (k : ℕ). option_map (λ (e : Entry X). e.unit) (slice_get (filter (in_part p) (in_order 0 rings)) (k - 1))) long
      ∙ ap (option_map (λ (e : Entry X). e.unit)) (last_in rings (in_order 0 rings) p n orders latest)

  pub last_room : (rings : List (Buffer (Arrived X))) (p n : ℕ) (d r : Buffer (Arrived X)) → IsLatest (back_at rings) (length rings) (Some (p, n)) → d ≡ get_or rings p d → r ≡ buffer (take (length d.items - 1) d.items) d.capacity → KeepsRoom rings (set rings p r)
  last_room rings p n d r latest is changed =
      let within = latest_within rings p n latest in
      let ring = ring_at rings p d within is in
      let old : spare_at rings p ≡ d.capacity - length d.items = ring.spare in
      let new : spare_in r ≡ d.capacity - length (take (length d.items - 1) d.items) = ap spare_in changed in
      room_kept rings p r within (omega (arith, length-take (length d.items - 1) d.items))

  pub none_last_becomes : (rings : List (Buffer (Arrived X))) → IsLatest (back_at rings) (length rings) None → Orders rings (in_order 0 rings) → Becomes rings rings (take (length (in_order 0 rings) - 1) (in_order 0 rings))
  none_last_becomes rings none orders =
      let empty : in_order 0 rings ≡ [] = no_last rings (in_order 0 rings) orders none in
      let same : in_order 0 rings ≡ take (length (in_order 0 rings) - 1) (in_order 0 rings) = empty ∙ sym (ap (λ (es : List (Entry X)). take (length es - 1) es) empty) in
      record { order = same; orders = subst (λ (es : List (Entry X)). Orders rings es) same orders; parts = refl }

  pub none_last_unit : (rings : List (Buffer (Arrived X))) → IsLatest (back_at rings) (length rings) None → Orders rings (in_order 0 rings) → ◌≡◌ {A = Option X} None (option_map (λ (e : Entry X). e.unit) (slice_get (in_order 0 rings) (length (in_order 0 rings) - 1)))
  none_last_unit rings none orders =
      sym (ap (λ (es : List (Entry X)). option_map (λ (e : Entry X). e.unit) (slice_get es (length es - 1))) (no_last rings (in_order 0 rings) orders none))
