-- What a change of one ring makes of all.
use Rattle.std.proofs.Common.{◌≡◌, ◌≢◌, ℕ, zero, suc, ◌+◌, ◌-◌, ◌<◌, ◌≤◌, List, [], ◌∷◌, ◌++◌, length, get_or, map, drop, refl, ap, sym, subst, ◌∙◌, ⊎_elim, arith, None, length-append}
use Rattle.std.specs.Prelude.{filter, slice_get, if◌then◌else◌, ◌==◌}
use Rattle.std.proofs.lemmas.Bool.{cases_eq, eq-eqb, cond-true}
use Rattle.std.proofs.lemmas.List.{length-set, length-drop}
use Rattle.std.proofs.Math.ListN.{set}
use Rattle.circular_buffer.specs.Buffer.{Buffer, buffer, keep_last}
use Rattle.stage_buffer.specs.declared.Arrived.{Arrived}
use Rattle.stage_buffer.specs.Order.{Entry, entry, insert_all, in_order, items_at, in_part, remove, spare_in, spare_at, AreBelow, Orders, Becomes, KeepsRoom, HoldsSame}
use Rattle.stage_buffer.proofs.Ordering.{ordered}
use Rattle.stage_buffer.proofs.Changes.{Changes, changes_set, came, went, nothing_removed, items_past}

module _ {X : Type 0} where
  pub becomes : (rings new : List (Buffer (Arrived X))) (es : List (Entry X)) → Orders new es → length new ≡ length rings → Becomes rings new es
  becomes rings new es orders parts = record { order = ordered new es orders; orders = orders; parts = parts }

  spare_here : (rings : List (Buffer (Arrived X))) (p : ℕ) (ring : Buffer (Arrived X)) → p < length rings → spare_at (set rings p ring) p ≡ spare_in ring
  spare_here [] p ring within = absurd (omega arith)
  spare_here (r ∷ rings) zero ring within = refl
  spare_here (r ∷ rings) (suc p) ring within = spare_here rings p ring (omega arith)

  spare_other : (rings : List (Buffer (Arrived X))) (p q : ℕ) (ring : Buffer (Arrived X)) → q ≢ p → spare_at (set rings p ring) q ≡ spare_at rings q
  spare_other [] p q ring apart = refl
  spare_other (r ∷ rings) zero zero ring apart = absurd (apart refl)
  spare_other (r ∷ rings) zero (suc q) ring apart = refl
  spare_other (r ∷ rings) (suc p) zero ring apart = refl
  spare_other (r ∷ rings) (suc p) (suc q) ring apart = spare_other rings p q ring (λ e. apart (ap suc e))

  room_within : (rings : List (Buffer (Arrived X))) (p : ℕ) → 1 ≤ spare_at rings p → p < length rings
  room_within [] p h = absurd (omega arith)
  room_within (r ∷ rings) zero h = omega arith
  room_within (r ∷ rings) (suc p) h = let rest = room_within rings p h in omega arith

  -- a ring by its place
  pub record IsRing (rings : List (Buffer (Arrived X))) (p : ℕ) (d : Buffer (Arrived X)) : Type 0 where
    pub items : items_at rings p ≡ d.items
    pub spare : spare_at rings p ≡ spare_in d

  pub ring_at : (rings : List (Buffer (Arrived X))) (p : ℕ) (d : Buffer (Arrived X)) → p < length rings → d ≡ get_or rings p d → IsRing rings p d
  ring_at rings p d within is = record { items = items rings p within ∙ ap (λ (b : Buffer (Arrived X)). b.items) (sym is); spare = spare rings p within ∙ ap spare_in (sym is) }
    where
      items : (rings : List (Buffer (Arrived X))) (p : ℕ) → p < length rings → items_at rings p ≡ (get_or rings p d).items
      items [] p within = absurd (omega arith)
      items (r ∷ rings) zero within = refl
      items (r ∷ rings) (suc p) within = items rings p (omega arith)

      spare : (rings : List (Buffer (Arrived X))) (p : ℕ) → p < length rings → spare_at rings p ≡ spare_in (get_or rings p d)
      spare [] p within = absurd (omega arith)
      spare (r ∷ rings) zero within = refl
      spare (r ∷ rings) (suc p) within = spare rings p (omega arith)

  pub changes : (rings : List (Buffer (Arrived X))) (p : ℕ) (ring : Buffer (Arrived X)) (items : List (Arrived X)) → p < length rings → ring.items ≡ items → Changes rings (set rings p ring) p items
  changes rings p ring items within is =
      let at = changes_set rings p ring within in
      record { here = at.here ∙ is; others = at.others }

  pub room_kept : (rings : List (Buffer (Arrived X))) (p : ℕ) (ring : Buffer (Arrived X)) → p < length rings → spare_at rings p ≤ spare_in ring → KeepsRoom rings (set rings p ring)
  room_kept rings p ring within more = record { room = λ q. ⊎_elim (here q) (other q) (cases_eq q p) }
    where
      here : (q : ℕ) → q ≡ p → spare_at rings q ≤ spare_at (set rings p ring) q
      here q same =
          let old : spare_at rings q ≡ spare_at rings p = ap (spare_at rings) same in
          let new : spare_at (set rings p ring) q ≡ spare_in ring = ap (spare_at (set rings p ring)) same ∙ spare_here rings p ring within in
          omega arith

      other : (q : ℕ) → q ≢ p → spare_at rings q ≤ spare_at (set rings p ring) q
      other q apart = let same = spare_other rings p q ring apart in omega arith

  -- A unit came

  fits : (cap : ℕ) (items : List (Arrived X)) (a : Arrived X) → length items < cap → keep_last cap (items ++ a ∷ []) ≡ items ++ a ∷ []
  fits cap items a room =
      let none : length (items ++ a ∷ []) - cap ≡ 0 = omega (arith, length-append items (a ∷ [])) in
      ap (λ (n : ℕ). drop n (items ++ a ∷ [])) none

  pub put_becomes : (rings : List (Buffer (Arrived X))) (p : ℕ) (d r : Buffer (Arrived X)) (a : Arrived X) → 1 ≤ spare_at rings p → d ≡ get_or rings p d → r ≡ buffer (keep_last d.capacity (d.items ++ a ∷ [])) d.capacity → Orders rings (in_order 0 rings) → AreBelow a.at (in_order 0 rings) → Becomes rings (set rings p r) (in_order 0 rings ++ entry p a ∷ [])
  put_becomes rings p d r a room is changed orders below =
      let within = room_within rings p room in
      let ring = ring_at rings p d within is in
      let free : length d.items < d.capacity = let s : spare_at rings p ≡ d.capacity - length d.items = ring.spare in omega arith in
      let items : r.items ≡ items_at rings p ++ a ∷ [] =
      ap (λ (b : Buffer (Arrived X)). b.items) changed ∙ fits d.capacity d.items a free ∙ ap (λ (xs : List (Arrived X)). xs ++ a ∷ []) (sym ring.items) in
      becomes rings (set rings p r) (in_order 0 rings ++ entry p a ∷ [])
      (came rings (set rings p r) (in_order 0 rings) p a orders below (changes rings p r (items_at rings p ++ a ∷ []) within items))
      (length-set rings p r)

  pub put_room : (rings : List (Buffer (Arrived X))) (p : ℕ) (d r : Buffer (Arrived X)) (a : Arrived X) → 1 ≤ spare_at rings p → d ≡ get_or rings p d → r ≡ buffer (keep_last d.capacity (d.items ++ a ∷ [])) d.capacity → (q : ℕ) → spare_at rings q ≤ spare_at (set rings p r) q + (if q == p then 1 else 0)
  put_room rings p d r a room is changed q = ⊎_elim here other (cases_eq q p)
    where
      here : q ≡ p → spare_at rings q ≤ spare_at (set rings p r) q + (if q == p then 1 else 0)
      here same =
          let within = room_within rings p room in
          let ring = ring_at rings p d within is in
          let old : spare_at rings q ≡ d.capacity - length d.items = ap (spare_at rings) same ∙ ring.spare in
          let free : length d.items < d.capacity = let s : spare_at rings p ≡ d.capacity - length d.items = ring.spare in omega arith in
          let left : spare_in r ≡ d.capacity - length (d.items ++ a ∷ []) =
          ap spare_in changed ∙ ap (λ (xs : List (Arrived X)). d.capacity - length xs) (fits d.capacity d.items a free) in
          let new : spare_at (set rings p r) q ≡ spare_in r = ap (spare_at (set rings p r)) same ∙ spare_here rings p r within in
          let one : ◌≡◌ {A = ℕ} (if q == p then 1 else 0) 1 = cond-true {A = ℕ} (q == p) 1 0 (eq-eqb q p same) in
          omega (arith, length-append d.items (a ∷ []))

      other : q ≢ p → spare_at rings q ≤ spare_at (set rings p r) q + (if q == p then 1 else 0)
      other apart =
          let same = spare_other rings p q r apart in
          omega arith

  -- The first unit of a part went

  pub pop_becomes : (rings : List (Buffer (Arrived X))) (p : ℕ) (d r : Buffer (Arrived X)) → p < length rings → d ≡ get_or rings p d → r ≡ buffer (drop 1 d.items) d.capacity → Orders rings (in_order 0 rings) → Becomes rings (set rings p r) (remove p (in_order 0 rings))
  pop_becomes rings p d r within is changed orders =
      let ring = ring_at rings p d within is in
      let items : r.items ≡ drop 1 (items_at rings p) = ap (λ (b : Buffer (Arrived X)). b.items) changed ∙ ap (drop 1) (sym ring.items) in
      becomes rings (set rings p r) (remove p (in_order 0 rings))
      (went rings (set rings p r) (in_order 0 rings) p orders (changes rings p r (drop 1 (items_at rings p)) within items))
      (length-set rings p r)

  pub pop_room : (rings : List (Buffer (Arrived X))) (p : ℕ) (d r : Buffer (Arrived X)) → p < length rings → d ≡ get_or rings p d → r ≡ buffer (drop 1 d.items) d.capacity → KeepsRoom rings (set rings p r)
  pop_room rings p d r within is changed =
      let ring = ring_at rings p d within is in
      let old : spare_at rings p ≡ d.capacity - length d.items = ring.spare in
      let new : spare_in r ≡ d.capacity - length (drop 1 d.items) = ap spare_in changed in
      room_kept rings p r within (omega (arith, length-drop 1 d.items))

  pub pop_unit : (rings : List (Buffer (Arrived X))) (p : ℕ) (d : Buffer (Arrived X)) → p < length rings → d ≡ get_or rings p d → slice_get d.items 0 ≡ slice_get (items_at rings p) 0
  pop_unit rings p d within is = ap (λ (xs : List (Arrived X)). slice_get xs 0) (sym (ring_at rings p d within is).items)

  pub past_item : (rings : List (Buffer (Arrived X))) (p i : ℕ) → length rings ≤ p → None ≡ slice_get (items_at rings p) i
  past_item rings p i past = sym (ap (λ (xs : List (Arrived X)). slice_get xs i) (items_past rings p past))

  pub item_at : (rings : List (Buffer (Arrived X))) (p i : ℕ) (d : Buffer (Arrived X)) → p < length rings → d ≡ get_or rings p d → slice_get d.items i ≡ slice_get (items_at rings p) i
  item_at rings p i d within is = ap (λ (xs : List (Arrived X)). slice_get xs i) (sym (ring_at rings p d within is).items)

  pub past_becomes : (rings : List (Buffer (Arrived X))) (p : ℕ) → length rings ≤ p → Orders rings (in_order 0 rings) → Becomes rings rings (remove p (in_order 0 rings))
  past_becomes rings p past orders =
      let none : filter (in_part p) (in_order 0 rings) ≡ [] = orders.parted p ∙ ap (map (entry p)) (items_past rings p past) in
      record { order = sym (nothing_removed p (in_order 0 rings) none); orders = subst (λ (es : List (Entry X)). Orders rings es) (sym (nothing_removed p (in_order 0 rings) none)) orders; parts = refl }

  pub past_unit : (rings : List (Buffer (Arrived X))) (p : ℕ) → length rings ≤ p → None ≡ slice_get (items_at rings p) 0
  past_unit rings p past = sym (ap (λ (xs : List (Arrived X)). slice_get xs 0) (items_past rings p past))

  -- A ring got more room

  pub grown : (rings : List (Buffer (Arrived X))) (p : ℕ) (d r : Buffer (Arrived X)) (n : ℕ) → p < length rings → d ≡ get_or rings p d → r ≡ buffer d.items n → d.capacity ≤ n → HoldsSame rings (set rings p r)
  grown rings p d r n within is changed more =
      let ring = ring_at rings p d within is in
      let items : r.items ≡ items_at rings p = ap (λ (b : Buffer (Arrived X)). b.items) changed ∙ sym ring.items in
      let old : spare_at rings p ≡ d.capacity - length d.items = ring.spare in
      let new : spare_in r ≡ n - length d.items = ap spare_in changed in
      let at = changes rings p r (items_at rings p) within items in
      record {
        order = same_order rings 0 p within items;
        items = λ q. ⊎_elim (λ same. ap (items_at (set rings p r)) same ∙ (at.here ∙ ap (items_at rings) (sym same))) (at.others q) (cases_eq q p);
        parts = length-set rings p r;
        room = (room_kept rings p r within (omega arith)).room;
      }
    where
      same_order : (rings : List (Buffer (Arrived X))) (k p : ℕ) → p < length rings → r.items ≡ items_at rings p → in_order k (set rings p r) ≡ in_order k rings
      same_order [] k p within same = absurd (omega arith)
      same_order (r0 ∷ rings) k zero within same = ap (λ (xs : List (Arrived X)). insert_all k xs (in_order (suc k) rings)) same
      same_order (r0 ∷ rings) k (suc p) within same = ap (insert_all k r0.items) (same_order rings (suc k) p (omega arith) same)

  pub grown_room : (rings : List (Buffer (Arrived X))) (p : ℕ) (r : Buffer (Arrived X)) (items : List (Arrived X)) (n : ℕ) → p < length rings → r ≡ buffer items n → spare_at (set rings p r) p ≡ n - length items
  grown_room rings p r items n within changed = spare_here rings p r within ∙ ap spare_in changed

  pub ring_room : (rings : List (Buffer (Arrived X))) (p : ℕ) (d : Buffer (Arrived X)) → p < length rings → d ≡ get_or rings p d → spare_at rings p ≡ d.capacity - length d.items
  ring_room rings p d within is = (ring_at rings p d within is).spare

  pub unchanged : (rings : List (Buffer (Arrived X))) → HoldsSame rings rings
  unchanged rings = record { order = refl; items = λ q. refl; parts = refl; room = λ q. omega arith }
