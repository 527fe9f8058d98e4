-- The order of arrival after a unit came or went.
use Rattle.std.proofs.Common.{◌≡◌, ◌≢◌, ℕ, zero, suc, ◌+◌, ◌<◌, ◌≤◌, List, [], ◌∷◌, ◌++◌, length, map, drop, cond, refl, ap, sym, subst, ◌∙◌, ⊎_elim, arith, Some}
use Rattle.std.specs.Prelude.{Bool, true, false, ◌==◌, filter, slice_get}
use Rattle.std.proofs.lemmas.Bool.{cases_eq, cond-true, cond-false}
use Rattle.std.proofs.lemmas.List.{append-nil, map-append}
use Rattle.std.proofs.lemmas.List.Elements.{filter-append}
use Rattle.std.proofs.Math.ListN.{set}
use Rattle.circular_buffer.specs.Buffer.{Buffer}
use Rattle.stage_buffer.specs.declared.Arrived.{Arrived}
use Rattle.stage_buffer.specs.Waiting.{units_of_part, without_first}
use Rattle.stage_buffer.specs.Order.{Entry, entry, items_at, in_part, pair_of, remove, HoldsOfEach, AreAfter, AreBelow, AreAscending, Orders}
use Rattle.stage_buffer.proofs.Ordering.{keeps, skips, in_its_part, in_other_part, none_of, tail_none}

module _ {X : Type 0} where
  -- Bounds

  pub after_append : (n : ℕ) (es : List (Entry X)) (e : Entry X) → AreAfter n es → n < e.at → AreAfter n (es ++ e ∷ [])
  after_append n [] e h lt = (lt, tt)
  after_append n (f ∷ es) e h lt = (h.0, after_append n es e h.1 lt)

  pub below_append : (n : ℕ) (es : List (Entry X)) (e : Entry X) → AreBelow n es → e.at < n → AreBelow n (es ++ e ∷ [])
  below_append n [] e h lt = (lt, tt)
  below_append n (f ∷ es) e h lt = (h.0, below_append n es e h.1 lt)

  pub below_more : (n m : ℕ) (es : List (Entry X)) → n ≤ m → AreBelow n es → AreBelow m es
  below_more n m [] le h = tt
  below_more n m (f ∷ es) le h = (omega arith, below_more n m es le h.1)

  pub ascending_append : (es : List (Entry X)) (e : Entry X) → AreAscending es → AreBelow e.at es → AreAscending (es ++ e ∷ [])
  ascending_append [] e up below = (tt, tt)
  ascending_append (f ∷ es) e up below = (after_append f.at es e up.0 below.0, ascending_append es e up.1 below.1)

  before_end : (n : ℕ) (es : List (Entry X)) (e : Entry X) → AreAfter n (es ++ e ∷ []) → AreAfter n es × (n < e.at)
  before_end n [] e h = (tt, h.0)
  before_end n (f ∷ es) e h = let rest = before_end n es e h.1 in ((h.0, rest.0), rest.1)

  -- without its last entry the list ascends too, below that one
  pub up_to_end : (es : List (Entry X)) (e : Entry X) → AreAscending (es ++ e ∷ []) → AreAscending es × AreBelow e.at es
  up_to_end [] e up = (tt, tt)
  up_to_end (f ∷ es) e up =
      let here = before_end f.at es e up.0 in
      let rest = up_to_end es e up.1 in
      ((here.0, rest.0), (here.1, rest.1))

  pub below_end : (n : ℕ) (es : List (Entry X)) (e : Entry X) → AreBelow n (es ++ e ∷ []) → AreBelow n es
  below_end n [] e h = tt
  below_end n (f ∷ es) e h = (h.0, below_end n es e h.1)

  pub below_at : (n : ℕ) (es : List (Entry X)) (i : ℕ) (f : Entry X) → AreBelow n es → slice_get es i ≡ Some f → f.at < n
  below_at n [] i f h is = absurd (cc)
  below_at n (e ∷ es) zero f h is = let same : e ≡ f = cc in subst (λ (x : Entry X). x.at < n) same h.0
  below_at n (e ∷ es) (suc i) f h is = below_at n es i f h.1 is

  pub after_at : (n : ℕ) (es : List (Entry X)) (i : ℕ) (f : Entry X) → AreAfter n es → slice_get es i ≡ Some f → n < f.at
  after_at n [] i f h is = absurd (cc)
  after_at n (e ∷ es) zero f h is = let same : e ≡ f = cc in subst (λ (x : Entry X). n < x.at) same h.0
  after_at n (e ∷ es) (suc i) f h is = after_at n es i f h.1 is

  -- A unit came

  -- the rings are as before but for one
  pub record Changes (rings new : List (Buffer (Arrived X))) (p : ℕ) (items : List (Arrived X)) : Type 0 where
    pub here : items_at new p ≡ items
    pub others : (q : ℕ) → q ≢ p → items_at new q ≡ items_at rings q

  pub changes_set : (rings : List (Buffer (Arrived X))) (p : ℕ) (ring : Buffer (Arrived X)) → p < length rings → Changes rings (set rings p ring) p ring.items
  changes_set rings p ring within = record { here = same rings p within; others = λ q apart. other rings p q apart }
    where
      same : (rings : List (Buffer (Arrived X))) (p : ℕ) → p < length rings → items_at (set rings p ring) p ≡ ring.items
      same [] p within = absurd (omega arith)
      same (r ∷ rings) zero within = refl
      same (r ∷ rings) (suc p) within = same rings p (omega arith)

      other : (rings : List (Buffer (Arrived X))) (p q : ℕ) → q ≢ p → items_at (set rings p ring) q ≡ items_at rings q
      other [] p q apart = refl
      other (r ∷ rings) zero zero apart = absurd (apart refl)
      other (r ∷ rings) zero (suc q) apart = refl
      other (r ∷ rings) (suc p) zero apart = refl
      other (r ∷ rings) (suc p) (suc q) apart = other rings p q (λ e. apart (ap suc e))

  pub came : (rings new : List (Buffer (Arrived X))) (es : List (Entry X)) (p : ℕ) (a : Arrived X) → Orders rings es → AreBelow a.at es → Changes rings new p (items_at rings p ++ a ∷ []) → Orders new (es ++ entry p a ∷ [])
  came rings new es p a orders below changes =
      record {
        ascending = ascending_append es (entry p a) orders.ascending below;
        parted = λ q. filter-append (in_part q) es (entry p a ∷ []) ∙ ⊎_elim (here q) (other q) (cases_eq p q);
      }
    where
      here : (q : ℕ) → p ≡ q → filter (in_part q) es ++ filter (in_part q) (entry p a ∷ []) ≡ map (entry q) (items_at new q)
      here q same =
          ap (λ (xs : List (Entry X)). filter (in_part q) es ++ xs) (keeps (in_part q) (entry p a) [] (in_its_part q (entry p a) same))
          ∙ ap (λ (xs : List (Entry X)). xs ++ entry p a ∷ []) (orders.parted q)
          ∙ ap (λ (n : ℕ). map (entry q) (items_at rings q) ++ entry n a ∷ []) same
          ∙ sym (map-append (entry q) (items_at rings q) (a ∷ []))
          ∙ ap (map (entry q)) (ap (λ (n : ℕ). items_at rings n ++ a ∷ []) (sym same) ∙ sym changes.here ∙ ap (items_at new) same)

      other : (q : ℕ) → p ≢ q → filter (in_part q) es ++ filter (in_part q) (entry p a ∷ []) ≡ map (entry q) (items_at new q)
      other q apart =
          ap (λ (xs : List (Entry X)). filter (in_part q) es ++ xs) (skips (in_part q) (entry p a) [] (in_other_part q (entry p a) apart))
          ∙ append-nil (filter (in_part q) es)
          ∙ orders.parted q
          ∙ ap (map (entry q)) (sym (changes.others q (λ e. apart (sym e))))

  -- The first unit of a part went

  pub removed_here : (p : ℕ) (e : Entry X) (es : List (Entry X)) → e.part ≡ p → remove p (e ∷ es) ≡ es
  removed_here p e es h = cond-true (in_part p e) es (e ∷ remove p es) (in_its_part p e h)

  removed_later : (p : ℕ) (e : Entry X) (es : List (Entry X)) → e.part ≢ p → remove p (e ∷ es) ≡ e ∷ remove p es
  removed_later p e es h = cond-false (in_part p e) es (e ∷ remove p es) (in_other_part p e h)

  filter_same : (p : ℕ) (es : List (Entry X)) → filter (in_part p) (remove p es) ≡ drop 1 (filter (in_part p) es)
  filter_same p [] = refl
  filter_same p (e ∷ es) = ⊎_elim here (later (filter_same p es)) (cases_eq e.part p)
    where
      here : e.part ≡ p → filter (in_part p) (remove p (e ∷ es)) ≡ drop 1 (filter (in_part p) (e ∷ es))
      here same = ap (filter (in_part p)) (removed_here p e es same) ∙ sym (ap (drop 1) (keeps (in_part p) e es (in_its_part p e same)))

      later : filter (in_part p) (remove p es) ≡ drop 1 (filter (in_part p) es) → e.part ≢ p → filter (in_part p) (remove p (e ∷ es)) ≡ drop 1 (filter (in_part p) (e ∷ es))
      later rest apart =
          ap (filter (in_part p)) (removed_later p e es apart)
          ∙ skips (in_part p) e (remove p es) (in_other_part p e apart)
          ∙ rest
          ∙ sym (ap (drop 1) (skips (in_part p) e es (in_other_part p e apart)))

  filter_other : (p q : ℕ) (es : List (Entry X)) → q ≢ p → filter (in_part q) (remove p es) ≡ filter (in_part q) es
  filter_other p q [] apart = refl
  filter_other p q (e ∷ es) apart = ⊎_elim here (later (filter_other p q es apart)) (cases_eq e.part p)
    where
      here : e.part ≡ p → filter (in_part q) (remove p (e ∷ es)) ≡ filter (in_part q) (e ∷ es)
      here same = ap (filter (in_part q)) (removed_here p e es same) ∙ sym (skips (in_part q) e es (in_other_part q e (λ h. apart (sym h ∙ same))))

      later : filter (in_part q) (remove p es) ≡ filter (in_part q) es → e.part ≢ p → filter (in_part q) (remove p (e ∷ es)) ≡ filter (in_part q) (e ∷ es)
      later rest differs =
          ap (filter (in_part q)) (removed_later p e es differs)
          ∙ ap (λ (xs : List (Entry X)). cond (in_part q e) (e ∷ xs) xs) rest

  pub each_remove : (P : Entry X → Type 0) (p : ℕ) (es : List (Entry X)) → HoldsOfEach P es → HoldsOfEach P (remove p es)
  each_remove P p [] h = tt
  each_remove P p (e ∷ es) h = either (in_part p e) (each_remove P p es h.1)
    where
      either : (b : Bool) → HoldsOfEach P (remove p es) → HoldsOfEach P (cond b es (e ∷ remove p es))
      either true rest = h.1
      either false rest = (h.0, rest)

  ascending_remove : (p : ℕ) (es : List (Entry X)) → AreAscending es → AreAscending (remove p es)
  ascending_remove p [] up = tt
  ascending_remove p (e ∷ es) up = either (in_part p e) (ascending_remove p es up.1)
    where
      either : (b : Bool) → AreAscending (remove p es) → AreAscending (cond b es (e ∷ remove p es))
      either true rest = up.1
      either false rest = (each_remove (λ f. e.at < f.at) p es up.0, rest)

  pub went : (rings new : List (Buffer (Arrived X))) (es : List (Entry X)) (p : ℕ) → Orders rings es → Changes rings new p (drop 1 (items_at rings p)) → Orders new (remove p es)
  went rings new es p orders changes =
      record {
        ascending = ascending_remove p es orders.ascending;
        parted = λ q. ⊎_elim (here q) (other q) (cases_eq q p);
      }
    where
      drop_map : (q : ℕ) (ring : List (Arrived X)) → drop 1 (map (entry q) ring) ≡ map (entry q) (drop 1 ring)
      drop_map q [] = refl
      drop_map q (a ∷ ring) = refl

      here : (q : ℕ) → q ≡ p → filter (in_part q) (remove p es) ≡ map (entry q) (items_at new q)
      here q same =
          ap (λ (n : ℕ). filter (in_part n) (remove p es)) same
          ∙ filter_same p es
          ∙ ap (drop 1) (orders.parted p)
          ∙ drop_map p (items_at rings p)
          ∙ ap (map (entry p)) (sym changes.here)
          ∙ ap (λ (n : ℕ). map (entry n) (items_at new n)) (sym same)

      other : (q : ℕ) → q ≢ p → filter (in_part q) (remove p es) ≡ map (entry q) (items_at new q)
      other q apart = filter_other p q es apart ∙ orders.parted q ∙ ap (map (entry q)) (sym (changes.others q apart))

  pub pairs_remove : (p : ℕ) (es : List (Entry X)) → map pair_of (remove p es) ≡ without_first p (map pair_of es)
  pairs_remove p [] = refl
  pairs_remove p (e ∷ es) = both (in_part p e) (pairs_remove p es)
    where
      both : (b : Bool) → map pair_of (remove p es) ≡ without_first p (map pair_of es) → map pair_of (cond b es (e ∷ remove p es)) ≡ cond b (map pair_of es) (pair_of e ∷ without_first p (map pair_of es))
      both true rest = refl
      both false rest = ap (λ (us : List (ℕ × X)). pair_of e ∷ us) rest

  pub nothing_removed : (p : ℕ) (es : List (Entry X)) → filter (in_part p) es ≡ [] → remove p es ≡ es
  nothing_removed p [] none = refl
  nothing_removed p (e ∷ es) none =
      removed_later p e es (none_of p e es none)
      ∙ ap (λ (xs : List (Entry X)). e ∷ xs) (nothing_removed p es (tail_none p e es none))

  pub length_remove : (p : ℕ) (es : List (Entry X)) → filter (in_part p) es ≢ [] → length (remove p es) + 1 ≡ length es
  length_remove p [] some = absurd (some refl)
  length_remove p (e ∷ es) some = ⊎_elim here (later (λ apart. length_remove p es (λ none. some (skips (in_part p) e es (in_other_part p e apart) ∙ none)))) (cases_eq e.part p)
    where
      here : e.part ≡ p → length (remove p (e ∷ es)) + 1 ≡ length (e ∷ es)
      here same = let at : length (remove p (e ∷ es)) ≡ length es = ap length (removed_here p e es same) in omega arith

      later : (e.part ≢ p → length (remove p es) + 1 ≡ length es) → e.part ≢ p → length (remove p (e ∷ es)) + 1 ≡ length (e ∷ es)
      later shorter apart =
          let at : length (remove p (e ∷ es)) ≡ suc (length (remove p es)) = ap length (removed_later p e es apart) in
          let rest : length (remove p es) + 1 ≡ length es = shorter apart in
          omega arith

  -- What stands in a ring

  pub units_at : (rings : List (Buffer (Arrived X))) (es : List (Entry X)) (p : ℕ) → Orders rings es → units_of_part p (map pair_of es) ≡ map (λ a. a.unit) (items_at rings p)
  units_at rings es p orders = of_pairs es ∙ ap (map (λ (e : Entry X). e.unit)) (orders.parted p) ∙ of_items (items_at rings p)
    where
      of_pairs : (es : List (Entry X)) → units_of_part p (map pair_of es) ≡ map (λ (e : Entry X). e.unit) (filter (in_part p) es)
      of_pairs [] = refl
      of_pairs (e ∷ es) = both (in_part p e) (of_pairs es)
        where
          both : (b : Bool) → units_of_part p (map pair_of es) ≡ map (λ (e : Entry X). e.unit) (filter (in_part p) es) → map (λ (u : ℕ × X). u.1) (cond b (pair_of e ∷ filter (λ (u : ℕ × X). u.0 == p) (map pair_of es)) (filter (λ (u : ℕ × X). u.0 == p) (map pair_of es))) ≡ map (λ (e : Entry X). e.unit) (cond b (e ∷ filter (in_part p) es) (filter (in_part p) es))
          both true rest = ap (λ (us : List X). e.unit ∷ us) rest
          both false rest = rest

      of_items : (ring : List (Arrived X)) → map (λ (e : Entry X). e.unit) (map (entry p) ring) ≡ map (λ (a : Arrived X). a.unit) ring
      of_items [] = refl
      of_items (a ∷ ring) = ap (λ (us : List X). a.unit ∷ us) (of_items ring)

  pub items_past : (rings : List (Buffer (Arrived X))) (p : ℕ) → length rings ≤ p → items_at rings p ≡ []
  items_past [] p h = refl
  items_past (ring ∷ rings) zero h = absurd (omega arith)
  items_past (ring ∷ rings) (suc p) h = items_past rings p (omega arith)
