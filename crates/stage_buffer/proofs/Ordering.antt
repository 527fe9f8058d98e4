-- The list in order of arrival is the one that ascends and has each ring as its part.
use Rattle.std.proofs.Common.{◌≡◌, ◌≢◌, ℕ, zero, suc, ◌+◌, ◌-◌, ◌<◌, ◌≤◌, List, [], ◌∷◌, map, cond, refl, ap, sym, ◌∙◌, ⊎_elim, arith}
use Rattle.std.specs.Prelude.{Bool, true, false, nat_lt, nat_le, filter}
use Rattle.std.proofs.lemmas.Bool.{cases_eq, cases_lt, cond-true, cond-false, eq-eqb, ne_eqb, lt-ltb, le-ltb, le-leb, lt-leb}
use Rattle.circular_buffer.specs.Buffer.{Buffer}
use Rattle.stage_buffer.specs.declared.Arrived.{Arrived}
use Rattle.stage_buffer.specs.Order.{Entry, entry, insert, insert_all, in_order, items_at, in_part, HoldsOfEach, AreAfter, AreAscending, Orders}

module _ {X : Type 0} where
  -- a filter at one element
  pub keeps : (p : Entry X → Bool) (e : Entry X) (es : List (Entry X)) → p e ≡ true → filter p (e ∷ es) ≡ e ∷ filter p es
  keeps p e es h = cond-true (p e) (e ∷ filter p es) (filter p es) h

  pub skips : (p : Entry X → Bool) (e : Entry X) (es : List (Entry X)) → p e ≡ false → filter p (e ∷ es) ≡ filter p es
  skips p e es h = cond-false (p e) (e ∷ filter p es) (filter p es) h

  pub in_its_part : (p : ℕ) (e : Entry X) → e.part ≡ p → in_part p e ≡ true
  in_its_part p e h = eq-eqb e.part p h

  pub in_other_part : (p : ℕ) (e : Entry X) → e.part ≢ p → in_part p e ≡ false
  in_other_part p e h = ne_eqb e.part p h

  -- the entries of this part and the later ones
  abbrev pub from : (k : ℕ) → Entry X → Bool
  from k e = nat_le k e.part

  pub each_filter : (P : Entry X → Type 0) (p : Entry X → Bool) (es : List (Entry X)) → HoldsOfEach P es → HoldsOfEach P (filter p es)
  each_filter P p [] h = tt
  each_filter P p (e ∷ es) h = either (p e) (each_filter P p es h.1)
    where
      either : (b : Bool) → HoldsOfEach P (filter p es) → HoldsOfEach P (cond b (e ∷ filter p es) (filter p es))
      either true rest = (h.0, rest)
      either false rest = rest

  insert_list : List (Entry X) → List (Entry X) → List (Entry X)
  insert_list [] es = es
  insert_list (f ∷ fs) es = insert f (insert_list fs es)

  all_is_list : (part : ℕ) (ring : List (Arrived X)) (es : List (Entry X)) → insert_all part ring es ≡ insert_list (map (entry part) ring) es
  unfolding insert_list
  all_is_list part [] es = refl
  all_is_list part (a ∷ ring) es = ap (insert (entry part a)) (all_is_list part ring es)

  in_front : (e : Entry X) (es : List (Entry X)) → AreAfter e.at es → insert e es ≡ e ∷ es
  in_front e [] h = refl
  in_front e (x ∷ xs) h = cond-true (nat_lt e.at x.at) (e ∷ x ∷ xs) (x ∷ insert e xs) (lt-ltb e.at x.at h.0)

  behind : (f e : Entry X) (es : List (Entry X)) → e.at < f.at → insert f (e ∷ es) ≡ e ∷ insert f es
  behind f e es h = cond-false (nat_lt f.at e.at) (f ∷ e ∷ es) (e ∷ insert f es) (le-ltb f.at e.at (omega arith))

  all_behind : (fs : List (Entry X)) (e : Entry X) (es : List (Entry X)) → AreAfter e.at fs → insert_list fs (e ∷ es) ≡ e ∷ insert_list fs es
  unfolding insert_list
  all_behind [] e es h = refl
  all_behind (f ∷ fs) e es h = ap (insert f) (all_behind fs e es h.1) ∙ behind f e (insert_list fs es) h.0

  -- the entries of one part, inserted among the later parts
  joined : (k : ℕ) (es : List (Entry X)) → AreAscending es → insert_list (filter (in_part k) es) (filter (from (suc k)) es) ≡ filter (from k) es
  unfolding insert_list
  joined k [] h = refl
  joined k (e ∷ es) h =
      let rest = joined k es h.1 in
      ⊎_elim (here rest) (λ apart. ⊎_elim (later rest apart) (earlier rest apart) (cases_lt k e.part)) (cases_eq e.part k)
    where
      here : insert_list (filter (in_part k) es) (filter (from (suc k)) es) ≡ filter (from k) es → e.part ≡ k → insert_list (filter (in_part k) (e ∷ es)) (filter (from (suc k)) (e ∷ es)) ≡ filter (from k) (e ∷ es)
      here rest same =
          ap (λ (fs : List (Entry X)). insert_list fs (filter (from (suc k)) (e ∷ es))) (keeps (in_part k) e es (in_its_part k e same))
          ∙ ap (λ (gs : List (Entry X)). insert e (insert_list (filter (in_part k) es) gs)) (skips (from (suc k)) e es (lt-leb (suc k) e.part (omega arith)))
          ∙ ap (insert e) rest
          ∙ in_front e (filter (from k) es) (each_filter (λ f. e.at < f.at) (from k) es h.0)
          ∙ sym (keeps (from k) e es (le-leb k e.part (omega arith)))

      later : insert_list (filter (in_part k) es) (filter (from (suc k)) es) ≡ filter (from k) es → e.part ≢ k → k < e.part → insert_list (filter (in_part k) (e ∷ es)) (filter (from (suc k)) (e ∷ es)) ≡ filter (from k) (e ∷ es)
      later rest apart above =
          ap (λ (fs : List (Entry X)). insert_list fs (filter (from (suc k)) (e ∷ es))) (skips (in_part k) e es (in_other_part k e apart))
          ∙ ap (λ (gs : List (Entry X)). insert_list (filter (in_part k) es) gs) (keeps (from (suc k)) e es (le-leb (suc k) e.part (omega arith)))
          ∙ all_behind (filter (in_part k) es) e (filter (from (suc k)) es) (each_filter (λ f. e.at < f.at) (in_part k) es h.0)
          ∙ ap (λ (gs : List (Entry X)). e ∷ gs) rest
          ∙ sym (keeps (from k) e es (le-leb k e.part (omega arith)))

      earlier : insert_list (filter (in_part k) es) (filter (from (suc k)) es) ≡ filter (from k) es → e.part ≢ k → e.part ≤ k → insert_list (filter (in_part k) (e ∷ es)) (filter (from (suc k)) (e ∷ es)) ≡ filter (from k) (e ∷ es)
      earlier rest apart below =
          let under : e.part < k = omega arith in
          ap (λ (fs : List (Entry X)). insert_list fs (filter (from (suc k)) (e ∷ es))) (skips (in_part k) e es (in_other_part k e apart))
          ∙ ap (λ (gs : List (Entry X)). insert_list (filter (in_part k) es) gs) (skips (from (suc k)) e es (lt-leb (suc k) e.part (omega arith)))
          ∙ rest
          ∙ sym (skips (from k) e es (lt-leb k e.part under))

  clash : (e : Entry X) (xs : List (Entry X)) → e ∷ xs ≡ [] → ⊥
  clash e xs h = cc

  pub none_of : (q : ℕ) (e : Entry X) (es : List (Entry X)) → filter (in_part q) (e ∷ es) ≡ [] → e.part ≢ q
  none_of q e es none same = clash e (filter (in_part q) es) (sym (keeps (in_part q) e es (in_its_part q e same)) ∙ none)

  pub tail_none : (q : ℕ) (e : Entry X) (es : List (Entry X)) → filter (in_part q) (e ∷ es) ≡ [] → filter (in_part q) es ≡ []
  tail_none q e es none = sym (skips (in_part q) e es (in_other_part q e (none_of q e es none))) ∙ none

  nothing_from : (k : ℕ) (es : List (Entry X)) → ((q : ℕ) → k ≤ q → filter (in_part q) es ≡ []) → filter (from k) es ≡ []
  nothing_from k [] none = refl
  nothing_from k (e ∷ es) none =
      let rest = nothing_from k es (λ q le. tail_none q e es (none q le)) in
      ⊎_elim
      (λ (lt : e.part < k). skips (from k) e es (lt-leb k e.part lt) ∙ rest)
      (λ (le : k ≤ e.part). absurd (none_of e.part e es (none e.part le) refl))
      (cases_lt e.part k)

  from_ring : (rings : List (Buffer (Arrived X))) (k : ℕ) (es : List (Entry X)) → AreAscending es → ((p q : ℕ) → q ≡ k + p → filter (in_part q) es ≡ map (entry q) (items_at rings p)) → in_order k rings ≡ filter (from k) es
  from_ring [] k es up parted = sym (nothing_from k es (λ q le. parted (q - k) q (omega arith)))
  from_ring (ring ∷ rings) k es up parted =
      ap (insert_all k ring.items) (from_ring rings (suc k) es up (λ p q at. parted (suc p) q (omega arith)))
      ∙ all_is_list k ring.items (filter (from (suc k)) es)
      ∙ ap (λ (fs : List (Entry X)). insert_list fs (filter (from (suc k)) es)) (sym (parted zero k (omega arith)))
      ∙ joined k es up

  all_from_zero : (es : List (Entry X)) → filter (from 0) es ≡ es
  all_from_zero [] = refl
  all_from_zero (e ∷ es) = keeps (from 0) e es (le-leb 0 e.part (omega arith)) ∙ ap (λ (xs : List (Entry X)). e ∷ xs) (all_from_zero es)

  pub ordered : (rings : List (Buffer (Arrived X))) (es : List (Entry X)) → Orders rings es → in_order 0 rings ≡ es
  ordered rings es orders =
      from_ring rings 0 es orders.ascending (λ p q at. let same : q ≡ p = omega arith in ap (λ (n : ℕ). filter (in_part q) es) same ∙ (orders.parted q ∙ ap (λ (n : ℕ). map (entry q) (items_at rings n)) same))
      ∙ all_from_zero es
