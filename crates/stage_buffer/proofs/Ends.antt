-- The ring whose end comes first, or last, holds the first, or last, unit of the order.
use Rattle.std.proofs.Common.{◌≡◌, ◌≢◌, ℕ, ◌-◌, ◌<◌, ◌≤◌, List, [], ◌∷◌, ◌++◌, length, refl, ap, sym, ◌∙◌, ⊎_elim, arith, Option, Some, None, option_map, length-append}
use Rattle.std.specs.Prelude.{filter, slice_get}
use Rattle.std.proofs.lemmas.Bool.{cases_eq, cases_lt}
use Rattle.std.proofs.lemmas.List.{append-nil, length-map}
use Rattle.std.proofs.lemmas.List.Elements.{filter-append}
use Rattle.std.proofs.lemmas.Option.{slice_get-map}
use Rattle.circular_buffer.specs.Buffer.{Buffer}
use Rattle.stage_buffer.specs.declared.Arrived.{Arrived}
use Rattle.stage_buffer.specs.Order.{Entry, entry, items_at, in_part, Orders, front_at, back_at, IsEarliest, IsLatest}
use Rattle.stage_buffer.proofs.Ordering.{keeps, skips, in_its_part, in_other_part, each_filter}
use Rattle.stage_buffer.proofs.Changes.{below_at, after_at, items_past, up_to_end}

module _ {X : Type 0} where
  number : Option (Entry X) → Option ℕ
  number o = option_map (λ e. e.at) o

  numbered : (p : ℕ) (o : Option (Arrived X)) → number (option_map (entry p) o) ≡ option_map (λ (a : Arrived X). a.at) o
  unfolding number
  numbered p None = refl
  numbered p (Some a) = refl

  number_is : (o : Option (Entry X)) (n : ℕ) → number o ≡ Some n → (f : Entry X) × (o ≡ Some f) × (f.at ≡ n)
  unfolding number
  number_is None n h = absurd (cc)
  number_is (Some f) n h = (f, refl, cc)

  number_none : (e : Entry X) → number (Some e) ≡ None → ⊥
  unfolding number
  number_none e h = cc

  -- an end of a ring is that of its part
  end_is : (rings : List (Buffer (Arrived X))) (es : List (Entry X)) (p i : ℕ) → Orders rings es → option_map (λ (a : Arrived X). a.at) (slice_get (items_at rings p) i) ≡ number (slice_get (filter (in_part p) es) i)
  end_is rings es p i orders =
      sym (ap (λ (xs : List (Entry X)). number (slice_get xs i)) (orders.parted p)
      ∙ ap number (slice_get-map (entry p) (items_at rings p) i)
      ∙ numbered p (slice_get (items_at rings p) i))

  ring_len : (rings : List (Buffer (Arrived X))) (es : List (Entry X)) (p : ℕ) → Orders rings es → length (items_at rings p) ≡ length (filter (in_part p) es)
  ring_len rings es p orders = sym (ap length (orders.parted p) ∙ length-map (items_at rings p) (entry p))

  front_is : (rings : List (Buffer (Arrived X))) (es : List (Entry X)) (p : ℕ) → Orders rings es → front_at rings p ≡ number (slice_get (filter (in_part p) es) 0)
  front_is rings es p orders = end_is rings es p 0 orders

  back_is : (rings : List (Buffer (Arrived X))) (es : List (Entry X)) (p : ℕ) → Orders rings es → back_at rings p ≡ number (slice_get (filter (in_part p) es) (length (filter (in_part p) es) - 1))
  back_is rings es p orders =
      end_is rings es p (length (items_at rings p) - 1) orders
      ∙ ap (λ (n : ℕ). number (slice_get (filter (in_part p) es) (n - 1))) (ring_len rings es p orders)

  pub part_within : (rings : List (Buffer (Arrived X))) (p i n : ℕ) → option_map (λ (a : Arrived X). a.at) (slice_get (items_at rings p) i) ≡ Some n → p < length rings
  part_within rings p i n some = ⊎_elim (λ lt. lt) (λ past. absurd (clash (sym (ap (λ (xs : List (Arrived X)). option_map (λ (a : Arrived X). a.at) (slice_get xs i)) (items_past rings p past)) ∙ some))) (cases_lt p (length rings))
    where
      clash : ◌≡◌ {A = Option ℕ} None (Some n) → ⊥
      clash h = cc

  head_front : (rings : List (Buffer (Arrived X))) (e : Entry X) (es : List (Entry X)) → Orders rings (e ∷ es) → front_at rings e.part ≡ Some e.at
  unfolding number
  head_front rings e es orders =
      front_is rings (e ∷ es) e.part orders
      ∙ ap (λ (xs : List (Entry X)). number (slice_get xs 0)) (keeps (in_part e.part) e es (in_its_part e.part e refl))

  pub oldest_part : (rings : List (Buffer (Arrived X))) (e : Entry X) (es : List (Entry X)) (p n : ℕ) → Orders rings (e ∷ es) → IsEarliest (front_at rings) (length rings) (Some (p, n)) → e.part ≡ p
  oldest_part rings e es p n orders earliest = ⊎_elim (λ same. same) (λ apart. absurd (other apart)) (cases_eq e.part p)
    where
      no_later : n ≤ e.at
      no_later = earliest.1 e.part e.at (part_within rings e.part 0 e.at (head_front rings e es orders)) (head_front rings e es orders)

      other : e.part ≢ p → ⊥
      other apart =
          let found = number_is _ n (sym (front_is rings (e ∷ es) p orders ∙ ap (λ (xs : List (Entry X)). number (slice_get xs 0)) (skips (in_part p) e es (in_other_part p e apart))) ∙ earliest.0) in
          let later : e.at < found.0.at = after_at e.at (filter (in_part p) es) 0 found.0 (each_filter (λ f. e.at < f.at) (in_part p) es orders.ascending.0) found.1 in
          let at : found.0.at ≡ n = found.2 in
          let low : n ≤ e.at = no_later in
          omega arith

  pub some_oldest : (rings : List (Buffer (Arrived X))) (e : Entry X) (es : List (Entry X)) → Orders rings (e ∷ es) → IsEarliest (front_at rings) (length rings) None → ⊥
  unfolding number
  some_oldest rings e es orders none =
      number_none e (sym (head_front rings e es orders) ∙ none e.part (part_within rings e.part 0 e.at (head_front rings e es orders)))

  pub last_of : (es : List (Entry X)) (e : Entry X) → slice_get (es ++ e ∷ []) (length (es ++ e ∷ []) - 1) ≡ Some e
  last_of es e =
      ap (λ (i : ℕ). slice_get (es ++ e ∷ []) i) (omega (arith, length-append es (e ∷ [])))
      ∙ at_end es
    where
      at_end : (es : List (Entry X)) → slice_get (es ++ e ∷ []) (length es) ≡ Some e
      at_end [] = refl
      at_end (f ∷ es) = at_end es

  pub filter_end : (es : List (Entry X)) (e : Entry X) → filter (in_part e.part) (es ++ e ∷ []) ≡ filter (in_part e.part) es ++ e ∷ []
  filter_end es e =
      filter-append (in_part e.part) es (e ∷ [])
      ∙ ap (λ (xs : List (Entry X)). filter (in_part e.part) es ++ xs) (keeps (in_part e.part) e [] (in_its_part e.part e refl))

  pub filter_before : (es : List (Entry X)) (e : Entry X) (p : ℕ) → e.part ≢ p → filter (in_part p) (es ++ e ∷ []) ≡ filter (in_part p) es
  filter_before es e p apart =
      filter-append (in_part p) es (e ∷ [])
      ∙ ap (λ (xs : List (Entry X)). filter (in_part p) es ++ xs) (skips (in_part p) e [] (in_other_part p e apart))
      ∙ append-nil (filter (in_part p) es)

  end_back : (rings : List (Buffer (Arrived X))) (es : List (Entry X)) (e : Entry X) → Orders rings (es ++ e ∷ []) → back_at rings e.part ≡ Some e.at
  unfolding number
  end_back rings es e orders =
      back_is rings (es ++ e ∷ []) e.part orders
      ∙ ap (λ (xs : List (Entry X)). number (slice_get xs (length xs - 1))) (filter_end es e)
      ∙ ap number (last_of (filter (in_part e.part) es) e)

  pub newest_part : (rings : List (Buffer (Arrived X))) (es : List (Entry X)) (e : Entry X) (p n : ℕ) → Orders rings (es ++ e ∷ []) → IsLatest (back_at rings) (length rings) (Some (p, n)) → e.part ≡ p
  newest_part rings es e p n orders latest = ⊎_elim (λ same. same) (λ apart. absurd (other apart)) (cases_eq e.part p)
    where
      no_earlier : e.at ≤ n
      no_earlier = latest.1 e.part e.at (part_within rings e.part (length (items_at rings e.part) - 1) e.at (end_back rings es e orders)) (end_back rings es e orders)

      other : e.part ≢ p → ⊥
      other apart =
          let found = number_is _ n (sym (back_is rings (es ++ e ∷ []) p orders ∙ ap (λ (xs : List (Entry X)). number (slice_get xs (length xs - 1))) (filter_before es e p apart)) ∙ latest.0) in
          let earlier : found.0.at < e.at = below_at e.at (filter (in_part p) es) _ found.0 (each_filter (λ f. f.at < e.at) (in_part p) es (up_to_end es e orders.ascending).1) found.1 in
          let at : found.0.at ≡ n = found.2 in
          let high : e.at ≤ n = no_earlier in
          omega arith

  pub some_newest : (rings : List (Buffer (Arrived X))) (es : List (Entry X)) (e : Entry X) → Orders rings (es ++ e ∷ []) → IsLatest (back_at rings) (length rings) None → ⊥
  unfolding number
  some_newest rings es e orders none =
      number_none e (sym (end_back rings es e orders) ∙ none e.part (part_within rings e.part (length (items_at rings e.part) - 1) e.at (end_back rings es e orders)))
