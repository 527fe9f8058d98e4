-- The search for the ring whose end came first, or last.
use Rattle.std.proofs.Common.{◌≡◌, ℕ, ◌+◌, ◌<◌, ◌≤◌, List, length, get_or, ap, sym, subst, ◌∙◌, ⊎_elim, arith, Option, Some, None, option_map}
use Rattle.std.specs.Prelude.{slice_get, nat_le}
use Rattle.std.proofs.lemmas.Bool.{cases_eq, cases_lt, cond-true, cond-false, le-leb, lt-leb}
use Rattle.circular_buffer.specs.Buffer.{Buffer, last_item}
use Rattle.stage_buffer.specs.declared.Arrived.{Arrived}
use Rattle.stage_buffer.specs.Order.{front_at, back_at, earlier_of, later_of, IsEarliest, IsLatest}
use Rattle.stage_buffer.proofs.Rings.{ring_at}

none_some : (n : ℕ) (o : Option ℕ) → o ≡ None → o ≡ Some n → ⊥
none_some n o h k = absurd_of (sym h ∙ k)
  where
    absurd_of : ◌≡◌ {A = Option ℕ} None (Some n) → ⊥
    absurd_of e = cc

same_number : (n m : ℕ) (o : Option ℕ) → o ≡ Some n → o ≡ Some m → n ≡ m
same_number n m o h k = inside (sym h ∙ k)
  where
    inside : ◌≡◌ {A = Option ℕ} (Some n) (Some m) → n ≡ m
    inside e = cc

-- one more end that is none
no_more : (ends : ℕ → Option ℕ) (k : ℕ) (found : Option (ℕ × ℕ)) → ends k ≡ None → IsEarliest ends k found → IsEarliest ends (k + 1) found
no_more ends k None none h = λ q lt. ⊎_elim (λ same. ap ends same ∙ none) (λ apart. h q (omega arith)) (cases_eq q k)
no_more ends k (Some f) none h =
    (h.0, λ q n lt some. ⊎_elim (λ same. absurd (none_some n (ends q) (ap ends same ∙ none) some)) (λ apart. h.1 q n (omega arith) some) (cases_eq q k))

no_later : (ends : ℕ → Option ℕ) (k : ℕ) (found : Option (ℕ × ℕ)) → ends k ≡ None → IsLatest ends k found → IsLatest ends (k + 1) found
no_later ends k None none h = λ q lt. ⊎_elim (λ same. ap ends same ∙ none) (λ apart. h q (omega arith)) (cases_eq q k)
no_later ends k (Some f) none h =
    (h.0, λ q n lt some. ⊎_elim (λ same. absurd (none_some n (ends q) (ap ends same ∙ none) some)) (λ apart. h.1 q n (omega arith) some) (cases_eq q k))

-- the first end is the only one
only_one : (ends : ℕ → Option ℕ) (k at q n : ℕ) → ends k ≡ Some at → ((j : ℕ) → j < k → ends j ≡ None) → q < k + 1 → ends q ≡ Some n → at ≡ n
only_one ends k at q n here none lt some =
    ⊎_elim (λ same. same_number at n (ends k) here (ap ends (sym same) ∙ some)) (λ apart. absurd (none_some n (ends q) (none q (omega arith)) some)) (cases_eq q k)

-- one more end
one_earlier : (ends : ℕ → Option ℕ) (k at : ℕ) (found : Option (ℕ × ℕ)) → ends k ≡ Some at → IsEarliest ends k found → IsEarliest ends (k + 1) (earlier_of found k (Some at))
one_earlier ends k at None here h = (
  here,
  λ q n lt some. let e : at ≡ n = only_one ends k at q n here h lt some in omega arith,
)
one_earlier ends k at (Some f) here h = ⊎_elim before after (cases_lt at f.1)
  where
    before : at < f.1 → IsEarliest ends (k + 1) (earlier_of (Some f) k (Some at))
    before lt =
        subst (λ (o : Option (ℕ × ℕ)). IsEarliest ends (k + 1) o) (sym (cond-false (nat_le f.1 at) (Some f) (Some (k, at)) (lt-leb f.1 at lt))) (
          here,
          λ q n within some. ⊎_elim
              (λ same. let e : at ≡ n = same_number at n (ends k) here (ap ends (sym same) ∙ some) in omega arith)
              (λ apart. let low : f.1 ≤ n = h.1 q n (omega arith) some in omega arith)
              (cases_eq q k),
        )

    after : f.1 ≤ at → IsEarliest ends (k + 1) (earlier_of (Some f) k (Some at))
    after le =
        subst (λ (o : Option (ℕ × ℕ)). IsEarliest ends (k + 1) o) (sym (cond-true (nat_le f.1 at) (Some f) (Some (k, at)) (le-leb f.1 at le))) (
          h.0,
          λ q n within some. ⊎_elim
              (λ same. let e : at ≡ n = same_number at n (ends k) here (ap ends (sym same) ∙ some) in omega arith)
              (λ apart. h.1 q n (omega arith) some)
              (cases_eq q k),
        )

one_later : (ends : ℕ → Option ℕ) (k at : ℕ) (found : Option (ℕ × ℕ)) → ends k ≡ Some at → IsLatest ends k found → IsLatest ends (k + 1) (later_of found k (Some at))
one_later ends k at None here h = (
  here,
  λ q n lt some. let e : at ≡ n = only_one ends k at q n here h lt some in omega arith,
)
one_later ends k at (Some f) here h = ⊎_elim after before (cases_lt f.1 at)
  where
    after : f.1 < at → IsLatest ends (k + 1) (later_of (Some f) k (Some at))
    after lt =
        subst (λ (o : Option (ℕ × ℕ)). IsLatest ends (k + 1) o) (sym (cond-false (nat_le at f.1) (Some f) (Some (k, at)) (lt-leb at f.1 lt))) (
          here,
          λ q n within some. ⊎_elim
              (λ same. let e : at ≡ n = same_number at n (ends k) here (ap ends (sym same) ∙ some) in omega arith)
              (λ apart. let high : n ≤ f.1 = h.1 q n (omega arith) some in omega arith)
              (cases_eq q k),
        )

    before : at ≤ f.1 → IsLatest ends (k + 1) (later_of (Some f) k (Some at))
    before le =
        subst (λ (o : Option (ℕ × ℕ)). IsLatest ends (k + 1) o) (sym (cond-true (nat_le at f.1) (Some f) (Some (k, at)) (le-leb at f.1 le))) (
          h.0,
          λ q n within some. ⊎_elim
              (λ same. let e : at ≡ n = same_number at n (ends k) here (ap ends (sym same) ∙ some) in omega arith)
              (λ apart. h.1 q n (omega arith) some)
              (cases_eq q k),
        )

next_earlier : (ends : ℕ → Option ℕ) (k : ℕ) (found : Option (ℕ × ℕ)) (end : Option ℕ) → ends k ≡ end → IsEarliest ends k found → IsEarliest ends (k + 1) (earlier_of found k end)
next_earlier ends k None None is h = no_more ends k None is h
next_earlier ends k (Some f) None is h = no_more ends k (Some f) is h
next_earlier ends k None (Some at) is h = one_earlier ends k at None is h
next_earlier ends k (Some f) (Some at) is h = one_earlier ends k at (Some f) is h

next_later : (ends : ℕ → Option ℕ) (k : ℕ) (found : Option (ℕ × ℕ)) (end : Option ℕ) → ends k ≡ end → IsLatest ends k found → IsLatest ends (k + 1) (later_of found k end)
next_later ends k None None is h = no_later ends k None is h
next_later ends k (Some f) None is h = no_later ends k (Some f) is h
next_later ends k None (Some at) is h = one_later ends k at None is h
next_later ends k (Some f) (Some at) is h = one_later ends k at (Some f) is h

module _ {X : Type 0} where
  pub earliest_so_far : (rings : List (Buffer (Arrived X))) (k : ℕ) (d : Buffer (Arrived X)) (found result : Option (ℕ × ℕ)) (o : Option (Arrived X)) (end : Option ℕ) → k < length rings → d ≡ get_or rings k d → o ≡ slice_get d.items 0 → end ≡ option_map (λ (a : Arrived X). a.at) o → result ≡ earlier_of found k end → IsEarliest (front_at rings) k found → IsEarliest (front_at rings) (k + 1) result
  earliest_so_far rings k d found result o end within is front number next h =
      let here : front_at rings k ≡ end =
      ap (λ (xs : List (Arrived X)). option_map (λ (a : Arrived X). a.at) (slice_get xs 0)) (ring_at rings k d within is).items
      ∙ ap (option_map (λ (a : Arrived X). a.at)) (sym front) ∙ sym number in
      subst (λ (r : Option (ℕ × ℕ)). IsEarliest (front_at rings) (k + 1) r) (sym next) (next_earlier (front_at rings) k found end here h)

  pub latest_so_far : (rings : List (Buffer (Arrived X))) (k : ℕ) (d : Buffer (Arrived X)) (found result : Option (ℕ × ℕ)) (o : Option (Arrived X)) (end : Option ℕ) → k < length rings → d ≡ get_or rings k d → o ≡ last_item d.items → end ≡ option_map (λ (a : Arrived X). a.at) o → result ≡ later_of found k end → IsLatest (back_at rings) k found → IsLatest (back_at rings) (k + 1) result
  latest_so_far rings k d found result o end within is back number next h =
      let here : back_at rings k ≡ end =
      ap (λ (xs : List (Arrived X)). option_map (λ (a : Arrived X). a.at) (last_item xs)) (ring_at rings k d within is).items
      ∙ ap (option_map (λ (a : Arrived X). a.at)) (sym back) ∙ sym number in
      subst (λ (r : Option (ℕ × ℕ)). IsLatest (back_at rings) (k + 1) r) (sym next) (next_later (back_at rings) k found end here h)

  pub earliest_at : (r rings : List (Buffer (Arrived X))) (o : Option (ℕ × ℕ)) → r ≡ rings → IsEarliest (front_at r) (length r) o → IsEarliest (front_at rings) (length rings) o
  earliest_at r rings o same h = subst (λ (rs : List (Buffer (Arrived X))). IsEarliest (front_at rs) (length rs) o) same h

  pub latest_at : (r rings : List (Buffer (Arrived X))) (o : Option (ℕ × ℕ)) → r ≡ rings → IsLatest (back_at r) (length r) o → IsLatest (back_at rings) (length rings) o
  latest_at r rings o same h = subst (λ (rs : List (Buffer (Arrived X))). IsLatest (back_at rs) (length rs) o) same h
