-- Where the numbers of each producer ascend already, the acknowledgements are one entry for each producer of a verdict.
use Rattle.std.proofs.Common.{◌≡◌, ℕ, zero, suc, ◌+◌, ◌<◌, ◌≤◌, Bool, true, false, List, [], ◌∷◌, ◌++◌, length, map, get_or, refl, ap, sym, ◌∙◌, subst, All, inl, inr, cond, arith}
use Rattle.std.specs.Prelude.{◌⊎◌, ◌&&◌, ◌||◌, ◌==◌, not, filter, Contains}
use Rattle.std.specs.List.{flat_map, list_any, sum_by}
use Rattle.std.specs.List.Sorted.{IsNonDecreasing}
use Rattle.std.proofs.lemmas.Bool.{eq-eqb, ne_eqb, cases_eq, cases_lt}
use Rattle.std.proofs.lemmas.List.Sums.{sum_by-cons}
use Rattle.std.proofs.lemmas.List.Sorted.{sum_by-IsPermutation}
use Rattle.pipe_types.specs.declared.numbers.StageNo.{StageNo}
use Rattle.pipe_types.specs.Numbers.{same_stage}
use Rattle.pipe_types.specs.Handlers.{is_successful}
use Rattle.pipe_model.specs.Acknowledgements.{Acknowledgement, entry}
use Rattle.message_ack.specs.declared.verdicts.Verdict.{Verdict}
use Rattle.message_ack.specs.Groups.{AreAscending, IsAcknowledgement, AreAcknowledgements, successful_of, failed_of}
use Rattle.settle_laws.proofs.Climbs.{Climbs, climbs}

-- Numbers that do not fall

-- the numbers do not fall, and the first is at least this one
abbrev Rises : ℕ → List ℕ → Type 0
Rises low [] = Unit {0}
Rises low (n ∷ numbers) = (low ≤ n) × Rises n numbers

rises : (low : ℕ) (numbers : List ℕ) → ((d : ℕ) → 0 < length numbers → low ≤ get_or numbers 0 d) → IsNonDecreasing numbers → Rises low numbers
rises low [] first sorted = tt
rises low (n ∷ numbers) first sorted = (
  first n (omega arith),
  rises n numbers (λ d some. sorted 0 1 d (omega arith) (omega arith)) (λ i j d before within. sorted (suc i) (suc j) d (omega arith) (omega arith)),
)

-- one for the number k, and nothing for others
abbrev one_at : ℕ → ℕ → ℕ
one_at k n = cond (n == k) 1 0

one_here : (n : ℕ) → one_at n n ≡ 1
one_here n = ap (λ (b : Bool). cond b 1 0) (eq-eqb n n refl)

none_below : (k low : ℕ) (numbers : List ℕ) → k < low → Rises low numbers → sum_by (one_at k) numbers ≡ 0
none_below k low [] below r = refl
none_below k low (n ∷ numbers) below r =
    let above : low ≤ n = r.0 in
    let other : one_at k n ≡ 0 = ap (λ (b : Bool). cond b 1 0) (ne_eqb n k (λ e. omega arith)) in
    let rest : sum_by (one_at k) numbers ≡ 0 = none_below k n numbers (omega arith) r.1 in
    omega (arith, sum_by-cons (one_at k) n numbers, other, rest)

-- two such lists in which each number stands as often are the same
same_sums : (low floor : ℕ) (xs ys : List ℕ) → Rises low xs → Rises floor ys → ((f : ℕ → ℕ) → sum_by f ys ≡ sum_by f xs) → ys ≡ xs
same_sums low floor [] [] r s same = refl
same_sums low floor [] (y ∷ ys) r s same = absurd (omega (arith, same (λ n. 1), sum_by-cons (λ (n : ℕ). 1) y ys))
same_sums low floor (x ∷ xs) [] r s same = absurd (omega (arith, same (λ n. 1), sum_by-cons (λ (n : ℕ). 1) x xs))
same_sums low floor (x ∷ xs) (y ∷ ys) r s same = by_order (cases_lt x y) (cases_lt y x) (same_sums x y xs ys r.1 s.1)
  where
    by_order : (x < y) ⊎ (y ≤ x) → (y < x) ⊎ (x ≤ y) → (((f : ℕ → ℕ) → sum_by f ys ≡ sum_by f xs) → ys ≡ xs) → y ∷ ys ≡ x ∷ xs
    by_order (inl lower) other again =
        absurd (omega (arith, same (one_at x), none_below x y (y ∷ ys) lower (omega arith, s.1), sum_by-cons (one_at x) x xs, one_here x))
    by_order (inr a) (inl lower) again =
        absurd (omega (arith, same (one_at y), none_below y x (x ∷ xs) lower (omega arith, r.1), sum_by-cons (one_at y) y ys, one_here y))
    by_order (inr a) (inr b) again =
        let e : y ≡ x = omega arith in
        let rest : ys ≡ xs = again (λ f. omega (arith, same f, sum_by-cons f x xs, sum_by-cons f y ys, ap f e)) in λ i. e i ∷ rest i

-- sorting numbers that ascend changes nothing
pub as_they_were : (numbers sorted : List ℕ) → IsNonDecreasing numbers → AreAscending numbers sorted → sorted ≡ numbers
as_they_were numbers sorted ascend are =
    same_sums 0 0 numbers sorted (rises 0 numbers (λ d some. omega arith) ascend) (rises 0 sorted (λ d some. omega arith) are.ascending)
    (λ f. sum_by-IsPermutation f numbers sorted are.same)

-- Producers

split : (n p : ℕ) (ns : List ℕ) → Contains (n ∷ ns) p → (n ≡ p) ⊎ Contains ns p
split n p ns c = by_index c.0 c.1 c.2
  where
    by_index : (k : ℕ) → k < suc (length ns) → get_or (n ∷ ns) k p ≡ p → (n ≡ p) ⊎ Contains ns p
    by_index zero within is = inl is
    by_index (suc k) within is = inr (k, omega arith, is)

first_in : (n : ℕ) (ns : List ℕ) → Contains (n ∷ ns) n
first_in n ns = (zero, omega arith, refl)

behind : (n p : ℕ) (ns : List ℕ) → Contains ns p → Contains (n ∷ ns) p
behind n p ns c = (suc c.0, omega (arith, c.1), c.2)

above : (floor p : ℕ) (ns : List ℕ) → Climbs floor ns → Contains ns p → floor ≤ p
above floor p [] climb c = absurd (omega (arith, c.1))
above floor p (n ∷ ns) climb c = by_place (split n p ns c) (above (n + 1) p ns climb.1)
  where
    by_place : (n ≡ p) ⊎ Contains ns p → (Contains ns p → n + 1 ≤ p) → floor ≤ p
    by_place (inl e) later = let low : floor ≤ n = climb.0 in omega arith
    by_place (inr c') later = let low : floor ≤ n = climb.0 in let up : n + 1 ≤ p = later c' in omega arith

-- a verdict is the producer's
abbrev has : List Verdict → ℕ → Bool
has verdicts p = list_any (λ v. v.producer.0 == p) verdicts

or_true : (a b : Bool) → b ≡ true → (a || b) ≡ true
or_true true b e = refl
or_true false b e = e

abbrev producers_in : List Verdict → List ℕ
producers_in verdicts = map (λ (v : Verdict). v.producer.0) verdicts

has_at : (p : ℕ) (verdicts : List Verdict) (k : ℕ) → k < length (producers_in verdicts) → get_or (producers_in verdicts) k p ≡ p → has verdicts p ≡ true
has_at p [] k within is = absurd (omega arith)
has_at p (v ∷ verdicts) zero within is = ap (λ (b : Bool). b || has verdicts p) (eq-eqb v.producer.0 p is)
has_at p (v ∷ verdicts) (suc k) within is = or_true (v.producer.0 == p) (has verdicts p) (has_at p verdicts k (omega arith) is)

in_has : (p : ℕ) (verdicts : List Verdict) → has verdicts p ≡ true → Contains (producers_in verdicts) p
in_has p [] h = let no : ⊥ = cc in absurd no
in_has p (v ∷ verdicts) h = by_first (cases_eq v.producer.0 p) (in_has p verdicts)
  where
    by_first : (v.producer.0 ≡ p) ⊎ (v.producer.0 ≡ p → ⊥) → (has verdicts p ≡ true → Contains (producers_in verdicts) p) → Contains (v.producer.0 ∷ producers_in verdicts) p
    by_first (inl e) rest = (zero, omega arith, e)
    by_first (inr other) rest =
        behind v.producer.0 p (producers_in verdicts) (rest (sym (ap (λ (b : Bool). b || has verdicts p) (ne_eqb v.producer.0 p other)) ∙ h))

-- One producer

abbrev kept : Bool → Verdict → List Verdict → List ℕ
kept b verdict verdicts = map (λ (v : Verdict). v.no.0) (cond b (verdict ∷ verdicts) verdicts)

no_numbers : (p : StageNo) (verdicts : List Verdict) → has verdicts p.0 ≡ false → (successful_of verdicts p ≡ []) × (failed_of verdicts p ≡ [])
no_numbers p [] h = (refl, refl)
no_numbers p (v ∷ verdicts) h = by_stage (same_stage v.producer p) h (no_numbers p verdicts)
  where
    by_stage : (b : Bool) → (b || has verdicts p.0) ≡ false → (has verdicts p.0 ≡ false → (successful_of verdicts p ≡ []) × (failed_of verdicts p ≡ []))
        → (kept (b && is_successful v.outcome) v (filter (λ w. same_stage w.producer p && is_successful w.outcome) verdicts) ≡ []) × (kept (b && not (is_successful v.outcome)) v (filter (λ w. same_stage w.producer p && not (is_successful w.outcome)) verdicts) ≡ [])
    by_stage true h rest = cc
    by_stage false h rest = rest h

no_entry : (p : StageNo) (verdicts : List Verdict) → has verdicts p.0 ≡ false → entry p (successful_of verdicts p) (failed_of verdicts p) ≡ []
no_entry p verdicts h = let none = no_numbers p verdicts h in λ i. entry p (none.0 i) (none.1 i)

abbrev whole : StageNo → List ℕ → List ℕ → List Acknowledgement
whole p successful failed = record { producer = p; successful = successful; failed = failed } ∷ []

one_failed : (p : StageNo) (successful : List ℕ) (n : ℕ) (failed : List ℕ) → entry p successful (n ∷ failed) ≡ whole p successful (n ∷ failed)
one_failed p [] n failed = refl
one_failed p (m ∷ successful) n failed = refl

is_entry : (p : StageNo) (verdicts : List Verdict) → has verdicts p.0 ≡ true → entry p (successful_of verdicts p) (failed_of verdicts p) ≡ whole p (successful_of verdicts p) (failed_of verdicts p)
is_entry p [] h = cc
is_entry p (v ∷ verdicts) h = by_stage (same_stage v.producer p) (is_successful v.outcome) h (is_entry p verdicts)
  where
    by_stage : (b w : Bool) → (b || has verdicts p.0) ≡ true → (has verdicts p.0 ≡ true → entry p (successful_of verdicts p) (failed_of verdicts p) ≡ whole p (successful_of verdicts p) (failed_of verdicts p))
        → entry p (kept (b && w) v (filter (λ u. same_stage u.producer p && is_successful u.outcome) verdicts)) (kept (b && not w) v (filter (λ u. same_stage u.producer p && not (is_successful u.outcome)) verdicts))
        ≡ whole p (kept (b && w) v (filter (λ u. same_stage u.producer p && is_successful u.outcome) verdicts)) (kept (b && not w) v (filter (λ u. same_stage u.producer p && not (is_successful u.outcome)) verdicts))
    by_stage true true h rest = refl
    by_stage true false h rest = one_failed p _ v.no.0 _
    by_stage false w h rest = rest h

-- All producers

abbrev producer_in : Acknowledgement → ℕ
producer_in ack = ack.producer.0

abbrev stage_in : StageNo → ℕ
stage_in stage = stage.0

abbrev stage_numbered : ℕ → StageNo
stage_numbered n = record { 0 = n }

module _ (verdicts : List Verdict) (ascend : (p : StageNo) → IsNonDecreasing (successful_of verdicts p) × IsNonDecreasing (failed_of verdicts p)) where
  -- an entry for each of these stages that has a verdict
  abbrev pub entries : List StageNo → List Acknowledgement
  entries stages = flat_map (λ p. entry p (successful_of verdicts p) (failed_of verdicts p)) stages

  -- from this stage on, the acknowledgements are those of the stages with a verdict
  record Agree (floor : ℕ) (stages : List StageNo) (acks : List Acknowledgement) : Type 0 where
    up : Climbs floor (map stage_in stages)
    climb : Climbs floor (map producer_in acks)
    each : All (IsAcknowledgement verdicts) acks
    there : (p : ℕ) → floor ≤ p → has verdicts p ≡ true → Contains (map producer_in acks) p
    back : (p : ℕ) → Contains (map producer_in acks) p → has verdicts p ≡ true
    stands : (p : ℕ) → floor ≤ p → has verdicts p ≡ true → Contains (map stage_in stages) p

  one_ack : (s : StageNo) (a : Acknowledgement) → a.producer.0 ≡ s.0 → IsAcknowledgement verdicts a
      → a ≡ record { producer = s; successful = successful_of verdicts s; failed = failed_of verdicts s }
  one_ack s a e is =
      let p : a.producer ≡ s = ap stage_numbered e in
      let won = as_they_were (successful_of verdicts a.producer) a.successful (ascend a.producer).0 is.successful ∙ ap (successful_of verdicts) p in
      let lost = as_they_were (failed_of verdicts a.producer) a.failed (ascend a.producer).1 is.failed ∙ ap (failed_of verdicts) p in
      λ i. record { producer = p i; successful = won i; failed = lost i }

  same_head : (floor : ℕ) (s : StageNo) (stages : List StageNo) (a : Acknowledgement) (rest : List Acknowledgement) → has verdicts s.0 ≡ true
      → Agree floor (s ∷ stages) (a ∷ rest) → a.producer.0 ≡ s.0
  same_head floor s stages a rest h are =
      by_both
      (split a.producer.0 s.0 (map producer_in rest) (are.there s.0 are.up.0 h))
      (split s.0 a.producer.0 (map stage_in stages) (are.stands a.producer.0 are.climb.0 (are.back a.producer.0 (first_in a.producer.0 (map producer_in rest)))))
    where
      by_both : (a.producer.0 ≡ s.0) ⊎ Contains (map producer_in rest) s.0 → (s.0 ≡ a.producer.0) ⊎ Contains (map stage_in stages) a.producer.0 → a.producer.0 ≡ s.0
      by_both (inl e) other = e
      by_both (inr later) (inl e) = sym e
      by_both (inr later) (inr after) =
          let low : a.producer.0 + 1 ≤ s.0 = above (a.producer.0 + 1) s.0 (map producer_in rest) are.climb.1 later in
          let high : s.0 + 1 ≤ a.producer.0 = above (s.0 + 1) a.producer.0 (map stage_in stages) are.up.1 after in
          omega arith

  not_first : (n p : ℕ) (ns : List ℕ) → n < p → Contains (n ∷ ns) p → Contains ns p
  not_first n p ns less c =
      elim (split n p ns c) [
        | inl e ↦ absurd (omega (arith, e, less))
        | inr later ↦ later
      ]

  rest_with : (floor : ℕ) (s : StageNo) (stages : List StageNo) (a : Acknowledgement) (rest : List Acknowledgement) → a.producer.0 ≡ s.0
      → Agree floor (s ∷ stages) (a ∷ rest) → Agree (s.0 + 1) stages rest
  rest_with floor s stages a rest e are =
      let low : floor ≤ s.0 = are.up.0 in
      record {
        up = are.up.1;
        climb = subst (λ (n : ℕ). Climbs (n + 1) (map producer_in rest)) e are.climb.1;
        each = λ k d within. are.each (suc k) d (omega arith);
        there = λ p from h. not_first a.producer.0 p (map producer_in rest) (omega arith) (are.there p (omega arith) h);
        back = λ p c. are.back p (behind a.producer.0 p (map producer_in rest) c);
        stands = λ p from h. not_first s.0 p (map stage_in stages) (omega arith) (are.stands p (omega arith) h);
      }

  raised : (floor : ℕ) (s : StageNo) (stages : List StageNo) (acks : List Acknowledgement) → has verdicts s.0 ≡ false
      → Agree floor (s ∷ stages) acks → Climbs (s.0 + 1) (map producer_in acks)
  raised floor s stages [] h are = tt
  raised floor s stages (a ∷ rest) h are =
      let its : has verdicts a.producer.0 ≡ true = are.back a.producer.0 (first_in a.producer.0 (map producer_in rest)) in
      (by_place its (split s.0 a.producer.0 (map stage_in stages) (are.stands a.producer.0 are.climb.0 its)), are.climb.1)
    where
      by_place : has verdicts a.producer.0 ≡ true → (s.0 ≡ a.producer.0) ⊎ Contains (map stage_in stages) a.producer.0 → s.0 + 1 ≤ a.producer.0
      by_place its (inl e) = let no : true ≡ false = sym its ∙ ap (has verdicts) (sym e) ∙ h in let none : ⊥ = cc in absurd none
      by_place its (inr after) = above (s.0 + 1) a.producer.0 (map stage_in stages) are.up.1 after

  rest_without : (floor : ℕ) (s : StageNo) (stages : List StageNo) (acks : List Acknowledgement) → has verdicts s.0 ≡ false
      → Agree floor (s ∷ stages) acks → Agree (s.0 + 1) stages acks
  rest_without floor s stages acks h are =
      let low : floor ≤ s.0 = are.up.0 in
      record {
        up = are.up.1;
        climb = raised floor s stages acks h are;
        each = are.each;
        there = λ p from is. are.there p (omega arith) is;
        back = are.back;
        stands = λ p from is. not_first s.0 p (map stage_in stages) (omega arith) (are.stands p (omega arith) is);
      }

  listed : (floor : ℕ) (stages : List StageNo) (acks : List Acknowledgement) → Agree floor stages acks → acks ≡ entries stages
  listed floor [] [] are = refl
  listed floor [] (a ∷ rest) are =
      let c = are.stands a.producer.0 are.climb.0 (are.back a.producer.0 (first_in a.producer.0 (map producer_in rest))) in absurd (omega (arith, c.1))
  listed floor (s ∷ stages) acks are = by_has (has verdicts s.0) refl acks are (listed (s.0 + 1) stages)
    where
      by_has : (b : Bool) → has verdicts s.0 ≡ b → (acks : List Acknowledgement) → Agree floor (s ∷ stages) acks
          → ((rest : List Acknowledgement) → Agree (s.0 + 1) stages rest → rest ≡ entries stages) → acks ≡ entries (s ∷ stages)
      by_has false h acks are again =
          again acks (rest_without floor s stages acks h are) ∙ ap (λ es. es ++ entries stages) (sym (no_entry s verdicts h))
      by_has true h [] are again = let c = are.there s.0 are.up.0 h in absurd (omega (arith, c.1))
      by_has true h (a ∷ rest) are again =
          let e = same_head floor s stages a rest h are in
          let first = one_ack s a e (are.each 0 a (omega arith)) in
          let later = again rest (rest_with floor s stages a rest e are) in
          (λ i. first i ∷ later i) ∙ ap (λ es. es ++ entries stages) (sym (is_entry s verdicts h))

  -- the acknowledgements of these verdicts are the entries of the stages, of which each producer is one
  pub are_entries : (acks : List Acknowledgement) (stages : List StageNo) → Climbs 0 (map (λ (s : StageNo). s.0) stages)
      → ((p : ℕ) → Contains (map (λ (v : Verdict). v.producer.0) verdicts) p → Contains (map (λ (s : StageNo). s.0) stages) p)
      → AreAcknowledgements verdicts acks → acks ≡ entries stages
  are_entries acks stages up stand are =
      listed 0 stages acks
      (record {
        up = up;
        climb = climbs 0 (map producer_in acks) (λ some. omega arith) are.ascending;
        each = are.each;
        there = λ p from h. (are.producers p).0 (in_has p verdicts h);
        back = λ p c. let in_verdicts = (are.producers p).1 c in has_at p verdicts in_verdicts.0 in_verdicts.1 in_verdicts.2;
        stands = λ p from h. stand p (in_has p verdicts h);
      })
