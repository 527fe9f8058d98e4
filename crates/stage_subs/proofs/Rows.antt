-- The rows of a table after one was written.
use Rattle.std.proofs.Common.{◌≡◌, ◌≢◌, ℕ, zero, suc, ◌+◌, ◌<◌, ◌≤◌, List, [], ◌∷◌, length, get_or, map, take, replicate, ◌++◌, cond, refl, ap, sym, ◌∙◌, ⊎_elim, arith, Option, Some, None, option_map}
use Rattle.std.specs.Prelude.{Bool, true, false, ◌&&◌, ◌==◌, nat_le, nat_lt, count_by, if◌then◌else◌}
use Rattle.std.proofs.Math.ListN.{set}
use Rattle.std.proofs.Math.Seq.{take-nil}
use Rattle.std.proofs.lemmas.Bool.{cases_eq, cases_lt, cases_Bool, cond-true, cond-false}
use Rattle.std.proofs.lemmas.Bool.Decides.{nat_tests}
use Rattle.std.proofs.lemmas.List.{map-set, length-map, length-set, get_or-set_same, get_or-set_other, get_or_default}
use Rattle.std.proofs.lemmas.List.Sums.{sum_by-set, sum_by-cons, count_by-le-length}
use Rattle.pipe_types.specs.declared.numbers.StageNo.{StageNo}
use Rattle.pipe_types.specs.declared.numbers.SubNo.{SubNo}
use Rattle.stage_demand.specs.Demand.{due_of}
use Rattle.stage_subs.specs.declared.SubRow.{SubRow}
use Rattle.stage_subs.specs.declared.TheConstants.{LAST_STAGE}
use Rattle.stage_subs.specs.Pairs.{PairRow}
use Rattle.stage_subs.specs.Subs.{rows_of, seen_in, slot_of, row_at, live_in, live_rows, has_due_in, due_rows, due_in, due_on, is_pair, IsPut}

-- two pairs with the same slot are the same pair
apart_slots : (c p d q : StageNo) → p.0 ≤ 64 → q.0 ≤ 64 → is_pair c p d q ≡ false → slot_of d q ≢ slot_of c p
apart_slots c p d q hp hq apart same =
    ⊎_elim
    (λ (one : d.0 ≡ c.0). let two : q.0 ≡ p.0 = omega arith in absurd (grind (arith, nat_tests)))
    (λ other. absurd (omega arith))
    (cases_eq d.0 c.0)

same_pair : (c p d q : StageNo) → is_pair c p d q ≡ true → (d.0 ≡ c.0) × (q.0 ≡ p.0)
same_pair c p d q h = grind (arith, nat_tests)

row_within : (table : List (Option PairRow)) (c p : StageNo) → p.0 ≤ 64 → row_at table c p ≡ get_or table (slot_of c p) None
row_within table c p h = cond-true (nat_le p.0 LAST_STAGE) _ _ (grind (arith, nat_tests))

row_past : (table : List (Option PairRow)) (c p : StageNo) → 64 < p.0 → row_at table c p ≡ None
row_past table c p h = cond-false (nat_le p.0 LAST_STAGE) _ _ (grind (arith, nat_tests))

far_apart : (c p d q : StageNo) → p.0 ≤ 64 → 64 < q.0 → is_pair c p d q ≡ false
far_apart c p d q hp hq = grind (arith, nat_tests)

row_put : (table : List (Option PairRow)) (c p : StageNo) (row : PairRow) → slot_of c p < length table → p.0 ≤ 64 → (d q : StageNo) → row_at (set table (slot_of c p) (Some row)) d q ≡ (if is_pair c p d q then Some row else row_at table d q)
row_put table c p row within hp d q = ⊎_elim far near (cases_lt 64 q.0)
  where
    new : List (Option PairRow)
    new = set table (slot_of c p) (Some row)

    far : 64 < q.0 → row_at new d q ≡ (if is_pair c p d q then Some row else row_at table d q)
    far h = row_past new d q h ∙ sym (cond-false _ _ _ (far_apart c p d q hp h) ∙ row_past table d q h)

    here : q.0 ≤ 64 → is_pair c p d q ≡ true → row_at new d q ≡ (if is_pair c p d q then Some row else row_at table d q)
    here h same =
        let at : slot_of d q ≡ slot_of c p = let e = same_pair c p d q same in omega arith in
        row_within new d q h
        ∙ (ap (λ (i : ℕ). get_or new i None) at
        ∙ (get_or-set_same table (slot_of c p) (Some row) None within ∙ sym (cond-true _ _ _ same)))

    there : q.0 ≤ 64 → is_pair c p d q ≡ false → row_at new d q ≡ (if is_pair c p d q then Some row else row_at table d q)
    there h other =
        row_within new d q h
        ∙ (get_or-set_other table (slot_of c p) (slot_of d q) (Some row) None (apart_slots c p d q hp h other)
        ∙ (sym (row_within table d q h) ∙ sym (cond-false _ _ _ other)))

    near : q.0 ≤ 64 → row_at new d q ≡ (if is_pair c p d q then Some row else row_at table d q)
    near h = ⊎_elim (here h) (there h) (cases_Bool (is_pair c p d q))

pub put_rows : (rows : List (Option SubRow)) (c p : StageNo) (row : SubRow) → slot_of c p < length rows → p.0 ≤ 64 → IsPut (rows_of rows) (rows_of (set rows (slot_of c p) (Some row))) c p (seen_in row)
put_rows rows c p row within hp =
    record {
      rows = λ d q. ap (λ (t : List (Option PairRow)). row_at t d q) (map-set (option_map seen_in) rows (slot_of c p) (Some row))
          ∙ row_put (rows_of rows) c p (seen_in row) (rw length-map within) hp d q;
    }

seen_at : (rows : List (Option SubRow)) (i : ℕ) → option_map seen_in (get_or rows i None) ≡ get_or (rows_of rows) i None
seen_at [] i = refl
seen_at (row ∷ rows) zero = refl
seen_at (row ∷ rows) (suc i) = seen_at rows i

pub put_live : (rows : List (Option SubRow)) (c p : StageNo) (row : SubRow) → slot_of c p < length rows → p.0 ≤ 64
    → live_rows (rows_of (set rows (slot_of c p) (Some row))) + (if live_in (row_at (rows_of rows) c p) then 1 else 0) ≡ live_rows (rows_of rows) + (if row.live then 1 else 0)
put_live rows c p row within hp =
    ap (λ (t : List (Option PairRow)). live_rows t + (if live_in (row_at (rows_of rows) c p) then 1 else 0)) (map-set (option_map seen_in) rows (slot_of c p) (Some row))
    ∙ (ap (λ (o : Option PairRow). live_rows (set (rows_of rows) (slot_of c p) (Some (seen_in row))) + (if live_in o then 1 else 0)) (row_within (rows_of rows) c p hp)
    ∙ sum_by-set (λ (o : Option PairRow). cond {A = ℕ} (live_in o) 1 0) (rows_of rows) (slot_of c p) (Some (seen_in row)) None (rw length-map within))

-- of the row that stands there before and the one that is written, in which an ask is due counts
pub put_due : (rows : List (Option SubRow)) (c p : StageNo) (old : Option SubRow) (row : SubRow) → slot_of c p < length rows → old ≡ get_or rows (slot_of c p) old
    → due_rows (rows_of (set rows (slot_of c p) (Some row))) + (if has_due_in (option_map seen_in old) then 1 else 0) ≡ due_rows (rows_of rows) + (if has_due_in (Some (seen_in row)) then 1 else 0)
put_due rows c p old row within is =
    ap (λ (t : List (Option PairRow)). due_rows t + (if has_due_in (option_map seen_in old) then 1 else 0)) (map-set (option_map seen_in) rows (slot_of c p) (Some row))
    ∙ (ap (λ (o : Option PairRow). due_rows (set (rows_of rows) (slot_of c p) (Some (seen_in row))) + (if has_due_in o then 1 else 0)) (ap (option_map seen_in) (is ∙ get_or_default rows (slot_of c p) old None within) ∙ seen_at rows (slot_of c p))
    ∙ sum_by-set (λ (o : Option PairRow). cond {A = ℕ} (has_due_in o) 1 0) (rows_of rows) (slot_of c p) (Some (seen_in row)) None (rw length-map within))

pub due_most : (rows : List (Option SubRow)) (i : ℕ) (row : SubRow) → length rows ≡ 4225 → due_rows (rows_of (set rows i (Some row))) ≤ 4225
due_most rows i row sized =
    let most : due_rows (rows_of (set rows i (Some row))) ≤ length (rows_of (set rows i (Some row))) = count_by-le-length has_due_in (rows_of (set rows i (Some row))) in
    let long : length (rows_of (set rows i (Some row))) ≡ 4225 = length-map (set rows i (Some row)) (option_map seen_in) ∙ (length-set rows i (Some row) ∙ sized) in
    omega (arith, most, long)

pub one_less : (was is : Bool) (new old count : ℕ) → new + (if was then 1 else 0) ≡ old + (if is then 1 else 0) → old ≡ count → was ≡ true → is ≡ false → 1 ≤ count
one_less true false new old count counts same w i = omega (arith, counts, same)
one_less true true new old count counts same w i = cc
one_less false is new old count counts same w i = cc

pub one_more : (was is : Bool) (new old count : ℕ) → new + (if was then 1 else 0) ≡ old + (if is then 1 else 0) → old ≡ count → new ≤ 4225 → was ≡ false → is ≡ true → count < 4225
one_more false true new old count counts same most w i = omega (arith, counts, same, most)
one_more false false new old count counts same most w i = cc
one_more true is new old count counts same most w i = cc

-- a table with no subscription in it yet says nothing of any pair
none_at : (n i : ℕ) → get_or (map (option_map seen_in) (replicate n None)) i None ≡ None
none_at zero i = refl
none_at (suc n) zero = refl
none_at (suc n) (suc i) = none_at n i

pub rows_made : (n : ℕ) (c p : StageNo) → row_at (rows_of (replicate n None)) c p ≡ row_at (rows_of []) c p
rows_made n c p = ap (λ (o : Option PairRow). if nat_le p.0 LAST_STAGE then o else None) (none_at n (slot_of c p))

pub none_live : (n : ℕ) → live_rows (rows_of (replicate n None)) ≡ 0
none_live zero = refl
none_live (suc n) = none_live n

grown : (n k : ℕ) (old new : List (Option SubRow)) → old ≡ [] → new ≡ take n old ++ replicate k None → new ≡ replicate k None
grown n k old new none is = is ∙ ap (λ (l : List (Option SubRow)). take n l ++ replicate k None) none ∙ ap (λ (l : List (Option SubRow)). l ++ replicate k None) (take-nil n)

pub same_rows : (n k : ℕ) (old new : List (Option SubRow)) → old ≡ [] → new ≡ take n old ++ replicate k None → (c p : StageNo) → row_at (rows_of new) c p ≡ row_at (rows_of old) c p
same_rows n k old new none is c p =
    ap (λ (l : List (Option SubRow)). row_at (rows_of l) c p) (grown n k old new none is)
    ∙ (rows_made k c p ∙ ap (λ (l : List (Option SubRow)). row_at (rows_of l) c p) (sym none))

pub same_live : (n k : ℕ) (old new : List (Option SubRow)) → old ≡ [] → new ≡ take n old ++ replicate k None → live_rows (rows_of new) ≡ live_rows (rows_of old)
same_live n k old new none is =
    ap (λ (l : List (Option SubRow)). live_rows (rows_of l)) (grown n k old new none is)
    ∙ (none_live k ∙ ap (λ (l : List (Option SubRow)). live_rows (rows_of l)) (sym none))

none_due : (n : ℕ) → due_rows (rows_of (replicate n None)) ≡ 0
none_due zero = refl
none_due (suc n) = none_due n

pub same_due : (n k : ℕ) (old new : List (Option SubRow)) → old ≡ [] → new ≡ take n old ++ replicate k None → due_rows (rows_of new) ≡ due_rows (rows_of old)
same_due n k old new none is =
    ap (λ (l : List (Option SubRow)). due_rows (rows_of l)) (grown n k old new none is)
    ∙ (none_due k ∙ ap (λ (l : List (Option SubRow)). due_rows (rows_of l)) (sym none))

-- where no row has an ask due, none is due on any subscription

not_first : (b : Bool) (n : ℕ) → cond b 1 0 + n ≡ 0 → b ≡ false
not_first false n h = refl
not_first true n h = absurd (omega (arith, h))

not_later : (b : Bool) (n : ℕ) → cond b 1 0 + n ≡ 0 → n ≡ 0
not_later b n h = omega (arith, h)

none_has : (rows : List (Option PairRow)) → count_by has_due_in rows ≡ 0 → (i : ℕ) → has_due_in (get_or rows i None) ≡ false
none_has [] h i = refl
none_has (row ∷ rows) h zero = not_first (has_due_in row) (count_by has_due_in rows) (sym (sum_by-cons (λ (o : Option PairRow). cond {A = ℕ} (has_due_in o) 1 0) row rows) ∙ h)
none_has (row ∷ rows) h (suc i) = none_has rows (not_later (has_due_in row) (count_by has_due_in rows) (sym (sum_by-cons (λ (o : Option PairRow). cond {A = ℕ} (has_due_in o) 1 0) row rows) ∙ h)) i

zero_if : (n : ℕ) → nat_lt 0 n ≡ false → n ≡ 0
zero_if n h = grind (arith, nat_tests)

due_zero : (live now : Bool) (n : ℕ) → (live && nat_lt 0 n) ≡ false → (if live && now then n else 0) ≡ 0
due_zero true true n h = zero_if n h
due_zero true false n h = refl
due_zero false now n h = refl

due_none : (row : Option PairRow) (g : ℕ) → has_due_in row ≡ false → due_in row g ≡ 0
due_none None g h = refl
due_none (Some row) g h = due_zero row.is_live (row.generation == g) (due_of row.counts) h

pub no_due : (table : List (Option PairRow)) → nat_lt 0 (due_rows table) ≡ false → (u : SubNo) → due_on table u ≡ 0
no_due table none u = due_none (row_at table u.consumer u.producer) u.generation (by (nat_le u.producer.0 LAST_STAGE))
  where
    by : (b : Bool) → has_due_in (if b then get_or table (slot_of u.consumer u.producer) None else None) ≡ false
    by true = none_has table (zero_if (due_rows table) none) (slot_of u.consumer u.producer)
    by false = refl
