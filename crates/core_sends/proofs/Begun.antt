-- The legs and the subscriptions of the batches that are sent, unit by unit.
use Rattle.std.proofs.Common.{◌≡◌, ◌≢◌, ℕ, zero, suc, ◌+◌, ◌-◌, ◌<◌, ◌≤◌, List, [], ◌∷◌, length, drop, set, get_or, Bool, true, false, refl, ap, sym, ◌∙◌, Some, None, Option, arith, inl, inr}
use Rattle.std.specs.Prelude.{slice_get, option_map, if◌then◌else◌, ◌==◌, ◌⊎◌}
use Rattle.std.proofs.lemmas.List.{at_drop_more}
use Rattle.pipe_types.specs.declared.numbers.SubNo.{SubNo}
use Rattle.pipe_types.specs.declared.room.Sent.{Sent}
use Rattle.pipe_model.specs.Flow.{is_empty, subs_of}
use Rattle.message_ack.specs.Ends.{Ends, with_leg}
use Rattle.core_tables.specs.declared.rows.BatchRow.{BatchRow}
use Rattle.core_tables.proofs.Tables.{same_or_other, get-set_same, get-set_other}
use Rattle.core_state.specs.Stands.{closed_seen}
use Rattle.core_sends.specs.Batches.{with_legs, closed_at, subs_at, subs_seen}

some_within : {A : Type 0} (rows : List A) (k : ℕ) (row : A) → slice_get rows k ≡ Some row → k < length rows
some_within [] k row e = cc
some_within (x ∷ rows) zero row e = omega arith
some_within (x ∷ rows) (suc k) row e = let rest = some_within rows k row e in omega arith

-- the batch of a unit is sent on some subscription
pub some_sub : (units : List Sent) (k : ℕ) (none : Sent) → k < length units → is_empty (subs_of units (get_or units k none).unit) ≡ false
some_sub [] k none below = absurd (omega arith)
some_sub (d ∷ units) zero none below = by (same_or_other d.unit d.unit)
  where
    by : (((d.unit == d.unit) ≡ true) × (d.unit ≡ d.unit)) ⊎ (((d.unit == d.unit) ≡ false) × (d.unit ≢ d.unit)) → is_empty (subs_of (d ∷ units) d.unit) ≡ false
    by (inl same) = ap (λ b. is_empty (if b then d.sub ∷ subs_of units d.unit else subs_of units d.unit)) same.0
    by (inr other) = absurd (other.1 refl)
some_sub (d ∷ units) (suc k) none below = by (d.unit == (get_or units k none).unit) (some_sub units k none (omega arith))
  where
    by : (b : Bool) → is_empty (subs_of units (get_or units k none).unit) ≡ false
        → is_empty (if b then d.sub ∷ subs_of units (get_or units k none).unit else subs_of units (get_or units k none).unit) ≡ false
    by true rest = refl
    by false rest = rest

-- so it is another one than a batch that is not sent
pub other_batch : (units : List Sent) (k : ℕ) (none : Sent) (b : ℕ) → k < length units → is_empty (subs_of units b) ≡ true → b ≢ (get_or units k none).unit
other_batch units k none b below sent_not same = let wrong : true ≡ false = sym sent_not ∙ (ap (λ n. is_empty (subs_of units n)) same ∙ some_sub units k none below) in cc

pub kept_else : {A : Type 0} (b n : ℕ) (x y : A) → b ≢ n → (if b == n then x else y) ≡ y
kept_else b n x y other = by (same_or_other b n)
  where
    by : (((b == n) ≡ true) × (b ≡ n)) ⊎ (((b == n) ≡ false) × (b ≢ n)) → (if b == n then x else y) ≡ y
    by (inl same) = absurd (other same.1)
    by (inr apart) = ap (λ c. if c then x else y) apart.0

leg_step : (messages : ℕ → ℕ) (d : Sent) (rest : List Sent) (b : ℕ) (old new : Option Ends)
    → new ≡ (if b == d.unit then Some (with_leg (messages d.unit) old) else old)
    → with_legs (messages b) (subs_of rest b) new ≡ with_legs (messages b) (subs_of (d ∷ rest) b) old
leg_step messages d rest b old new is = ap (with_legs (messages b) (subs_of rest b)) is ∙ by (same_or_other b d.unit) (same_or_other d.unit b)
  where
    by : (((b == d.unit) ≡ true) × (b ≡ d.unit)) ⊎ (((b == d.unit) ≡ false) × (b ≢ d.unit)) → (((d.unit == b) ≡ true) × (d.unit ≡ b)) ⊎ (((d.unit == b) ≡ false) × (d.unit ≢ b))
        → with_legs (messages b) (subs_of rest b) (if b == d.unit then Some (with_leg (messages d.unit) old) else old) ≡ with_legs (messages b) (if d.unit == b then d.sub ∷ subs_of rest b else subs_of rest b) old
    by (inl same) (inl again) =
        ap (λ c. with_legs (messages b) (subs_of rest b) (if c then Some (with_leg (messages d.unit) old) else old)) same.0
        ∙ (ap (λ n. with_legs (messages b) (subs_of rest b) (Some (with_leg (messages n) old))) again.1
        ∙ sym (ap (λ c. with_legs (messages b) (if c then d.sub ∷ subs_of rest b else subs_of rest b) old) again.0))
    by (inr other) (inr again) =
        ap (λ c. with_legs (messages b) (subs_of rest b) (if c then Some (with_leg (messages d.unit) old) else old)) other.0
        ∙ sym (ap (λ c. with_legs (messages b) (if c then d.sub ∷ subs_of rest b else subs_of rest b) old) again.0)
    by (inl same) (inr again) = absurd (again.1 (sym same.1))
    by (inr other) (inl again) = absurd (other.1 (sym again.1))

-- one leg more
pub begun_step : (messages : ℕ → ℕ) (units : List Sent) (k : ℕ) (none : Sent) (b : ℕ) (old new : Option Ends) → k < length units
    → new ≡ (if b == (get_or units k none).unit then Some (with_leg (messages (get_or units k none).unit) old) else old)
    → with_legs (messages b) (subs_of (drop (k + 1) units) b) new ≡ with_legs (messages b) (subs_of (drop k units) b) old
begun_step messages units k none b old new below is =
    leg_step messages (get_or units k none) (drop (k + 1) units) b old new is
    ∙ sym (at_drop_more (λ us. with_legs (messages b) (subs_of us b) old) units k none below)

-- one batch more is forgotten
forget_one : (d : Sent) (rest : List Sent) (b : ℕ) (old new : Option Ends) → new ≡ (if b == d.unit then None else old)
    → (if is_empty (subs_of rest b) then new else None) ≡ (if is_empty (subs_of (d ∷ rest) b) then old else None)
forget_one d rest b old new is = ap (λ o. if is_empty (subs_of rest b) then o else None) is ∙ by (same_or_other b d.unit) (same_or_other d.unit b)
  where
    nothing : (c : Bool) → ◌≡◌ {A = Option Ends} (if c then None else None) None
    nothing true = refl
    nothing false = refl

    by : (((b == d.unit) ≡ true) × (b ≡ d.unit)) ⊎ (((b == d.unit) ≡ false) × (b ≢ d.unit)) → (((d.unit == b) ≡ true) × (d.unit ≡ b)) ⊎ (((d.unit == b) ≡ false) × (d.unit ≢ b))
        → (if is_empty (subs_of rest b) then (if b == d.unit then None else old) else None) ≡ (if is_empty (if d.unit == b then d.sub ∷ subs_of rest b else subs_of rest b) then old else None)
    by (inl same) (inl again) =
        ap (λ c. if is_empty (subs_of rest b) then (if c then None else old) else None) same.0
        ∙ (nothing (is_empty (subs_of rest b)) ∙ sym (ap (λ c. if is_empty (if c then d.sub ∷ subs_of rest b else subs_of rest b) then old else None) again.0))
    by (inr other) (inr again) =
        ap (λ c. if is_empty (subs_of rest b) then (if c then None else old) else None) other.0
        ∙ sym (ap (λ c. if is_empty (if c then d.sub ∷ subs_of rest b else subs_of rest b) then old else None) again.0)
    by (inl same) (inr again) = absurd (again.1 (sym same.1))
    by (inr other) (inl again) = absurd (other.1 (sym again.1))

pub forget_step : (units : List Sent) (k : ℕ) (none : Sent) (b : ℕ) (old new : Option Ends) → k < length units → new ≡ (if b == (get_or units k none).unit then None else old)
    → (if is_empty (subs_of (drop (k + 1) units) b) then new else None) ≡ (if is_empty (subs_of (drop k units) b) then old else None)
forget_step units k none b old new below is =
    forget_one (get_or units k none) (drop (k + 1) units) b old new is
    ∙ sym (at_drop_more (λ us. if is_empty (subs_of us b) then old else None) units k none below)

-- The rows

-- a row whose subscriptions alone change
pub closed_set : (rows : List BatchRow) (k : ℕ) (row new : BatchRow) (i : ℕ) → slice_get rows k ≡ Some row → closed_seen new ≡ closed_seen row → closed_at (set rows k new) i ≡ closed_at rows i
closed_set rows k row new i was same = by (same_or_other i k)
  where
    within : k < length rows
    within = some_within rows k row was

    by : (((i == k) ≡ true) × (i ≡ k)) ⊎ (((i == k) ≡ false) × (i ≢ k)) → closed_at (set rows k new) i ≡ closed_at rows i
    by (inl here) =
        ap (closed_at (set rows k new)) here.1 ∙ (ap (option_map closed_seen) (get-set_same rows k new within)
        ∙ (ap Some same ∙ sym (ap (closed_at rows) here.1 ∙ ap (option_map closed_seen) was)))
    by (inr other) = ap (option_map closed_seen) (get-set_other rows k i new other.1)

pub subs_set_other : (rows : List BatchRow) (k : ℕ) (new : BatchRow) (i : ℕ) → i ≢ k → subs_at (set rows k new) i ≡ subs_at rows i
subs_set_other rows k new i other = ap (option_map subs_seen) (get-set_other rows k i new other)

-- what a pass makes of the subscriptions in the rows, unit by unit
pub subs_step : (F : List SubNo → List SubNo → List SubNo) (rows : List BatchRow) (units : List Sent) (k : ℕ) (none : Sent) (row new : BatchRow) (i : ℕ) → k < length units
    → 1 ≤ (get_or units k none).unit → slice_get rows ((get_or units k none).unit - 1) ≡ Some row
    → ((us : List SubNo) → F us new.subs.items ≡ F ((get_or units k none).sub ∷ us) row.subs.items)
    → option_map (F (subs_of (drop (k + 1) units) (suc i))) (subs_at (set rows ((get_or units k none).unit - 1) new) i) ≡ option_map (F (subs_of (drop k units) (suc i))) (subs_at rows i)
subs_step F rows units k none row new i below least was is =
    one (same_or_other i (d.unit - 1)) (same_or_other d.unit (suc i))
    ∙ sym (at_drop_more (λ us. option_map (F (subs_of us (suc i))) (subs_at rows i)) units k none below)
  where
    d : Sent
    d = get_or units k none

    rest : List Sent
    rest = drop (k + 1) units

    one : (((i == (d.unit - 1)) ≡ true) × (i ≡ d.unit - 1)) ⊎ (((i == (d.unit - 1)) ≡ false) × (i ≢ d.unit - 1)) → (((d.unit == suc i) ≡ true) × (d.unit ≡ suc i)) ⊎ (((d.unit == suc i) ≡ false) × (d.unit ≢ suc i))
        → option_map (F (subs_of rest (suc i))) (subs_at (set rows (d.unit - 1) new) i) ≡ option_map (F (if d.unit == suc i then d.sub ∷ subs_of rest (suc i) else subs_of rest (suc i))) (subs_at rows i)
    one (inl here) (inl again) =
        ap (λ j. option_map (F (subs_of rest (suc i))) (subs_at (set rows (d.unit - 1) new) j)) here.1
        ∙ (ap (λ o. option_map (F (subs_of rest (suc i))) (option_map subs_seen o)) (get-set_same rows (d.unit - 1) new (some_within rows (d.unit - 1) row was))
        ∙ (ap Some (is (subs_of rest (suc i)))
        ∙ sym (ap (λ c. option_map (F (if c then d.sub ∷ subs_of rest (suc i) else subs_of rest (suc i))) (subs_at rows i)) again.0
        ∙ (ap (λ j. option_map (F (d.sub ∷ subs_of rest (suc i))) (subs_at rows j)) here.1
        ∙ ap (λ o. option_map (F (d.sub ∷ subs_of rest (suc i))) (option_map subs_seen o)) was))))
    one (inr other) (inr again) =
        ap (option_map (F (subs_of rest (suc i)))) (subs_set_other rows (d.unit - 1) new i other.1)
        ∙ sym (ap (λ c. option_map (F (if c then d.sub ∷ subs_of rest (suc i) else subs_of rest (suc i))) (subs_at rows i)) again.0)
    one (inl here) (inr again) = absurd (again.1 (omega (arith, here.1, least)))
    one (inr other) (inl again) = absurd (other.1 (omega (arith, again.1)))

-- a row that is not sent is another one
pub other_row : (units : List Sent) (k : ℕ) (none : Sent) (i : ℕ) → k < length units → 1 ≤ (get_or units k none).unit → is_empty (subs_of units (suc i)) ≡ true → i ≢ (get_or units k none).unit - 1
other_row units k none i below least sent_not same = other_batch units k none (suc i) below sent_not (omega (arith, same, least))

abbrev cleared : List SubNo → Option (List SubNo) → Option (List SubNo)
cleared subs old = if is_empty subs then old else option_map (λ us. []) old

-- one row more is cleared
pub clear_step : (rows : List BatchRow) (units : List Sent) (k : ℕ) (none : Sent) (row new : BatchRow) (i : ℕ) → k < length units
    → 1 ≤ (get_or units k none).unit → slice_get rows ((get_or units k none).unit - 1) ≡ Some row → new.subs.items ≡ []
    → (if is_empty (subs_of (drop (k + 1) units) (suc i)) then subs_at (set rows ((get_or units k none).unit - 1) new) i else option_map (λ (us : List SubNo). []) (subs_at (set rows ((get_or units k none).unit - 1) new) i))
    ≡ (if is_empty (subs_of (drop k units) (suc i)) then subs_at rows i else option_map (λ (us : List SubNo). []) (subs_at rows i))
clear_step rows units k none row new i below least was empty =
    one (same_or_other i (d.unit - 1)) (same_or_other d.unit (suc i))
    ∙ sym (at_drop_more (λ us. cleared (subs_of us (suc i)) (subs_at rows i)) units k none below)
  where
    d : Sent
    d = get_or units k none

    rest : List Sent
    rest = drop (k + 1) units

    both : (b : Bool) → ◌≡◌ {A = Option (List SubNo)} (if b then Some [] else Some []) (Some [])
    both true = refl
    both false = refl

    one : (((i == (d.unit - 1)) ≡ true) × (i ≡ d.unit - 1)) ⊎ (((i == (d.unit - 1)) ≡ false) × (i ≢ d.unit - 1)) → (((d.unit == suc i) ≡ true) × (d.unit ≡ suc i)) ⊎ (((d.unit == suc i) ≡ false) × (d.unit ≢ suc i))
        → cleared (subs_of rest (suc i)) (subs_at (set rows (d.unit - 1) new) i) ≡ cleared (if d.unit == suc i then d.sub ∷ subs_of rest (suc i) else subs_of rest (suc i)) (subs_at rows i)
    one (inl here) (inl again) =
        let now : subs_at (set rows (d.unit - 1) new) i ≡ Some [] =
        ap (subs_at (set rows (d.unit - 1) new)) here.1 ∙ (ap (option_map subs_seen) (get-set_same rows (d.unit - 1) new (some_within rows (d.unit - 1) row was)) ∙ ap Some empty) in
        let old : subs_at rows i ≡ Some row.subs.items = ap (subs_at rows) here.1 ∙ ap (option_map subs_seen) was in
        ap (cleared (subs_of rest (suc i))) now
        ∙ (both (is_empty (subs_of rest (suc i)))
        ∙ sym (ap (λ c. cleared (if c then d.sub ∷ subs_of rest (suc i) else subs_of rest (suc i)) (subs_at rows i)) again.0 ∙ ap (option_map (λ (us : List SubNo). [])) old))
    one (inr other) (inr again) =
        ap (cleared (subs_of rest (suc i))) (subs_set_other rows (d.unit - 1) new i other.1)
        ∙ sym (ap (λ c. cleared (if c then d.sub ∷ subs_of rest (suc i) else subs_of rest (suc i)) (subs_at rows i)) again.0)
    one (inl here) (inr again) = absurd (again.1 (omega (arith, here.1, least)))
    one (inr other) (inl again) = absurd (other.1 (omega (arith, again.1)))
