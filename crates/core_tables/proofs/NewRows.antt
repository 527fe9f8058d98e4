-- New rows behind those of a table.
use Rattle.std.proofs.Common.{◌≡◌, ℕ, zero, suc, ◌+◌, ◌-◌, ◌<◌, ◌≤◌, List, [], ◌∷◌, ◌++◌, length, replicate, true, false, refl, ap, sym, ◌∙◌, Some, None, Option, arith}
use Rattle.std.specs.Prelude.{slice_get, if◌then◌else◌}
use Rattle.std.proofs.lemmas.Bool.Decides.{nat_tests}
use Rattle.pipe_types.specs.declared.message.Place.{Place}
use Rattle.pipe_model.specs.Content.{is_among_next}
use Rattle.pipe_model.specs.Flow.{accepted_to}
use Rattle.core_tables.specs.declared.rows.ContentRow.{ContentRow}
use Rattle.core_tables.specs.Tables.{contents_up}

-- one number on, the question is the same
among_more : (k m n : ℕ) → is_among_next (suc k) m (suc n) ≡ is_among_next k m n
among_more k m n = grind (arith, nat_tests)

-- a number that was there is none of the next
among_old : (k m : ℕ) → is_among_next (suc k) m 1 ≡ false
among_old k m = grind (arith, nat_tests)

among_none : (i : ℕ) → is_among_next 0 0 (suc i) ≡ false
among_none i = grind (arith, nat_tests)

among_first : (m : ℕ) → is_among_next 0 (suc m) 1 ≡ true
among_first m = grind (arith, nat_tests)

among_next : (m i : ℕ) → is_among_next 0 m (suc i) ≡ is_among_next 0 (suc m) (suc (suc i))
among_next m i = grind (arith, nat_tests)

-- The same in each new row

new_rows : {A : Type 0} (m : ℕ) (x : A) (i : ℕ) → slice_get (replicate m x) i ≡ (if is_among_next 0 m (suc i) then Some x else None)
new_rows zero x i = sym (ap (λ b. if b then Some x else None) (among_none i))
new_rows (suc m) x zero = sym (ap (λ b. if b then Some x else None) (among_first m))
new_rows (suc m) x (suc i) = new_rows m x i ∙ ap (λ b. if b then Some x else None) (among_next m i)

pub behind : {A : Type 0} (xs : List A) (m : ℕ) (x : A) (i : ℕ) → slice_get (xs ++ replicate m x) i ≡ (if is_among_next (length xs) m (suc i) then Some x else slice_get xs i)
behind [] m x i = new_rows m x i
behind (y ∷ xs) m x zero = sym (ap (λ b. if b then Some x else Some y) (among_old (length xs) m))
behind (y ∷ xs) m x (suc i) = behind xs m x i ∙ ap (λ b. if b then Some x else slice_get xs i) (sym (among_more (length xs) m (suc i)))

pub placed_new : (xs : List Place) (m : ℕ) (p : Place) (i : ℕ) → slice_get (xs ++ replicate m p) i ≡ accepted_to (length xs) m p (suc i) (slice_get xs i)
placed_new [] m p i = new_rows m p i
placed_new (x ∷ xs) m p zero = refl
placed_new (x ∷ xs) m p (suc i) = placed_new xs m p i ∙ more (slice_get xs i)
  where
    more : (o : Option Place) → accepted_to (length xs) m p (suc i) o ≡ accepted_to (length (x ∷ xs)) m p (suc (suc i)) o
    more None = sym (ap (λ b. if b then Some p else None) (among_more (length xs) m (suc i)))
    more (Some q) = refl

-- Marks

new_marks : (m : ℕ) (v i : ℕ) → i < m → v ≡ 0 → slice_get (replicate m 0) i ≡ Some v
new_marks zero v i h e = absurd (omega arith)
new_marks (suc m) v zero h e = ap Some (sym e)
new_marks (suc m) v (suc i) h e = new_marks m v i (omega arith) e

pub marked_new : (xs : List ℕ) (m v i : ℕ) → i < length xs + m → (i < length xs → slice_get xs i ≡ Some v) → (length xs ≤ i → v ≡ 0) → slice_get (xs ++ replicate m 0) i ≡ Some v
marked_new [] m v i h old new = new_marks m v i (omega arith) (new (omega arith))
marked_new (x ∷ xs) m v zero h old new = old (omega arith)
marked_new (x ∷ xs) m v (suc i) h old new = marked_new xs m v i (omega arith) (λ low. old (omega arith)) (λ far. new (omega arith))

-- Contents

abbrev row : (entry item : ℕ) → ContentRow
row entry item = record { entry = entry; item = item }

new_contents : (entry k m i : ℕ) → slice_get (contents_up entry k m) i ≡ (if is_among_next 0 m (suc i) then Some (row entry (k + (suc i - (0 + 1)))) else None)
new_contents entry k zero i = sym (ap (λ b. if b then Some (row entry (k + (suc i - (0 + 1)))) else None) (among_none i))
new_contents entry k (suc m) zero =
    let e : k ≡ k + (1 - (0 + 1)) = omega arith in
    ap (λ j. Some (row entry j)) e ∙ sym (ap (λ b. if b then Some (row entry (k + (1 - (0 + 1)))) else None) (among_first m))
new_contents entry k (suc m) (suc i) =
    let later : k + 1 + (suc i - (0 + 1)) ≡ k + (suc (suc i) - (0 + 1)) = omega arith in
    new_contents entry (k + 1) m i
    ∙ (ap (λ j. if is_among_next 0 m (suc i) then Some (row entry j) else None) later
    ∙ ap (λ b. if b then Some (row entry (k + (suc (suc i) - (0 + 1)))) else None) (among_next m i))

contents_behind : (xs : List ContentRow) (entry k m i : ℕ)
    → slice_get (xs ++ contents_up entry k m) i ≡ (if is_among_next (length xs) m (suc i) then Some (row entry (k + (suc i - (length xs + 1)))) else slice_get xs i)
contents_behind [] entry k m i = new_contents entry k m i
contents_behind (x ∷ xs) entry k m zero = sym (ap (λ b. if b then Some (row entry (k + (1 - (length (x ∷ xs) + 1)))) else Some x) (among_old (length xs) m))
contents_behind (x ∷ xs) entry k m (suc i) =
    let e : k + (suc i - (length xs + 1)) ≡ k + (suc (suc i) - (length (x ∷ xs) + 1)) = omega arith in
    contents_behind xs entry k m i
    ∙ (ap (λ j. if is_among_next (length xs) m (suc i) then Some (row entry j) else slice_get xs i) e
    ∙ ap (λ b. if b then Some (row entry (k + (suc (suc i) - (length (x ∷ xs) + 1)))) else slice_get xs i) (sym (among_more (length xs) m (suc i))))

pub contents_new : (xs : List ContentRow) (entry m i : ℕ)
    → slice_get (xs ++ contents_up entry 0 m) i ≡ (if is_among_next (length xs) m (suc i) then Some (row entry (suc i - (length xs + 1))) else slice_get xs i)
contents_new xs entry m i =
    let e : 0 + (suc i - (length xs + 1)) ≡ suc i - (length xs + 1) = omega arith in
    contents_behind xs entry 0 m i ∙ ap (λ j. if is_among_next (length xs) m (suc i) then Some (row entry j) else slice_get xs i) e

pub contents_count : (entry k m : ℕ) → length (contents_up entry k m) ≡ m
contents_count entry k zero = refl
contents_count entry k (suc m) = ap suc (contents_count entry (k + 1) m)
