-- The accepted numbers: they and no others have a place, and each has its content.
use Rattle.std.proofs.Common.{◌≡◌, ℕ, zero, suc, ◌+◌, ◌-◌, ◌<◌, ◌≤◌, List, [], ◌∷◌, length, Bool, true, false, refl, Some, None, Option, inl, inr, arith}
use Rattle.std.specs.Prelude.{if◌then◌else◌, nat_lt, nat_le, option_map, is_some, slice_get, IsSome, ◌↔◌, ◌⊎◌}
use Rattle.std.proofs.lemmas.Bool.{ltb-true, leb-true, lt-ltb, le-leb, cases_lt}
use Rattle.pipe_types.specs.declared.numbers.StageNo.{StageNo}
use Rattle.pipe_types.specs.declared.topology.Topology.{Topology}
use Rattle.pipe_types.specs.declared.message.Message.{Message}
use Rattle.pipe_types.specs.declared.message.Place.{Place}
use Rattle.pipe_types.specs.declared.step.Step.{Step}
use Rattle.pipe_types.specs.declared.step.Step.TheVariants.{Accept, Dispatch, Take, Done, Gather, Close, Wrote, Child, ChildEnd, Kill, Late, Halt}
use Rattle.pipe_types.specs.declared.step.LateAnswer.TheVariants.{Records}
use Rattle.pipe_model.specs.History.{History, accepted}
use Rattle.pipe_model.specs.Content.{has_crash, is_among_next, fresh, record_as, content, changed_by, newer}
use Rattle.pipe_model.specs.Flow.{place, accepted_to}
use Rattle.pipe_laws.proofs.Tests.{and_left, and_right, both, clash}
use Rattle.pipe_laws.proofs.Settled.{is_some_map}

pub among_next : (from count n : ℕ) → is_among_next from count n ≡ true → (from < n) × (n ≤ from + count)
among_next from count n h = (ltb-true from n (and_left (nat_lt from n) _ h), leb-true n (from + count) (and_right (nat_lt from n) _ h))

pub next_among : (from count n : ℕ) → from < n → n ≤ from + count → is_among_next from count n ≡ true
next_among from count n low high = both (nat_lt from n) (nat_le n (from + count)) (lt-ltb from n low) (le-leb n (from + count) high)

come : (from count n : ℕ) (p : Place) (old : Option Place) → is_some (accepted_to from count p n old) ≡ true → (is_some old ≡ true → (1 ≤ n) × (n ≤ from)) → (1 ≤ n) × (n ≤ from + count)
come from count n p (Some q) h rest = let t = rest refl in (t.0, omega (arith, t.1))
come from count n p None h rest = either (is_among_next from count n) refl h
  where
    either : (b : Bool) → is_among_next from count n ≡ b → is_some (if b then Some p else None) ≡ true → (1 ≤ n) × (n ≤ from + count)
    either true e h = let t = among_next from count n e in (omega (arith, t.0), t.1)
    either false e h = cc

-- a message that has a place was accepted
pub placed_accepted : (topology : Topology) (before : History) (n : ℕ) → is_some (place topology before n) ≡ true → (1 ≤ n) × (n ≤ accepted before)
placed_accepted topology [] n h = cc
placed_accepted topology (Accept s records ∷ before) n h = come (accepted before) (length records) n _ (place topology before n) h (placed_accepted topology before n)
placed_accepted topology (Late s slot i (Records records) ∷ before) n h = come (accepted before) (length records) n _ (place topology before n) h (placed_accepted topology before n)
placed_accepted topology (Dispatch s ∷ before) n h = placed_accepted topology before n (is_some_map _ (place topology before n) h)
placed_accepted topology (Take s u k ∷ before) n h = placed_accepted topology before n (is_some_map _ (place topology before n) h)
placed_accepted topology (Done s replies ∷ before) n h = placed_accepted topology before n (either (has_crash replies) _ (place topology before n) h)
  where
    either : (b : Bool) (f : Place → Place) (o : Option Place) → is_some (if b then o else option_map f o) ≡ true → is_some o ≡ true
    either true f o h = h
    either false f o h = is_some_map f o h
placed_accepted topology (Gather s m ∷ before) n h = placed_accepted topology before n (is_some_map _ (place topology before n) h)
placed_accepted topology (Close s first trigger ∷ before) n h = placed_accepted topology before n (is_some_map _ (place topology before n) h)
placed_accepted topology (Wrote s bytes end ∷ before) n h = placed_accepted topology before n (is_some_map _ (place topology before n) h)
placed_accepted topology (Child s m slot ∷ before) n h = placed_accepted topology before n (is_some_map _ (place topology before n) h)
placed_accepted topology (ChildEnd s slot reply ∷ before) n h = placed_accepted topology before n (is_some_map _ (place topology before n) h)
placed_accepted topology (Kill s why ∷ before) n h = placed_accepted topology before n (is_some_map _ (place topology before n) h)
placed_accepted topology (Halt ∷ before) n h = placed_accepted topology before n (is_some_map _ (place topology before n) h)
placed_accepted topology (_ ∷ before) n h = placed_accepted topology before n h

map_some : {A B : Type 0} (f : A → B) (o : Option A) → is_some o ≡ true → is_some (option_map f o) ≡ true
map_some f None h = h
map_some f (Some x) h = refl

gets : (from count n : ℕ) (p : Place) (old : Option Place) → n ≤ from + count → (n ≤ from → is_some old ≡ true) → is_some (accepted_to from count p n old) ≡ true
gets from count n p (Some q) high rest = refl
gets from count n p None high rest = by_order (cases_lt from n)
  where
    either : (b : Bool) → b ≡ true → is_some (if b then Some p else None) ≡ true
    either true e = refl
    either false e = e

    by_order : (from < n) ⊎ (n ≤ from) → is_some (if is_among_next from count n then Some p else None) ≡ true
    by_order (inl low) = either (is_among_next from count n) (next_among from count n low high)
    by_order (inr early) = clash false (rest early) refl

-- an accepted message has a place
pub accepted_placed : (topology : Topology) (before : History) (n : ℕ) → 1 ≤ n → n ≤ accepted before → is_some (place topology before n) ≡ true
accepted_placed topology [] n low high = absurd (omega arith)
accepted_placed topology (Accept s records ∷ before) n low high = gets (accepted before) (length records) n _ (place topology before n) high (accepted_placed topology before n low)
accepted_placed topology (Late s slot i (Records records) ∷ before) n low high = gets (accepted before) (length records) n _ (place topology before n) high (accepted_placed topology before n low)
accepted_placed topology (Dispatch s ∷ before) n low high = map_some _ (place topology before n) (accepted_placed topology before n low high)
accepted_placed topology (Take s u k ∷ before) n low high = map_some _ (place topology before n) (accepted_placed topology before n low high)
accepted_placed topology (Done s replies ∷ before) n low high = either (has_crash replies) _ (place topology before n) (accepted_placed topology before n low high)
  where
    either : (b : Bool) (f : Place → Place) (o : Option Place) → is_some o ≡ true → is_some (if b then o else option_map f o) ≡ true
    either true f o h = h
    either false f o h = map_some f o h
accepted_placed topology (Gather s m ∷ before) n low high = map_some _ (place topology before n) (accepted_placed topology before n low high)
accepted_placed topology (Close s first trigger ∷ before) n low high = map_some _ (place topology before n) (accepted_placed topology before n low high)
accepted_placed topology (Wrote s bytes end ∷ before) n low high = map_some _ (place topology before n) (accepted_placed topology before n low high)
accepted_placed topology (Child s m slot ∷ before) n low high = map_some _ (place topology before n) (accepted_placed topology before n low high)
accepted_placed topology (ChildEnd s slot reply ∷ before) n low high = map_some _ (place topology before n) (accepted_placed topology before n low high)
accepted_placed topology (Kill s why ∷ before) n low high = map_some _ (place topology before n) (accepted_placed topology before n low high)
accepted_placed topology (Halt ∷ before) n low high = map_some _ (place topology before n) (accepted_placed topology before n low high)
accepted_placed topology (_ ∷ before) n low high = accepted_placed topology before n low high

-- the accepted numbers and no others have a place
pub accepted_only : (topology : Topology) (before : History) (n : ℕ) → IsSome (place topology before n) ↔ ((1 ≤ n) × (n ≤ accepted before))
accepted_only topology before n = (placed_accepted topology before n, λ t. accepted_placed topology before n t.0 t.1)

-- Content

newer_some : (new old : Option Message) → is_some old ≡ true → is_some (newer new old) ≡ true
newer_some (Some m) old h = refl
newer_some None old h = h

new_some : (new old : Option Message) → is_some new ≡ true → is_some (newer new old) ≡ true
new_some (Some m) old h = refl
new_some None old h = cc

within_some : (records : List (List ℕ)) (i : ℕ) → i < length records → is_some (slice_get records i) ≡ true
within_some [] i h = absurd (omega arith)
within_some (r ∷ records) zero h = refl
within_some (r ∷ records) (suc i) h = within_some records i (omega arith)

record_some : (s : StageNo) (n : ℕ) (o : Option (List ℕ)) → is_some o ≡ true → is_some (record_as s n o) ≡ true
record_some s n None h = h
record_some s n (Some bytes) h = refl

fresh_some : (s : StageNo) (from : ℕ) (records : List (List ℕ)) (n : ℕ) → from < n → n ≤ from + length records → is_some (fresh s from records n) ≡ true
fresh_some s from records n low high = either (nat_lt from n) (lt-ltb from n low)
  where
    either : (b : Bool) → b ≡ true → is_some (if b then record_as s n (slice_get records (n - (from + 1))) else None) ≡ true
    either true e = record_some s n (slice_get records (n - (from + 1))) (within_some records (n - (from + 1)) (omega arith))
    either false e = e

has_content : (s : StageNo) (from : ℕ) (records : List (List ℕ)) (n : ℕ) (old : Option Message) → n ≤ from + length records → (n ≤ from → is_some old ≡ true) → is_some (newer (fresh s from records n) old) ≡ true
has_content s from records n old high rest = by_order (cases_lt from n)
  where
    by_order : (from < n) ⊎ (n ≤ from) → is_some (newer (fresh s from records n) old) ≡ true
    by_order (inl low) = new_some (fresh s from records n) old (fresh_some s from records n low high)
    by_order (inr early) = newer_some (fresh s from records n) old (rest early)

-- an accepted message has a content
pub accepted_content : (before : History) (n : ℕ) → 1 ≤ n → n ≤ accepted before → is_some (content before n) ≡ true
accepted_content [] n low high = absurd (omega arith)
accepted_content (Accept s records ∷ before) n low high = has_content s (accepted before) records n (content before n) high (accepted_content before n low)
accepted_content (Late s slot i (Records records) ∷ before) n low high = has_content s (accepted before) records n (content before n) high (accepted_content before n low)
accepted_content (step ∷ before) n low high = newer_some (changed_by (accepted before) step n) (content before n) (accepted_content before n low high)

-- a message that has a place has a content
pub placed_content : (topology : Topology) (before : History) (n : ℕ) → is_some (place topology before n) ≡ true → is_some (content before n) ≡ true
placed_content topology before n h = let t = placed_accepted topology before n h in accepted_content before n t.0 t.1

pub content_kept : (before : History) (step : Step) (n : ℕ) → is_some (content before n) ≡ true → is_some (content (step ∷ before) n) ≡ true
content_kept before step n h = newer_some (changed_by (accepted before) step n) (content before n) h
