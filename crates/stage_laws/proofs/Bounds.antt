-- How many messages and batches there are.
use Rattle.std.proofs.Common.{◌≡◌, ℕ, zero, suc, ◌+◌, ◌*◌, ◌≤◌, List, [], ◌∷◌, ◌++◌, length, Bool, true, false, refl, ap, sym, ◌∙◌, subst, Some, None, Option, arith}
use Rattle.std.specs.Prelude.{if◌then◌else◌, ◌&&◌, ◌||◌, ◌==◌, not, filter, cond, is_some, nat_le, option_map, bytes_eq}
use Rattle.std.proofs.lemmas.Bool.{eqb-true, eq-eqb, ne_eqb, leb-true}
use Rattle.std.proofs.lemmas.Bool.Decides.{nat_tests}
use Rattle.pipe_types.specs.declared.numbers.SubNo.{SubNo}
use Rattle.pipe_types.specs.declared.numbers.StageNo.{StageNo}
use Rattle.pipe_types.specs.declared.numbers.MsgNo.{MsgNo}
use Rattle.pipe_types.specs.declared.topology.Topology.{Topology}
use Rattle.pipe_types.specs.declared.message.Place.{Place}
use Rattle.pipe_types.specs.declared.message.Place.TheVariants.{Gathered, InBatch}
use Rattle.pipe_types.specs.declared.message.Trigger.{Trigger}
use Rattle.pipe_types.specs.declared.step.Step.{Step}
use Rattle.pipe_types.specs.declared.step.Step.TheVariants.{Close, Dispatch}
use Rattle.pipe_types.specs.Numbers.{same_stage, same_sub, batch_no}
use Rattle.pipe_types.specs.Stages.{spec_of}
use Rattle.pipe_model.specs.History.{History, accepted, closed}
use Rattle.pipe_types.specs.declared.room.Sent.{Sent as SentUnit}
use Rattle.pipe_model.specs.Lives.{is_live}
use Rattle.pipe_model.specs.Content.{arrivals, gathers, content, key_in}
use Rattle.pipe_model.specs.Flow.{place, batch, view_of, sent, sent_to, waiting, is_batcher, is_gathered_in, among, first_in, closing, units_on, put_in_batch, batch_waits_in, waits_in, count_on, delivered_to, deliveries}
use Rattle.pipe_model.specs.Legal.{is_legal, allows, has_role, is_batcher_role}
use Rattle.pipe_model.specs.Ledger.{handled}
use Rattle.pipe_laws.proofs.Tests.{clash, and_left, and_right, same_stage-self, same_sub-true}
use Rattle.pipe_laws.proofs.Lists.{Each, each_always, each_weaker, each_filter}
use Rattle.pipe_laws.proofs.Places.{move_by}
use Rattle.pipe_laws.proofs.Levels.{rank, rank_most, level, level_most, level_grows, feeds_down}
use Rattle.pipe_laws.proofs.Accepted.{placed_accepted}
use Rattle.pipe_laws.proofs.Settled.{batch_within}
use Rattle.pipe_laws.proofs.Allowed.{legal_before, legal_step, unowed}
use Rattle.pipe_laws.proofs.Entries.{EntryFits, entries_fit, sent_exists}
use Rattle.pipe_laws.proofs.Handled.{handled_within}
use Rattle.queue_laws.proofs.Apart.{Apart, apart_kept, each_kept, apart_mapped, each_mapped}
use Rattle.queue_laws.proofs.Fits.{Fits}
use Rattle.queue_laws.proofs.Distinct.{distinct, Arrived, itself, unit_of}
use Rattle.queue_laws.proofs.Gathering.{gathered_here}

-- different numbers from 1 to n are at most n
abbrev Within : ℕ → ℕ → Type 0
Within m n = (1 ≤ n) × (n ≤ m)

-- without the greatest one, at most one less
dropped_length : (m : ℕ) (xs : List ℕ) → Apart (λ n. n) xs → length xs ≤ suc (length (filter (λ n. not (m == n)) xs))
dropped_length m [] a = omega arith
dropped_length m (x ∷ xs) a = either (m == x) refl (dropped_length m xs a.1)
  where
    all_kept : (ys : List ℕ) → Each (λ y. (m == y) ≡ false) ys → filter (λ n. not (m == n)) ys ≡ ys
    all_kept [] h = refl
    all_kept (y ∷ ys) h = ap (λ b. cond (not b) (y ∷ filter (λ n. not (m == n)) ys) (filter (λ n. not (m == n)) ys)) h.0 ∙ ap (λ zs. y ∷ zs) (all_kept ys h.1)

    either : (b : Bool) → (m == x) ≡ b → length xs ≤ suc (length (filter (λ n. not (m == n)) xs)) → suc (length xs) ≤ suc (length (cond (not b) (x ∷ filter (λ n. not (m == n)) xs) (filter (λ n. not (m == n)) xs)))
    either false e rest = omega arith
    either true e rest =
        let is : m ≡ x = eqb-true m x e in
        let kept = ap length (all_kept xs (subst (λ k. Each (λ y. (k == y) ≡ false) xs) (sym is) a.0)) in
        omega (arith, kept)

pub few_numbers : (m : ℕ) (xs : List ℕ) → Apart (λ n. n) xs → Each (Within m) xs → length xs ≤ m
few_numbers zero [] a h = omega arith
few_numbers zero (x ∷ xs) a h = absurd (omega (arith, h.0.0, h.0.1))
few_numbers (suc m) xs a h =
    let less = few_numbers m (filter (λ n. not (suc m == n)) xs) (apart_kept (λ n. n) (λ n. not (suc m == n)) xs a)
    (each_weaker (λ n. Within (suc m) n × (not (suc m == n) ≡ true)) (Within m) (λ n p. (p.0.0, under n p.0.1 p.1)) (filter (λ n. not (suc m == n)) xs) (each_filter (Within (suc m)) (λ n. not (suc m == n)) xs h)) in
    let one = dropped_length (suc m) xs a in
    omega (arith, less, one)
  where
    under : (n : ℕ) → n ≤ suc m → not (suc m == n) ≡ true → n ≤ m
    under n most other = grind (arith, nat_tests)

-- Batches

-- the first messages of the batches
abbrev firsts : History → List ℕ
firsts [] = []
firsts (Close s first trigger ∷ before) = first.0 ∷ firsts before
firsts (_ ∷ before) = firsts before

firsts_count : (before : History) → length (firsts before) ≡ closed before
firsts_count [] = refl
firsts_count (Close s first trigger ∷ before) = let rest = firsts_count before in omega arith
firsts_count (_ ∷ before) = firsts_count before

-- a first message is past what is gathered
abbrev Closed : Topology → History → ℕ → Type 0
Closed topology before n = level topology (place topology before n) ≡ 100

level_kept : (topology : Topology) (before : History) (step : Step) (n : ℕ) → level topology (place topology before n) ≡ 100 → level topology (place topology (step ∷ before) n) ≡ 100
level_kept topology before step n old =
    let up = level_grows topology before step (place topology before n) (place topology (step ∷ before) n) (move_by topology before step n) in
    let most = level_most topology (place topology (step ∷ before) n) in
    omega arith

-- the first of the open batch is gathered in the batcher, and joins the batch
first_member : (ns : List ℕ) (n : ℕ) → 1 ≤ n → n ≡ first_in ns → among ns n ≡ true
first_member [] n low e = absurd (let x : n ≡ 0 = e in omega arith)
first_member (x ∷ ns) n low e = ap (λ b. b || among ns n) (eq-eqb x n (sym e))

first_of : (P : ℕ → Type 0) (ns : List ℕ) (n : ℕ) → 1 ≤ n → n ≡ first_in ns → Each P ns → P n
first_of P [] n low e h = absurd (let x : n ≡ 0 = e in omega arith)
first_of P (x ∷ ns) n low e h = subst P (sym e) h.0

pub record CloseFacts (topology : Topology) (before : History) (s : StageNo) (n : ℕ) : Type 0 where
  pub live : is_live topology before s ≡ true
  pub role : has_role topology s is_batcher_role ≡ true
  pub some : 1 ≤ n
  pub first : n ≡ first_in (closing before (view_of topology before) s n)
  pub was : place topology before n ≡ Some (Gathered s)
  pub joins : among (closing before (view_of topology before) s n) n ≡ true

pub close_facts : (topology : Topology) (before : History) (s : StageNo) (first : MsgNo) (trigger : Trigger) → allows topology before (Close s first trigger) ≡ true → CloseFacts topology before s first.0
close_facts topology before s first trigger h =
    let all = unowed topology before (Close s first trigger) (λ x. refl) (λ x. refl) h in
    let one = and_right (is_live topology before s) _ all in
    let two = and_right (has_role topology s is_batcher_role) _ one in
    let three = and_right (nat_le 1 first.0) _ two in
    let low = leb-true 1 first.0 (and_left (nat_le 1 first.0) _ two) in
    let is = eqb-true first.0 (first_in (closing before (view_of topology before) s first.0)) (and_left (first.0 == first_in (closing before (view_of topology before) s first.0)) _ three) in
    record {
      live = and_left (is_live topology before s) _ all;
      role = and_left (has_role topology s is_batcher_role) _ one;
      some = low;
      first = is;
      was = gathered_here s (place topology before first.0) (first_of (λ n. is_gathered_in s (place topology before n) ≡ true) (closing before (view_of topology before) s first.0) first.0 low is
          (each_weaker (λ n. Unit {0} × ((is_gathered_in s (place topology before n) && bytes_eq (key_in (content before n)) (key_in (content before first.0))) ≡ true)) (λ n. is_gathered_in s (place topology before n) ≡ true)
          (λ n p. and_left (is_gathered_in s (place topology before n)) _ p.1) (closing before (view_of topology before) s first.0)
          (each_filter (λ n. Unit {0}) (λ n. is_gathered_in s (place topology before n) && bytes_eq (key_in (content before n)) (key_in (content before first.0))) (gathers before s) (each_always (λ n. Unit {0}) (λ n. tt) (gathers before s)))));
      joins = first_member (closing before (view_of topology before) s first.0) first.0 low is;
    }

abbrev FirstsFit : Topology → History → Type 0
FirstsFit topology before = Each (λ n. level topology (place topology before n) ≡ 100) (firsts before) × Apart (λ n. n) (firsts before)

firsts_fit : (topology : Topology) (before : History) → is_legal topology before ≡ true → Each (λ n. level topology (place topology before n) ≡ 100) (firsts before) × Apart (λ n. n) (firsts before)
firsts_fit topology [] h = (tt, tt)
firsts_fit topology (Close s first trigger ∷ before) h =
    let old = firsts_fit topology before (legal_before topology before (Close s first trigger) h) in
    let facts = close_facts topology before s first trigger (legal_step topology before (Close s first trigger) h) in (
      (now facts, each_weaker (λ n. level topology (place topology before n) ≡ 100) (λ n. level topology (place topology (Close s first trigger ∷ before) n) ≡ 100) (λ n k. level_kept topology before (Close s first trigger) n k) (firsts before) old.0),
      (each_weaker (λ n. level topology (place topology before n) ≡ 100) (λ n. (first.0 == n) ≡ false) (λ n k. ne_eqb first.0 n (λ same. apart facts n k same)) (firsts before) old.0, old.1),
    )
  where
    now : CloseFacts topology before s first.0 → level topology (place topology (Close s first trigger ∷ before) first.0) ≡ 100
    now facts =
        ap (λ p. level topology (option_map (put_in_batch (closing before (view_of topology before) s first.0) s (closed before + 1) first.0) p)) facts.was
        ∙ (ap (λ b. level topology (Some (if b && among (closing before (view_of topology before) s first.0) first.0 then InBatch (batch_no (closed before + 1)) else Gathered s))) (same_stage-self s)
        ∙ ap (λ b. level topology (Some (if b then InBatch (batch_no (closed before + 1)) else Gathered s))) facts.joins)

    apart : CloseFacts topology before s first.0 → (n : ℕ) → level topology (place topology before n) ≡ 100 → first.0 ≡ n → ⊥
    apart facts n far same =
        let at : level topology (place topology before n) ≡ 4 * rank topology s + 2 = ap (λ k. level topology (place topology before k)) (sym same) ∙ ap (level topology) facts.was in
        let low = rank_most topology s in
        omega arith
firsts_fit topology (step ∷ before) h =
    let old = firsts_fit topology before (legal_before topology before step h) in
    (each_weaker (λ n. level topology (place topology before n) ≡ 100) (λ n. level topology (place topology (step ∷ before) n) ≡ 100) (λ n k. level_kept topology before step n k) (firsts before) old.0, old.1)

-- no more batches are closed than messages are accepted
pub closed_few : (topology : Topology) (before : History) → is_legal topology before ≡ true → closed before ≤ accepted before
closed_few topology before h =
    let fit = firsts_fit topology before h in
    let few = few_numbers (accepted before) (firsts before) fit.1
    (each_weaker (λ n. level topology (place topology before n) ≡ 100) (Within (accepted before)) (λ n k. placed_accepted topology before n (level_some (place topology before n) k)) (firsts before) fit.0) in
    omega (arith, few, firsts_count before)
  where
    level_some : (p : Option Place) → level topology p ≡ 100 → is_some p ≡ true
    level_some None e = absurd (omega arith)
    level_some (Some p) e = refl

-- a batch that stands has a number from 1
pub batch_least : (topology : Topology) (before : History) (b : ℕ) → is_some (batch topology before b) ≡ true → 1 ≤ b
batch_least topology before b h = (batch_within topology before b h).0

level_placed : (topology : Topology) (p : Option Place) (k : ℕ) → k + 1 ≤ level topology p → is_some p ≡ true
level_placed topology (Some p) k h = refl
level_placed topology None k h = absurd (omega arith)

-- a batch's number is a message's number too
batch_accepted : (topology : Topology) (before : History) (b : ℕ) → is_legal topology before ≡ true → is_some (batch topology before b) ≡ true → (1 ≤ b) × (b ≤ accepted before)
batch_accepted topology before b h some = let within = batch_within topology before b some in (within.0, omega (arith, within.1, closed_few topology before h))

arrived_within : (topology : Topology) (before : History) (s : StageNo) (n : ℕ) → is_legal topology before ≡ true → Arrived topology before s n → (1 ≤ n) × (n ≤ accepted before)
arrived_within topology before s n h a = either (is_batcher (spec_of topology s)) refl
  where
    either : (b : Bool) → is_batcher (spec_of topology s) ≡ b → (1 ≤ n) × (n ≤ accepted before)
    either true e = batch_accepted topology before n h (a.batched e)
    either false e = placed_accepted topology before n (level_placed topology (place topology before n) 0 (omega (arith, a.message e)))

pub waiting_within : (topology : Topology) (before : History) (s : StageNo) → Fits topology → is_legal topology before ≡ true → Each (Within (accepted before)) (waiting topology before s)
waiting_within topology before s fit h =
    each_kept (Within (accepted before)) (λ n. if is_batcher (spec_of topology s) then batch_waits_in s (batch topology before n) else waits_in s (place topology before n)) (arrivals before s)
    (each_weaker (Arrived topology before s) (Within (accepted before)) (λ n a. arrived_within topology before s n h a) (arrivals before s) ((distinct topology before fit.ascend h).arrived s))

pub waiting_apart : (topology : Topology) (before : History) (s : StageNo) → Fits topology → is_legal topology before ≡ true → Apart (λ n. n) (waiting topology before s)
waiting_apart topology before s fit h =
    apart_kept (λ n. n) (λ n. if is_batcher (spec_of topology s) then batch_waits_in s (batch topology before n) else waits_in s (place topology before n)) (arrivals before s) (own (arrivals before s) ((distinct topology before fit.ascend h).once s))
  where
    own : (xs : List ℕ) → Apart itself xs → Apart (λ n. n) xs
    own xs a = a

-- no more units wait than messages are accepted
pub waiting_few : (topology : Topology) (before : History) (s : StageNo) → Fits topology → is_legal topology before ≡ true → length (waiting topology before s) ≤ accepted before
waiting_few topology before s fit h = few_numbers (accepted before) (waiting topology before s) (waiting_apart topology before s fit h) (waiting_within topology before s fit h)

-- an entry's number
pub entry_within : (topology : Topology) (before : History) (c : StageNo) (d : SubNo × ℕ) → is_legal topology before ≡ true → EntryFits topology before c d → (1 ≤ d.1) × (d.1 ≤ accepted before)
entry_within topology before c d h fits = either (is_batcher (spec_of topology d.0.producer)) refl
  where
    either : (b : Bool) → is_batcher (spec_of topology d.0.producer) ≡ b → (1 ≤ d.1) × (d.1 ≤ accepted before)
    either true e = batch_accepted topology before d.1 h (sent_exists (batch topology before d.1) (fits.batched e))
    either false e =
        let down = feeds_down topology d.0.producer c fits.feeding in
        placed_accepted topology before d.1 (level_placed topology (place topology before d.1) 0 (omega (arith, (fits.message e).far, down)))

-- What is sent on a subscription

sent_delivered : (units : List SentUnit) (u : SubNo) → count_on units u ≡ length (units_on u (delivered_to units u.consumer))
sent_delivered [] u = refl
sent_delivered (d ∷ units) u = either (same_stage u.consumer d.sub.consumer) (same_sub d.sub u) refl refl (sent_delivered units u)
  where
    own : (a b : Bool) → same_stage u.consumer d.sub.consumer ≡ a → same_sub d.sub u ≡ b → a ≡ false → b ≡ true → ⊥
    own a b ea eb none all =
        let same : u.consumer ≡ d.sub.consumer = ap (λ x. x.consumer) (sym (same_sub-true d.sub u (eb ∙ all))) in
        clash (same_stage u.consumer d.sub.consumer) (ap (same_stage u.consumer) (sym same) ∙ same_stage-self u.consumer) (ea ∙ none)

    either : (a b : Bool) → same_stage u.consumer d.sub.consumer ≡ a → same_sub d.sub u ≡ b → count_on units u ≡ length (units_on u (delivered_to units u.consumer))
        → (if b then count_on units u + 1 else count_on units u) ≡ length (units_on u (if a then (d.sub, d.unit) ∷ delivered_to units u.consumer else delivered_to units u.consumer))
    either true true ea eb rest = let one : length (units_on u ((d.sub, d.unit) ∷ delivered_to units u.consumer)) ≡ suc (length (units_on u (delivered_to units u.consumer))) = rw eb refl in omega arith
    either true false ea eb rest = let none : length (units_on u ((d.sub, d.unit) ∷ delivered_to units u.consumer)) ≡ length (units_on u (delivered_to units u.consumer)) = rw eb refl in omega arith
    either false true ea eb rest = absurd (own false true ea eb refl refl)
    either false false ea eb rest = rest

units_split : (u : SubNo) (xs ys : List (SubNo × ℕ)) → length (units_on u (xs ++ ys)) ≡ length (units_on u xs) + length (units_on u ys)
units_split u [] ys = omega arith
units_split u (d ∷ xs) ys = either (same_sub d.0 u) refl (units_split u xs ys)
  where
    either : (b : Bool) → same_sub d.0 u ≡ b → length (units_on u (xs ++ ys)) ≡ length (units_on u xs) + length (units_on u ys) → length (units_on u ((d ∷ xs) ++ ys)) ≡ length (units_on u (d ∷ xs)) + length (units_on u ys)
    either true e rest =
        let one : length (units_on u ((d ∷ xs) ++ ys)) ≡ suc (length (units_on u (xs ++ ys))) = rw e refl in
        let two : length (units_on u (d ∷ xs)) ≡ suc (length (units_on u xs)) = rw e refl in omega arith
    either false e rest =
        let one : length (units_on u ((d ∷ xs) ++ ys)) ≡ length (units_on u (xs ++ ys)) = rw e refl in
        let two : length (units_on u (d ∷ xs)) ≡ length (units_on u xs) = rw e refl in omega arith

pub sent_listed : (topology : Topology) (before : History) (u : SubNo) → sent topology before u ≡ length (units_on u (sent_to topology before u.consumer))
sent_listed topology [] u = refl
sent_listed topology (Dispatch s ∷ before) u =
    let old = sent_listed topology before u in
    let new = sent_delivered (deliveries topology before s) u in
    omega (arith, old, new, units_split u (sent_to topology before u.consumer) (delivered_to (deliveries topology before s) u.consumer))
sent_listed topology (step ∷ before) u = sent_listed topology before u

-- no more units are sent on a subscription than messages are accepted
pub sent_few : (topology : Topology) (before : History) (u : SubNo) → Fits topology → is_legal topology before ≡ true → sent topology before u ≤ accepted before
sent_few topology before u fit h =
    let all = few_numbers (accepted before) (units_on u (sent_to topology before u.consumer))
    (apart_mapped (λ n. n) (λ (d : SubNo × ℕ). d.1) (filter (λ d. same_sub d.0 u) (sent_to topology before u.consumer)) (own (filter (λ d. same_sub d.0 u) (sent_to topology before u.consumer)) (apart_kept unit_of (λ d. same_sub d.0 u) (sent_to topology before u.consumer) ((distinct topology before fit.ascend h).sent u.consumer))))
    (each_mapped (Within (accepted before)) (λ (d : SubNo × ℕ). d.1) (filter (λ d. same_sub d.0 u) (sent_to topology before u.consumer))
    (each_kept (λ (d : SubNo × ℕ). Within (accepted before) d.1) (λ d. same_sub d.0 u) (sent_to topology before u.consumer)
    (each_weaker (EntryFits topology before u.consumer) (λ (d : SubNo × ℕ). Within (accepted before) d.1) (λ d fits. entry_within topology before u.consumer d h fits) (sent_to topology before u.consumer) (entries_fit topology before u.consumer)))) in
    omega (arith, all, sent_listed topology before u)
  where
    own : (xs : List (SubNo × ℕ)) → Apart unit_of xs → Apart {A = SubNo × ℕ} (λ d. d.1) xs
    own xs a = a

pub handled_few : (topology : Topology) (before : History) (u : SubNo) → Fits topology → is_legal topology before ≡ true → handled topology before u ≤ accepted before
handled_few topology before u fit h = omega (arith, handled_within topology before u h, sent_few topology before u fit h)
