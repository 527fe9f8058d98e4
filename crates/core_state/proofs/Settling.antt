-- Passes over the messages of a batch that ends.
use Rattle.std.proofs.Common.{◌≡◌, ◌≢◌, ℕ, zero, suc, ◌+◌, ◌-◌, ◌<◌, ◌≤◌, List, [], ◌∷◌, length, drop, set, Bool, true, false, refl, ap, sym, ◌∙◌, Some, None, Option, arith, get_or, All, subst, cond}
use Rattle.std.specs.Prelude.{slice_get, option_map, if◌then◌else◌, ◌==◌, ◌&&◌, ◌||◌, not, nat_lt, unwrap_or, position, is_some, bytes_eq}
use Rattle.std.specs.List.{AllPairs, prefix_len}
use Rattle.std.proofs.lemmas.Bool.{eq-eqb, ne_eqb}
use Rattle.std.proofs.lemmas.Bool.Decides.{nat_tests}
use Rattle.std.proofs.lemmas.List.{at_drop_more}
use Rattle.pipe_types.specs.declared.message.Place.{Place}
use Rattle.pipe_types.specs.declared.message.Place.TheVariants.{Acked}
use Rattle.pipe_types.specs.declared.message.Outcome.TheVariants.{Successful}
use Rattle.pipe_model.specs.Batches.{Leg, is_settled, settled_as, lost_leg, failed_leg}
use Rattle.std.proofs.lemmas.List.Kept.{AllPairs-cons}
use Rattle.pipe_laws.proofs.Lists.{each_weaker}
use Rattle.pipe_laws.proofs.Tests.{clash}
use Rattle.core_laws.proofs.Lawful.{each_all}
use Rattle.queue_laws.proofs.Distinct.{itself}
use Rattle.stage_laws.proofs.Settling.{settled_by}
use Rattle.message_ack.specs.declared.legs.Settled.{Settled}
use Rattle.message_ack.specs.declared.legs.Settled.TheVariants.{Outcomes, Lost as LostBatch}
use Rattle.message_ack.specs.Ends.{IsSettledBy}
use Rattle.core_tables.proofs.Running.{pass_step, listed_step}
use Rattle.pipe_types.specs.declared.topology.Topology.{Topology}
use Rattle.pipe_types.specs.declared.step.Step.TheVariants.{Close}
use Rattle.pipe_model.specs.History.{History, closed}
use Rattle.pipe_model.specs.Content.{content, gathers, key_in}
use Rattle.pipe_model.specs.Flow.{place, view_of, closing, is_gathered_in, among}
use Rattle.pipe_model.specs.Legal.{is_legal}
use Rattle.pipe_model.specs.Taken.{closed_as}
use Rattle.pipe_laws.proofs.Allowed.{legal_before}
use Rattle.queue_laws.proofs.Apart.{Apart, apart_kept}
use Rattle.queue_laws.proofs.Gathering.{gathers_once}
use Rattle.core_laws.specs.Columns.{closed_numbers}
use Rattle.core_state.specs.Settles.{end_at, ended_from, ended_by, marked}

ended_none : (f : ℕ → Place) (k : ℕ) (ns : List ℕ) (n : ℕ) (p : Place) → All (λ m. n ≢ m) ns → ended_from f k ns n p ≡ p
ended_none f k [] n p h = refl
ended_none f k (m ∷ ns) n p h =
    let other : (m == n) ≡ false = ne_eqb m n (λ same. h 0 m (omega arith) (sym same)) in
    ap (λ c. if c then f k else ended_from f (k + 1) ns n p) other ∙ ended_none f (k + 1) ns n p (λ j d below. h (suc j) d (omega (arith, below)))

rest_apart : (ns : List ℕ) (k e : ℕ) → AllPairs (λ a b. a ≢ b) ns → k < length ns → All (λ m. get_or ns k e ≢ m) (drop (k + 1) ns)
rest_apart [] k e pairs below = absurd (omega arith)
rest_apart (n ∷ ns) zero e pairs below = λ j d within. pairs 0 (suc j) d (omega arith) (omega (arith, within))
rest_apart (n ∷ ns) (suc k) e pairs below =
    let same : suc k + 1 ≡ suc (k + 1) = omega arith in
    subst (λ j. All (λ m. get_or ns k e ≢ m) (drop j (n ∷ ns))) (sym same) (rest_apart ns k e (λ i j d lt within. pairs (suc i) (suc j) d (omega (arith, lt)) (omega (arith, within))) (omega arith))

-- one turn: the message of the turn ends
pub settled_step : (places : List Place) (f : ℕ → Place) (ns : List ℕ) (k e : ℕ) (q p : Place) → k < length ns → AllPairs (λ a b. a ≢ b) ns → q ≡ f k
    → 1 ≤ get_or ns k e → get_or ns k e - 1 < length places → slice_get places (get_or ns k e - 1) ≡ Some p
    → (i : ℕ) → option_map (ended_from f (k + 1) (drop (k + 1) ns) (suc i)) (slice_get (set places (get_or ns k e - 1) q) i) ≡ option_map (ended_from f k (drop k ns) (suc i)) (slice_get places i)
settled_step places f ns k e q p below pairs is least within was i =
    pass_step (λ j n x. ended_from f j (drop j ns) n x) (λ x. q) k (get_or ns k e)
    (λ x. ended_none f (k + 1) (drop (k + 1) ns) (get_or ns k e) q (rest_apart ns k e pairs below)
    ∙ (is ∙ (ap (λ c. if c then f k else ended_from f (k + 1) (drop (k + 1) ns) (get_or ns k e) x) (sym (eq-eqb (get_or ns k e) (get_or ns k e) refl)) ∙ sym (both (get_or ns k e) x))))
    (λ n x other. ap (λ c. if c then f k else ended_from f (k + 1) (drop (k + 1) ns) n x) (sym other) ∙ sym (both n x))
    places p q least within was refl i
  where
    both : (n : ℕ) (x : Place) → ended_from f k (drop k ns) n x ≡ (if get_or ns k e == n then f k else ended_from f (k + 1) (drop (k + 1) ns) n x)
    both n x = at_drop_more (λ ms. ended_from f k ms n x) ns k e below

pub marked_step : (marks : List ℕ) (ns : List ℕ) (k e mark p : ℕ) → k < length ns → 1 ≤ get_or ns k e → get_or ns k e - 1 < length marks → slice_get marks (get_or ns k e - 1) ≡ Some p
    → (i : ℕ) → option_map (marked (drop (k + 1) ns) mark (suc i)) (slice_get (set marks (get_or ns k e - 1) mark) i) ≡ option_map (marked (drop k ns) mark (suc i)) (slice_get marks i)
marked_step marks ns k e mark p below least within was i =
    listed_step {A = ℕ} (λ xs n x. marked xs mark n x) (λ x. mark) (λ n xs x. either (among xs n) ∙ sym (ap (λ c. if c || among xs n then mark else x) (eq-eqb n n refl)))
    (λ m n xs x other. ap (λ c. if c || among xs n then mark else x) (sym other)) marks ns k e p mark below least within was refl i
  where
    either : (c : Bool) → (if c then mark else mark) ≡ mark
    either true = refl
    either false = refl

-- What the passes come to

-- a message of the list stands within it
place_low : (n : ℕ) (ns : List ℕ) → among ns n ≡ true → prefix_len (λ m. not (m == n)) ns < length ns
place_low n [] h = cc
place_low n (m ∷ ns) h = by (m == n) refl h (place_low n ns)
  where
    by : (b : Bool) → (m == n) ≡ b → (b || among ns n) ≡ true → (among ns n ≡ true → prefix_len (λ m. not (m == n)) ns < length ns) → cond (not b) (1 + prefix_len (λ m. not (m == n)) ns) 0 < suc (length ns)
    by true e h rest = omega arith
    by false e h rest = let low = rest h in omega (arith, low)

position_is : (n : ℕ) (ns : List ℕ) → among ns n ≡ true → unwrap_or (position (λ m. m == n) ns) 0 ≡ prefix_len (λ m. not (m == n)) ns
position_is n ns h =
    let low = place_low n ns h in
    let yes : nat_lt (prefix_len (λ m. not (m == n)) ns) (length ns) ≡ true = grind (arith, nat_tests) in
    ap (λ b. unwrap_or (cond b (Some (prefix_len (λ m. not (m == n)) ns)) None) 0) yes

ended_here : (f : ℕ → Place) (k : ℕ) (ns : List ℕ) (n : ℕ) (p : Place) → among ns n ≡ true → ended_from f k ns n p ≡ f (k + prefix_len (λ m. not (m == n)) ns)
ended_here f k [] n p h = cc
ended_here f k (m ∷ ns) n p h = by (m == n) h (ended_here f (k + 1) ns n p)
  where
    by : (b : Bool) → (b || among ns n) ≡ true → (among ns n ≡ true → ended_from f (k + 1) ns n p ≡ f ((k + 1) + prefix_len (λ m. not (m == n)) ns))
        → (if b then f k else ended_from f (k + 1) ns n p) ≡ f (k + cond (not b) (1 + prefix_len (λ m. not (m == n)) ns) 0)
    by true h rest = ap f (omega arith)
    by false h rest = rest h ∙ ap f (omega arith)

ended_there : (f : ℕ → Place) (k : ℕ) (ns : List ℕ) (n : ℕ) (p : Place) → among ns n ≡ false → ended_from f k ns n p ≡ p
ended_there f k [] n p h = refl
ended_there f k (m ∷ ns) n p h = by (m == n) h (ended_there f (k + 1) ns n p)
  where
    by : (b : Bool) → (b || among ns n) ≡ false → (among ns n ≡ false → ended_from f (k + 1) ns n p ≡ p) → (if b then f k else ended_from f (k + 1) ns n p) ≡ p
    by true h rest = cc
    by false h rest = rest h

-- a settled batch leaves its messages where its legs say
end_is : (messages : ℕ) (legs : List Leg) (x : Settled) (j : ℕ) → IsSettledBy messages legs x → j < messages → end_at x j ≡ settled_as (lost_leg legs) (failed_leg legs j)
end_is messages legs (LostBatch loss) j s low = ap (λ o. settled_as o (failed_leg legs j)) s.lost
end_is messages legs (Outcomes os) j s low =
    let yes : nat_lt j messages ≡ true = grind (arith, nat_tests) in
    ap (λ o. unwrap_or o (Acked Successful)) (s.outcomes refl j ∙ ap (λ b. if b then Some (settled_as None (failed_leg legs j)) else None) yes)
    ∙ ap (λ o. settled_as o (failed_leg legs j)) s.lost

-- how the pass over the batch leaves each message
pub ended_is : (ms : List ℕ) (legs : List Leg) (settled : Option Settled) (n : ℕ) (p : Place) → is_some settled ≡ is_settled legs
    → ((x : Settled) → settled ≡ Some x → IsSettledBy (length ms) legs x) → ended_by settled ms n p ≡ settled_by ms legs n p
ended_is ms legs None n p last each = ap (λ b. if b && among ms n then settled_as (lost_leg legs) (failed_leg legs (unwrap_or (position (λ m. m == n) ms) 0)) else p) last
ended_is ms legs (Some x) n p last each =
    by (among ms n) refl ∙ ap (λ b. if b && among ms n then settled_as (lost_leg legs) (failed_leg legs (unwrap_or (position (λ m. m == n) ms) 0)) else p) last
  where
    by : (a : Bool) → among ms n ≡ a → ended_from (end_at x) 0 ms n p ≡ (if among ms n then settled_as (lost_leg legs) (failed_leg legs (unwrap_or (position (λ m. m == n) ms) 0)) else p)
    by true e =
        let zero_more : 0 + prefix_len (λ m. not (m == n)) ms ≡ prefix_len (λ m. not (m == n)) ms = omega arith in
        ended_here (end_at x) 0 ms n p e
        ∙ (ap (end_at x) zero_more
        ∙ (end_is (length ms) legs x (prefix_len (λ m. not (m == n)) ms) (each x refl) (place_low n ms e)
        ∙ (ap (λ j. settled_as (lost_leg legs) (failed_leg legs j)) (sym (position_is n ms e))
        ∙ sym (ap (λ b. if b then settled_as (lost_leg legs) (failed_leg legs (unwrap_or (position (λ m. m == n) ms) 0)) else p) e))))
    by false e =
        ended_there (end_at x) 0 ms n p e
        ∙ sym (ap (λ b. if b then settled_as (lost_leg legs) (failed_leg legs (unwrap_or (position (λ m. m == n) ms) 0)) else p) e)

-- different numbers, place by place
pub pairs_apart : (ns : List ℕ) → Apart itself ns → AllPairs (λ a b. a ≢ b) ns
pairs_apart [] h = λ i j d lt below. absurd (omega (arith, lt, below))
pairs_apart (n ∷ ns) h = AllPairs-cons (λ a b. a ≢ b) n ns (each_all (λ m. n ≢ m) ns (each_weaker (λ m. (n == m) ≡ false) (λ m. n ≢ m) (λ m p same. clash (n == m) (eq-eqb n m same) p) ns h.0)) (pairs_apart ns h.1)

-- The numbers of a batch

pub numbers_once : (topology : Topology) (before : History) (b : ℕ) → is_legal topology before ≡ true → Apart itself (closed_numbers (closed_as topology before b))
numbers_once topology [] b h = tt
numbers_once topology (Close s first trigger ∷ before) b h = by (b == closed before + 1) (numbers_once topology before b (legal_before topology before (Close s first trigger) h))
  where
    by : (c : Bool) → Apart itself (closed_numbers (closed_as topology before b))
        → Apart itself (closed_numbers (if c then Some (record { numbers = closing before (view_of topology before) s first.0; trigger = trigger }) else closed_as topology before b))
    by true old = apart_kept itself (λ n. is_gathered_in s (place topology before n) && bytes_eq (key_in (content before n)) (key_in (content before first.0))) (gathers before s) (gathers_once topology before s (legal_before topology before (Close s first trigger) h))
    by false old = old
numbers_once topology (step ∷ before) b h = numbers_once topology before b (legal_before topology before step h)
