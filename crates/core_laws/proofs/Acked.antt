-- What a log of acknowledged messages is: which rows a step adds to it, and how many rows it has.
use Rattle.std.proofs.Common.{◌≡◌, ℕ, suc, ◌+◌, ◌<◌, ◌≤◌, drop, get_or, List, [], ◌∷◌, ◌++◌, map, length, Bool, true, false, refl, ap, sym, ◌∙◌, Some, None, Option, subst, arith, All, inl, inr}
use Rattle.std.specs.Prelude.{◌⊎◌, ◌==◌, ◌&&◌, ◌||◌, not, is_some}
use Rattle.std.specs.List.{filter_map, cons_option}
use Rattle.std.proofs.lemmas.Bool.{eqb-true, eq-eqb, ne_eqb}
use Rattle.std.proofs.lemmas.List.{append-nil, append_assoc, map-append, length-map, length-append, at_drop_more}
use Rattle.std.proofs.lemmas.List.Elements.{All-nil}
use Rattle.pipe_types.specs.declared.numbers.StageNo.{StageNo}
use Rattle.pipe_types.specs.declared.topology.Topology.{Topology}
use Rattle.pipe_types.specs.declared.message.Place.{Place}
use Rattle.pipe_types.specs.declared.message.Place.TheVariants.{Waiting, Inbox, Running, Gathered, InBatch, Acked, Lost}
use Rattle.pipe_types.specs.declared.message.Outcome.TheVariants.{Successful, Failed}
use Rattle.pipe_types.specs.declared.step.Step.{Step}
use Rattle.pipe_model.specs.History.{History, accepted}
use Rattle.pipe_model.specs.Content.{producer_of}
use Rattle.pipe_model.specs.Flow.{place, among}
use Rattle.pipe_model.specs.Legal.{is_legal}
use Rattle.pipe_model.specs.Acknowledgements.{is_acked, is_acked_successful}
use Rattle.pipe_laws.proofs.Accepted.{placed_accepted}
use Rattle.pipe_laws.proofs.Acknowledged.{produced}
use Rattle.pipe_laws.proofs.Allowed.{legal_before}
use Rattle.pipe_laws.proofs.Lists.{Each, each-append, each_among}
use Rattle.pipe_laws.proofs.Settled.{acked_stays}
use Rattle.pipe_laws.proofs.Tests.{and_right, clash}
use Rattle.queue_laws.proofs.Apart.{Apart, apart-append, differ_by}
use Rattle.queue_laws.proofs.Distinct.{itself}
use Rattle.stage_laws.proofs.Bounds.{few_numbers}
use Rattle.settle_laws.specs.Settled.{is_newly, touched}
use Rattle.settle_laws.proofs.Touched.{within_touched}
use Rattle.pipe_journal.specs.declared.acked.AckRow.{AckRow}
use Rattle.pipe_journal.specs.Acked.{AreOnce, IsAckRow, AreAcked, IsLog, numbers_of}
use Rattle.core_laws.specs.Acked.{ack_row, row_after}
use Rattle.core_laws.proofs.Lawful.{each_all}

-- Lists of numbers

-- what holds of all that is among the numbers holds of each
pub among_each : (P : ℕ → Type 0) (ns : List ℕ) → ((n : ℕ) → among ns n ≡ true → P n) → Each P ns
among_each P [] h = tt
among_each P (m ∷ ns) h = (h m (ap (λ b. b || among ns m) (eq-eqb m m refl)), among_each P ns (λ n there. h n (or_right (m == n) (among ns n) there)))
  where
    or_right : (x y : Bool) → y ≡ true → (x || y) ≡ true
    or_right true y g = refl
    or_right false y g = g

-- a number that differs from each is not among them
none_among : (m : ℕ) (ns : List ℕ) → Each (λ n. (m == n) ≡ false) ns → among ns m ≡ false
none_among m [] h = refl
none_among m (n ∷ ns) h = ap (λ b. b || among ns m) (ne_eqb n m (λ e. clash (m == n) (eq-eqb m n (sym e)) h.0)) ∙ none_among m ns h.1

pub once_apart : (ns : List ℕ) → Apart itself ns → AreOnce ns
once_apart [] h = tt
once_apart (n ∷ ns) h = (none_among n ns h.0, once_apart ns h.1)

apart_once : (ns : List ℕ) → AreOnce ns → Apart itself ns
apart_once [] h = tt
apart_once (n ∷ ns) h =
    (among_each (λ m. (n == m) ≡ false) ns (λ m there. ne_eqb n m (λ e. clash (among ns n) (ap (among ns) e ∙ there) h.0)), apart_once ns h.1)

split : (xs ys : List ℕ) (n : ℕ) → among (xs ++ ys) n ≡ true → (among xs n ≡ true) ⊎ (among ys n ≡ true)
split [] ys n h = inr h
split (x ∷ xs) ys n h = by (x == n) h (split xs ys n)
  where
    by : (b : Bool) → (b || among (xs ++ ys) n) ≡ true → (among (xs ++ ys) n ≡ true → (among xs n ≡ true) ⊎ (among ys n ≡ true)) → ((b || among xs n) ≡ true) ⊎ (among ys n ≡ true)
    by true k rest = inl refl
    by false k rest = rest k

-- what is kept of a list by tests that agree on it
pub kept_alike : (f g : ℕ → Option AckRow) (ns : List ℕ) → Each (λ n. f n ≡ g n) ns → filter_map f ns ≡ filter_map g ns
kept_alike f g [] h = refl
kept_alike f g (n ∷ ns) h = (λ i. cons_option (h.0 i) (filter_map f ns)) ∙ ap (cons_option (g n)) (kept_alike f g ns h.1)

pub kept_few : (f : ℕ → Option AckRow) (ns : List ℕ) → length (filter_map f ns) ≤ length ns
kept_few f [] = omega arith
kept_few f (n ∷ ns) = by (f n) (kept_few f ns)
  where
    by : (o : Option AckRow) → length (filter_map f ns) ≤ length ns → length (cons_option o (filter_map f ns)) ≤ length (n ∷ ns)
    by None few = omega (arith, few)
    by (Some row) few = omega (arith, few)

-- one turn of a pass that notes them
pub noted_step : (f : ℕ → Option AckRow) (old new : List AckRow) (ns : List ℕ) (k e : ℕ) → k < length ns → new ≡ old ++ filter_map f (get_or ns k e ∷ [])
    → new ++ filter_map f (drop (k + 1) ns) ≡ old ++ filter_map f (drop k ns)
noted_step f old new ns k e below is =
    ap (λ rs. rs ++ filter_map f (drop (k + 1) ns)) is ∙ (by (f (get_or ns k e)) ∙ ap (λ rs. old ++ rs) (sym (at_drop_more (filter_map f) ns k e below)))
  where
    by : (o : Option AckRow) → old ++ cons_option o [] ++ filter_map f (drop (k + 1) ns) ≡ old ++ cons_option o (filter_map f (drop (k + 1) ns))
    by None = ap (λ rs. rs ++ filter_map f (drop (k + 1) ns)) (append-nil old)
    by (Some row) = append_assoc old (row ∷ []) (filter_map f (drop (k + 1) ns))

pub noted_room : (f : ℕ → Option AckRow) (old new : List AckRow) (n left room : ℕ) → new ≡ old ++ filter_map f (n ∷ []) → length old + suc left ≤ room → length new + left ≤ room
noted_room f old new n left room is fits =
    let long = ap length is ∙ length-append old (filter_map f (n ∷ [])) in
    let few = kept_few f (n ∷ []) in
    omega (arith, long, few, fits)

-- The rows of a step

-- a row is of this message, which is acknowledged; and where there is none the message is not
abbrev RowOf : Topology → History → Step → ℕ → Option AckRow → Type 0
RowOf topology before step n None = is_acked (place topology (step ∷ before) n) ≡ false
RowOf topology before step n (Some row) = (row.no.0 ≡ n) × (is_acked (place topology (step ∷ before) n) ≡ true) × IsAckRow topology before step row

row_of : (topology : Topology) (before : History) (step : Step) (n : ℕ) → is_legal topology (step ∷ before) ≡ true → RowOf topology before step n (row_after topology before step n)
row_of topology before step n legal = by (place topology (step ∷ before) n) refl (producer_of (step ∷ before) n) refl
  where
    open_row : (p : Option Place) → place topology (step ∷ before) n ≡ p → is_acked p ≡ false → is_acked (place topology (step ∷ before) n) ≡ false
    open_row p e h = ap is_acked e ∙ h

    some : (p : Option Place) → is_acked p ≡ true → is_some p ≡ true
    some None h = cc
    some (Some p) h = refl

    unknown : {A : Type 0} (p : Option Place) → place topology (step ∷ before) n ≡ p → is_acked p ≡ true → producer_of (step ∷ before) n ≡ None → A
    unknown p e h none =
        let there = placed_accepted topology (step ∷ before) n (ap is_some e ∙ some p h) in
        let q = produced topology (step ∷ before) n legal there.0 there.1 in
        absurd (let wrong : None ≡ Some q.0 = sym none ∙ q.1 in cc)

    by : (p : Option Place) → place topology (step ∷ before) n ≡ p → (s : Option StageNo) → producer_of (step ∷ before) n ≡ s → RowOf topology before step n (ack_row p s (length before) n)
    by (Some (Acked Successful)) e (Some s) k = (refl, ap is_acked e, record { producer = k; ended = ap is_acked_successful e; at = refl })
    by (Some (Acked (Failed why))) e (Some s) k = (refl, ap is_acked e, record { producer = k; ended = ap is_acked_successful e; at = refl })
    by (Some (Acked Successful)) e None k = unknown (Some (Acked Successful)) e refl k
    by (Some (Acked (Failed why))) e None k = unknown (Some (Acked (Failed why))) e refl k
    by None e s k = open_row None e refl
    by (Some (Waiting t)) e s k = open_row (Some (Waiting t)) e refl
    by (Some (Inbox u)) e s k = open_row (Some (Inbox u)) e refl
    by (Some (Running t)) e s k = open_row (Some (Running t)) e refl
    by (Some (Gathered t)) e s k = open_row (Some (Gathered t)) e refl
    by (Some (InBatch b)) e s k = open_row (Some (InBatch b)) e refl
    by (Some (Lost l)) e s k = open_row (Some (Lost l)) e refl

-- the rows of these messages, where there is one
abbrev rows_after : Topology → History → Step → List ℕ → List AckRow
rows_after topology before step ns = filter_map (row_after topology before step) ns

and_false : (b : Bool) → (b && false) ≡ false
and_false true = refl
and_false false = refl

-- they are of those of the messages that are acknowledged
rows_among : (topology : Topology) (before : History) (step : Step) (ns : List ℕ) (n : ℕ) → is_legal topology (step ∷ before) ≡ true
    → among (numbers_of (rows_after topology before step ns)) n ≡ (among ns n && is_acked (place topology (step ∷ before) n))
rows_among topology before step [] n legal = refl
rows_among topology before step (m ∷ ns) n legal = by (row_after topology before step m) (row_of topology before step m legal) (rows_among topology before step ns n legal)
  where
    rest : List AckRow
    rest = rows_after topology before step ns

    by : (o : Option AckRow) → RowOf topology before step m o → among (numbers_of rest) n ≡ (among ns n && is_acked (place topology (step ∷ before) n))
        → among (numbers_of (cons_option o rest)) n ≡ (among (m ∷ ns) n && is_acked (place topology (step ∷ before) n))
    by None r later = later ∙ own (m == n) refl
      where
        own : (b : Bool) → (m == n) ≡ b → (among ns n && is_acked (place topology (step ∷ before) n)) ≡ ((b || among ns n) && is_acked (place topology (step ∷ before) n))
        own false e = refl
        own true e =
            let off : is_acked (place topology (step ∷ before) n) ≡ false = ap (λ k. is_acked (place topology (step ∷ before) k)) (sym (eqb-true m n e)) ∙ r in
            ap (λ c. among ns n && c) off ∙ (and_false (among ns n) ∙ sym off)
    by (Some row) r later = ap (λ k. (k == n) || among (numbers_of rest) n) r.0 ∙ own (m == n) refl
      where
        own : (b : Bool) → (m == n) ≡ b → (b || among (numbers_of rest) n) ≡ ((b || among ns n) && is_acked (place topology (step ∷ before) n))
        own false e = later
        own true e = sym (ap (λ k. is_acked (place topology (step ∷ before) k)) (sym (eqb-true m n e)) ∙ r.1)

rows_once : (topology : Topology) (before : History) (step : Step) (ns : List ℕ) → is_legal topology (step ∷ before) ≡ true → AreOnce ns → AreOnce (numbers_of (rows_after topology before step ns))
rows_once topology before step [] legal h = tt
rows_once topology before step (m ∷ ns) legal h = by (row_after topology before step m) (row_of topology before step m legal) (rows_once topology before step ns legal h.1)
  where
    rest : List AckRow
    rest = rows_after topology before step ns

    by : (o : Option AckRow) → RowOf topology before step m o → AreOnce (numbers_of rest) → AreOnce (numbers_of (cons_option o rest))
    by None r later = later
    by (Some row) r later =
        (ap (among (numbers_of rest)) r.0 ∙ (rows_among topology before step ns m legal ∙ ap (λ b. b && is_acked (place topology (step ∷ before) m)) h.0), later)

rows_each : (topology : Topology) (before : History) (step : Step) (ns : List ℕ) → is_legal topology (step ∷ before) ≡ true → Each (IsAckRow topology before step) (rows_after topology before step ns)
rows_each topology before step [] legal = tt
rows_each topology before step (m ∷ ns) legal = by (row_after topology before step m) (row_of topology before step m legal) (rows_each topology before step ns legal)
  where
    rest : List AckRow
    rest = rows_after topology before step ns

    by : (o : Option AckRow) → RowOf topology before step m o → Each (IsAckRow topology before step) rest → Each (IsAckRow topology before step) (cons_option o rest)
    by None r later = later
    by (Some row) r later = (r.2, later)

-- The log

-- the messages that a step may acknowledge: each once, accepted and not acknowledged before, and every one that it does acknowledge
pub record MayAck (topology : Topology) (before : History) (step : Step) (ns : List ℕ) : Type 0 where
  pub once : Apart itself ns
  pub unacked : (n : ℕ) → among ns n ≡ true → is_acked (place topology before n) ≡ false
  pub there : (n : ℕ) → among ns n ≡ true → (1 ≤ n) × (n ≤ accepted before)
  pub all : (n : ℕ) → is_newly topology before step n ≡ true → among ns n ≡ true

-- these are enough where the step touches no others
pub may_ack : (topology : Topology) (before : History) (step : Step) (ns : List ℕ) → is_legal topology (step ∷ before) ≡ true → Apart itself ns
    → Each (λ n. is_acked (place topology before n) ≡ false) ns → Each (λ n. (1 ≤ n) × (n ≤ accepted before)) ns
    → ((n : ℕ) → among (touched topology before step) n ≡ true → among ns n ≡ true) → MayAck topology before step ns
may_ack topology before step ns legal once open_yet there all =
    record {
      once = once;
      unacked = λ n h. each_among (λ n. is_acked (place topology before n) ≡ false) ns n open_yet h;
      there = λ n h. each_among (λ n. (1 ≤ n) × (n ≤ accepted before)) ns n there h;
      all = λ n h. all n (within_touched topology before step n legal h);
    }

-- the rows of those that are acknowledged then go behind the log
pub logged : (topology : Topology) (before : History) (step : Step) (ns : List ℕ) (rows : List AckRow) → is_legal topology (step ∷ before) ≡ true → IsLog topology before rows → MayAck topology before step ns
    → IsLog topology (step ∷ before) (rows ++ filter_map (row_after topology before step) ns)
logged topology before step ns rows legal log may = (
  rows,
  rows_after topology before step ns,
  refl,
  log,
  record {
    members = λ n. rows_among topology before step ns n legal ∙ by n (among ns n) refl;
    once = rows_once topology before step ns legal (once_apart ns may.once);
    each = each_all (IsAckRow topology before step) (rows_after topology before step ns) (rows_each topology before step ns legal);
  },
)
  where
    off : (n : ℕ) (b : Bool) → is_newly topology before step n ≡ b → among ns n ≡ false → false ≡ b
    off n true e none = clash (among ns n) (may.all n e) none
    off n false e none = refl

    by : (n : ℕ) (b : Bool) → among ns n ≡ b → (b && is_acked (place topology (step ∷ before) n)) ≡ (not (is_acked (place topology before n)) && is_acked (place topology (step ∷ before) n))
    by n true e = sym (ap (λ c. not c && is_acked (place topology (step ∷ before) n)) (may.unacked n e))
    by n false e = off n (is_newly topology before step n) refl e

-- a step that acknowledges no message adds nothing
pub unlogged : (topology : Topology) (before : History) (step : Step) (rows : List AckRow) → ((n : ℕ) → is_newly topology before step n ≡ false) → IsLog topology before rows → IsLog topology (step ∷ before) rows
unlogged topology before step rows none log = (
  rows,
  [],
  sym (append-nil rows),
  log,
  record {
    members = λ n. sym (none n);
    once = tt;
    each = All-nil (IsAckRow topology before step);
  },
)

-- such is one that touches none
pub none_touched : (topology : Topology) (before : History) (step : Step) → is_legal topology (step ∷ before) ≡ true → touched topology before step ≡ [] → (n : ℕ) → is_newly topology before step n ≡ false
none_touched topology before step legal none n = by (is_newly topology before step n) refl
  where
    by : (b : Bool) → is_newly topology before step n ≡ b → b ≡ false
    by true e = sym (within_touched topology before step n legal e) ∙ ap (λ ns. among ns n) none
    by false e = refl

-- and one that moves none
pub none_moved : (topology : Topology) (before : History) (step : Step) → ((n : ℕ) → place topology (step ∷ before) n ≡ place topology before n) → (n : ℕ) → is_newly topology before step n ≡ false
none_moved topology before step same n = ap (λ p. not (is_acked (place topology before n)) && is_acked p) (same n) ∙ by (is_acked (place topology before n))
  where
    by : (b : Bool) → (not b && b) ≡ false
    by true = refl
    by false = refl

-- The size of a log

record Facts (topology : Topology) (before : History) (rows : List AckRow) : Type 0 where
  pub once : Apart itself (numbers_of rows)
  pub acked : (n : ℕ) → among (numbers_of rows) n ≡ true → is_acked (place topology before n) ≡ true

still_acked : (topology : Topology) (before : History) (step : Step) (n : ℕ) → is_acked (place topology before n) ≡ true → is_acked (place topology (step ∷ before) n) ≡ true
still_acked topology before step n h = by (place topology before n) refl h
  where
    by : (p : Option Place) → place topology before n ≡ p → is_acked p ≡ true → is_acked (place topology (step ∷ before) n) ≡ true
    by (Some (Acked o)) e k = ap is_acked (acked_stays topology (step ∷ []) before n o e)
    by None e k = cc
    by (Some (Waiting t)) e k = cc
    by (Some (Inbox u)) e k = cc
    by (Some (Running t)) e k = cc
    by (Some (Gathered t)) e k = cc
    by (Some (InBatch b)) e k = cc
    by (Some (Lost l)) e k = cc

not_both : (a b : Bool) → (not a && b) ≡ true → a ≡ false
not_both true b h = cc
not_both false b h = refl

facts_after : (topology : Topology) (before : History) (step : Step) (older last : List AckRow) → Facts topology before older → AreAcked topology before step last → Facts topology (step ∷ before) (older ++ last)
facts_after topology before step older last old new =
    record {
      once = subst (Apart itself) (sym both)
          (apart-append itself (numbers_of older) (numbers_of last) old.once (apart_once (numbers_of last) new.once)
          (differ_by itself itself (λ n. is_acked (place topology before n) ≡ true) (λ n. is_acked (place topology before n) ≡ false)
          (λ n m a b e. clash (is_acked (place topology before n)) a (ap (λ k. is_acked (place topology before k)) e ∙ b)) (numbers_of older) (numbers_of last)
          (among_each (λ n. is_acked (place topology before n) ≡ true) (numbers_of older) old.acked)
          (among_each (λ n. is_acked (place topology before n) ≡ false) (numbers_of last)
          (λ n there. not_both (is_acked (place topology before n)) (is_acked (place topology (step ∷ before) n)) (sym (new.members n) ∙ there)))));
      acked = λ n there. by n (split (numbers_of older) (numbers_of last) n (sym (ap (λ ns. among ns n) both) ∙ there));
    }
  where
    both : numbers_of (older ++ last) ≡ numbers_of older ++ numbers_of last
    both = map-append (λ (row : AckRow). row.no.0) older last

    by : (n : ℕ) → (among (numbers_of older) n ≡ true) ⊎ (among (numbers_of last) n ≡ true) → is_acked (place topology (step ∷ before) n) ≡ true
    by n (inl h) = still_acked topology before step n (old.acked n h)
    by n (inr h) = and_right (not (is_acked (place topology before n))) (is_acked (place topology (step ∷ before) n)) (sym (new.members n) ∙ h)

-- each of its messages is acknowledged, and stands in it once
facts : (topology : Topology) (before : History) (rows : List AckRow) → IsLog topology before rows → Facts topology before rows
facts topology [] rows log = subst (Facts topology []) (sym log) (record { once = tt; acked = λ n h. cc })
facts topology (step ∷ before) rows log =
    subst (Facts topology (step ∷ before)) (sym log.2) (facts_after topology before step log.0 log.1 (facts topology before log.0 log.3) log.4)

-- with what a step may acknowledge it is no longer than what was accepted
pub fits_log : (topology : Topology) (before : History) (step : Step) (ns : List ℕ) (rows : List AckRow) → IsLog topology before rows → MayAck topology before step ns → length rows + length ns ≤ accepted before
fits_log topology before step ns rows log may =
    let few = few_numbers (accepted before) (numbers_of rows ++ ns)
    (apart-append itself (numbers_of rows) ns known.once may.once
    (differ_by itself itself (λ n. is_acked (place topology before n) ≡ true) (λ n. is_acked (place topology before n) ≡ false)
    (λ n m a b e. clash (is_acked (place topology before n)) a (ap (λ k. is_acked (place topology before k)) e ∙ b)) (numbers_of rows) ns
    (among_each (λ n. is_acked (place topology before n) ≡ true) (numbers_of rows) known.acked)
    (among_each (λ n. is_acked (place topology before n) ≡ false) ns may.unacked)))
    (each-append (λ n. (1 ≤ n) × (n ≤ accepted before)) (numbers_of rows) ns
    (among_each (λ n. (1 ≤ n) × (n ≤ accepted before)) (numbers_of rows) (λ n there. placed_accepted topology before n (some (place topology before n) (known.acked n there))))
    (among_each (λ n. (1 ≤ n) × (n ≤ accepted before)) ns may.there)) in
    omega (arith, few, length-append (numbers_of rows) ns, length-map rows (λ (row : AckRow). row.no.0))
  where
    known : Facts topology before rows
    known = facts topology before rows log

    some : (p : Option Place) → is_acked p ≡ true → is_some p ≡ true
    some None h = cc
    some (Some p) h = refl
