-- What a message that is gathered does to the open batches.
use Rattle.std.proofs.Common.{◌≡◌, ℕ, zero, suc, ◌+◌, ◌-◌, ◌^◌, ◌<◌, ◌≤◌, List, [], ◌∷◌, ◌++◌, length, map, get_or, Bool, true, false, cond, not, ◌&&◌, ◌||◌, refl, ap, sym, ◌∙◌, subst, Some, None, Option, Vec, Global, All, arith}
use Rattle.std.specs.Prelude.{Result, Ok, Err, OnErr, nat_lt, nat_le, ◌==◌, bytes_eq, unwrap_or, is_some}
use Rattle.std.proofs.lemmas.Bool.{true≢false}
use Rattle.std.proofs.lemmas.Bool.Decides.{nat_tests}
use Rattle.std.specs.Map.{lookup, set_value}
use Rattle.std.proofs.lemmas.List.{length_push, map-append}
use Rattle.std.proofs.lemmas.List.Elements.{All-append, All-cons, All-nil}
use Rattle.batcher.specs.declared.messages.Messages.{Messages}
use Rattle.batcher.specs.Batches.{OpenBatch, fits, takes_more, gathered, joined}
use Rattle.batcher.specs.Seen.{seen, batch_in, batch_of, is_ready, ready_in, more_ready, ticks_of, Rise, IsKept}

abbrev pub Entries : Type 0
Entries = List (Vec ℕ Global × Messages)

abbrev pub has_key : List ℕ → Vec ℕ Global → Bool
has_key key k = bytes_eq key k.items

-- a message fits where its key's batch takes more
pub fits_there : (size : ℕ) (key : List ℕ) (es : Entries) (m : Messages) → lookup (has_key key) es ≡ Some m → fits size key (seen es) ≡ takes_more size (batch_in [] m)
fits_there size key [] m e = absurd (true≢false (ap is_some (sym e)))
fits_there size key (entry ∷ es) m e = by (bytes_eq key entry.0.items) (fits_there size key es m) e
  where
    by : (b : Bool) → (lookup (has_key key) es ≡ Some m → fits size key (seen es) ≡ takes_more size (batch_in [] m)) → cond b (Some entry.1) (lookup (has_key key) es) ≡ Some m
        → cond b (takes_more size (batch_of entry)) (fits size key (seen es)) ≡ takes_more size (batch_in [] m)
    by true rest e = ap (λ o. takes_more size (batch_in [] (unwrap_or o m))) e
    by false rest e = rest e

-- or where it would be the first of its batch
pub fits_new : (size : ℕ) (key : List ℕ) (es : Entries) → lookup (has_key key) es ≡ None → fits size key (seen es) ≡ nat_lt 0 size
fits_new size key [] e = refl
fits_new size key (entry ∷ es) e = by (bytes_eq key entry.0.items) (fits_new size key es) e
  where
    by : (b : Bool) → (lookup (has_key key) es ≡ None → fits size key (seen es) ≡ nat_lt 0 size) → cond b (Some entry.1) (lookup (has_key key) es) ≡ None
        → cond b (takes_more size (batch_of entry)) (fits size key (seen es)) ≡ nat_lt 0 size
    by true rest e = absurd (true≢false (ap is_some e))
    by false rest e = rest e

-- a message behind those of its key's batch
pub joined_seen : (key : List ℕ) (n : ℕ) (flush : Bool) (now : ℕ) (es : Entries) (m w : Messages)
    → lookup (has_key key) es ≡ Some m → batch_in [] w ≡ joined (batch_in [] m) n flush → seen (set_value (has_key key) es w) ≡ gathered key n flush now (seen es)
joined_seen key n flush now [] m w e is = absurd (true≢false (ap is_some (sym e)))
joined_seen key n flush now (entry ∷ es) m w e is = by (bytes_eq key entry.0.items) (λ e. joined_seen key n flush now es m w e is) e
  where
    by : (b : Bool) → (lookup (has_key key) es ≡ Some m → seen (set_value (has_key key) es w) ≡ gathered key n flush now (seen es)) → cond b (Some entry.1) (lookup (has_key key) es) ≡ Some m
        → seen (cond b ((entry.0, w) ∷ es) (entry ∷ set_value (has_key key) es w)) ≡ cond b (joined (batch_of entry) n flush ∷ seen es) (batch_of entry ∷ gathered key n flush now (seen es))
    by true rest e =
        ap (λ (b : OpenBatch). record { key = entry.0.items; numbers = b.numbers; flush = b.flush; opened = b.opened } ∷ seen es) is
        ∙ ap (λ o. joined (batch_in entry.0.items (unwrap_or o m)) n flush ∷ seen es) (sym e)
    by false rest e = ap (λ bs. batch_of entry ∷ bs) (rest e)

-- a message that opens a batch
pub opened_seen : (key : List ℕ) (n : ℕ) (flush : Bool) (now : ℕ) (es : Entries) → lookup (has_key key) es ≡ None
    → seen es ++ record { key = key; numbers = n ∷ []; flush = flush; opened = now } ∷ [] ≡ gathered key n flush now (seen es)
opened_seen key n flush now [] e = refl
opened_seen key n flush now (entry ∷ es) e = by (bytes_eq key entry.0.items) (opened_seen key n flush now es) e
  where
    by : (b : Bool) → (lookup (has_key key) es ≡ None → seen es ++ record { key = key; numbers = n ∷ []; flush = flush; opened = now } ∷ [] ≡ gathered key n flush now (seen es)) → cond b (Some entry.1) (lookup (has_key key) es) ≡ None
        → batch_of entry ∷ (seen es ++ record { key = key; numbers = n ∷ []; flush = flush; opened = now } ∷ []) ≡ cond b (joined (batch_of entry) n flush ∷ seen es) (batch_of entry ∷ gathered key n flush now (seen es))
    by true rest e = absurd (true≢false (ap is_some e))
    by false rest e = ap (λ bs. batch_of entry ∷ bs) (rest e)

-- what holds of all open batches, and of one whose messages were replaced
set_all : (P : OpenBatch → Type 0) (test : Vec ℕ Global → Bool) (es : Entries) (m w : Messages) → lookup test es ≡ Some m → ((k : List ℕ) → P (batch_in k m) → P (batch_in k w)) → All P (seen es) → All P (seen (set_value test es w))
set_all P test [] m w e step every = every
set_all P test (entry ∷ es) m w e step every = by (test entry.0) (λ e. set_all P test es m w e step rest) e
  where
    rest : All P (seen es)
    rest k d within = every (suc k) d (omega arith)

    by : (b : Bool) → (lookup test es ≡ Some m → All P (seen (set_value test es w))) → cond b (Some entry.1) (lookup test es) ≡ Some m → All P (seen (cond b ((entry.0, w) ∷ es) (entry ∷ set_value test es w)))
    by true more e =
        All-cons P (batch_in entry.0.items w) (seen es)
        (step entry.0.items (subst (λ o. P (batch_in entry.0.items (unwrap_or o m))) e (every 0 (batch_of entry) (omega arith))))
        rest
    by false more e = All-cons P (batch_of entry) (seen (set_value test es w)) (every 0 (batch_of entry) (omega arith)) (more e)

-- one more batch before both counts
step : (b : Bool) (n k extra : ℕ) → n ≤ k + extra → cond b (suc n) n ≤ cond b (suc k) k + extra
step true n k extra le = omega (arith, le)
step false n k extra le = le

exchange : (a b : Bool) (n : ℕ) → cond a (suc n) n ≤ cond b (suc n) n + cond a 1 0
exchange true true n = omega arith
exchange true false n = omega arith
exchange false true n = omega arith
exchange false false n = omega arith

-- how many are ready, where the messages of one were replaced
ready_set : (size : ℕ) (test : Vec ℕ Global → Bool) (es : Entries) (m w : Messages) → lookup test es ≡ Some m
    → ready_in size (seen (set_value test es w)) ≤ ready_in size (seen es) + cond (is_ready size (batch_in [] w)) 1 0
ready_set size test [] m w e = absurd (true≢false (ap is_some (sym e)))
ready_set size test (entry ∷ es) m w e = by (test entry.0) (λ e. ready_set size test es m w e) e
  where
    by : (b : Bool) → (lookup test es ≡ Some m → ready_in size (seen (set_value test es w)) ≤ ready_in size (seen es) + cond (is_ready size (batch_in [] w)) 1 0) → cond b (Some entry.1) (lookup test es) ≡ Some m
        → ready_in size (seen (cond b ((entry.0, w) ∷ es) (entry ∷ set_value test es w))) ≤ ready_in size (seen (entry ∷ es)) + cond (is_ready size (batch_in [] w)) 1 0
    by true rest e = exchange (is_ready size (batch_in [] w)) (is_ready size (batch_of entry)) (ready_in size (seen es))
    by false rest e = step (is_ready size (batch_of entry)) (ready_in size (seen (set_value test es w))) (ready_in size (seen es)) (cond (is_ready size (batch_in [] w)) 1 0) (rest e)

-- their ticks stay
ticks_set : (test : Vec ℕ Global → Bool) (es : Entries) (m w : Messages) → lookup test es ≡ Some m → w.opened ≡ m.opened → ticks_of (seen (set_value test es w)) ≡ ticks_of (seen es)
ticks_set test [] m w e same = refl
ticks_set test (entry ∷ es) m w e same = by (test entry.0) (λ e. ticks_set test es m w e same) e
  where
    by : (b : Bool) → (lookup test es ≡ Some m → ticks_of (seen (set_value test es w)) ≡ ticks_of (seen es)) → cond b (Some entry.1) (lookup test es) ≡ Some m
        → ticks_of (seen (cond b ((entry.0, w) ∷ es) (entry ∷ set_value test es w))) ≡ ticks_of (seen (entry ∷ es))
    by true rest e = ap (λ t. t ∷ ticks_of (seen es)) (same ∙ ap (λ o. (unwrap_or o m).opened) (sym e))
    by false rest e = ap (λ ts. entry.1.opened ∷ ts) (rest e)

-- the count with one more is enough for one more
more_within : (most ready n n' : ℕ) (is : Bool) → n' ≤ n + cond is 1 0 → (ready < most → n ≤ ready)
    → cond (is && nat_lt ready most) (ready + 1) ready < most → n' ≤ cond (is && nat_lt ready most) (ready + 1) ready
more_within most ready n n' true le within = by (nat_lt ready most) refl
  where
    by : (b : Bool) → nat_lt ready most ≡ b → cond b (ready + 1) ready < most → n' ≤ cond b (ready + 1) ready
    by true e below = let few = within (omega (arith, below)) in omega (arith, le, few)
    by false e below = absurd (grind (arith, nat_tests))
more_within most ready n n' false le within = λ below. let few = within below in omega (arith, le, few)

-- what is kept of all open batches, after a message behind those of a batch
pub joined_kept : (size ready newest n len : ℕ) (in_order flush : Bool) (test : Vec ℕ Global → Bool) (es : Entries) (m w : Messages)
    → lookup test es ≡ Some m → batch_in [] w ≡ joined (batch_in [] m) n flush → len ≡ length w.numbers.items
    → IsKept size ready in_order newest (seen es) → IsKept size (more_ready ready (len == size || flush)) in_order newest (seen (set_value test es w))
joined_kept size ready newest n len in_order flush test es m w e is count kept = record {
  begun = set_all (λ b. 0 < length b.numbers) test es m w e (λ k had. subst (λ (b : OpenBatch). 0 < length b.numbers) (sym is) (omega (arith, length_push m.numbers.items n))) kept.begun;
  within =
      more_within (2 ^ 64 - 1) ready (ready_in size (seen es)) (ready_in size (seen (set_value test es w))) (len == size || flush)
      (subst (λ b. ready_in size (seen (set_value test es w)) ≤ ready_in size (seen es) + cond b 1 0) is_ready_then (ready_set size test es m w e)) kept.within;
  rise = λ set. subst (Rise 0 newest) (sym (ticks_set test es m w e (ap (λ (b : OpenBatch). b.opened) is))) (kept.rise set);
}
  where
    is_ready_then : is_ready size (batch_in [] w) ≡ (len == size || flush)
    is_ready_then = λ i. sym count i == size || (is i).flush

-- one more behind all others
ready_push : (size : ℕ) (batches : List OpenBatch) (batch : OpenBatch) → ready_in size (batches ++ batch ∷ []) ≤ ready_in size batches + cond (is_ready size batch) 1 0
ready_push size [] batch = by (is_ready size batch)
  where
    by : (b : Bool) → cond b 1 0 ≤ 0 + cond b 1 0
    by true = omega arith
    by false = omega arith
ready_push size (first ∷ batches) batch = step (is_ready size first) (ready_in size (batches ++ batch ∷ [])) (ready_in size batches) (cond (is_ready size batch) 1 0) (ready_push size batches batch)

rise_push : (from to now : ℕ) (ticks : List ℕ) → to ≤ now → Rise from to ticks → Rise from now (ticks ++ now ∷ [])
rise_push from to now [] le rise = (omega (arith, le, rise), omega arith)
rise_push from to now (tick ∷ ticks) le rise = (rise.0, rise_push tick to now ticks le rise.1)

-- a batch of one message
abbrev pub one_in : (key : List ℕ) (n : ℕ) (flush : Bool) (now : ℕ) → OpenBatch
one_in key n flush now = record { key = key; numbers = n ∷ []; flush = flush; opened = now }

-- what is kept of all open batches, after one was begun
pub begun_kept : (size ready newest n now : ℕ) (in_order flush : Bool) (key : List ℕ) (batches : List OpenBatch)
    → IsKept size ready in_order newest batches
    → IsKept size (more_ready ready (1 == size || flush)) (in_order && nat_le newest now) now (batches ++ one_in key n flush now ∷ [])
begun_kept size ready newest n now in_order flush key batches kept = record {
  begun = All-append (λ b. 0 < length b.numbers) batches (one_in key n flush now ∷ []) kept.begun (All-cons (λ b. 0 < length b.numbers) (one_in key n flush now) [] (omega arith) (All-nil (λ b. 0 < length b.numbers)));
  within = more_within (2 ^ 64 - 1) ready (ready_in size batches) (ready_in size (batches ++ one_in key n flush now ∷ [])) (1 == size || flush) (ready_push size batches (one_in key n flush now)) kept.within;
  rise = λ set.
      subst (Rise 0 now) (sym (map-append (λ (b : OpenBatch). b.opened) batches (one_in key n flush now ∷ [])))
      (rise_push 0 newest now (ticks_of batches) (later (nat_le newest now) refl (and_right in_order (nat_le newest now) set)) (kept.rise (and_left in_order (nat_le newest now) set)));
}
  where
    and_left : (a b : Bool) → (a && b) ≡ true → a ≡ true
    and_left true b e = refl
    and_left false b e = e

    and_right : (a b : Bool) → (a && b) ≡ true → b ≡ true
    and_right true b e = e
    and_right false b e = absurd (true≢false (sym e))

    later : (b : Bool) → nat_le newest now ≡ b → b ≡ true → newest ≤ now
    later true e set = grind (arith, nat_tests)
    later false e set = absurd (true≢false (sym set))

-- an entry behind all others
pub begun_seen : (key : List ℕ) (n : ℕ) (flush : Bool) (now : ℕ) (es new : Entries) (k : Vec ℕ Global) (w : Messages) → new ≡ es ++ (k, w) ∷ [] → k.items ≡ key
    → batch_in [] w ≡ record { key = []; numbers = n ∷ []; flush = flush; opened = now } → seen new ≡ seen es ++ record { key = key; numbers = n ∷ []; flush = flush; opened = now } ∷ []
begun_seen key n flush now es new k w e same is =
    ap seen e
    ∙ (map-append batch_of es ((k, w) ∷ [])
    ∙ (λ i. seen es ++ record { key = same i; numbers = (is i).numbers; flush = (is i).flush; opened = (is i).opened } ∷ []))

-- a batch whose messages stay stays
pub same_seen : (test : Vec ℕ Global → Bool) (es : Entries) (m w : Messages) → lookup test es ≡ Some m → batch_in [] w ≡ batch_in [] m → seen (set_value test es w) ≡ seen es
same_seen test [] m w e is = refl
same_seen test (entry ∷ es) m w e is = by (test entry.0) (λ e. same_seen test es m w e is) e
  where
    by : (b : Bool) → (lookup test es ≡ Some m → seen (set_value test es w) ≡ seen es) → cond b (Some entry.1) (lookup test es) ≡ Some m → seen (cond b ((entry.0, w) ∷ es) (entry ∷ set_value test es w)) ≡ seen (entry ∷ es)
    by true rest e =
        ap (λ (b : OpenBatch). record { key = entry.0.items; numbers = b.numbers; flush = b.flush; opened = b.opened } ∷ seen es) is
        ∙ ap (λ o. batch_in entry.0.items (unwrap_or o m) ∷ seen es) (sym e)
    by false rest e = ap (λ bs. batch_of entry ∷ bs) (rest e)

pub on_err : {A B : Type 0} (r : Result A B) (P : Type 0) → P → OnErr r P
on_err (Ok x) P p = tt
on_err (Err x) P p = p

-- the same numbers and the same batches keep what is kept
pub kept_as : (size ready ready' newest : ℕ) (in_order in_order' : Bool) (batches batches' : List OpenBatch) → ready ≡ ready' → in_order ≡ in_order' → batches ≡ batches'
    → IsKept size ready in_order newest batches → IsKept size ready' in_order' newest batches'
kept_as size ready ready' newest in_order in_order' batches batches' r o b kept =
    subst (λ bs. IsKept size ready' in_order' newest bs) b (subst (λ o. IsKept size ready' o newest batches) o (subst (λ r. IsKept size r in_order newest batches) r kept))
