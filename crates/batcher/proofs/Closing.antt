-- Which open batch may close.
use Rattle.std.proofs.Common.{◌≡◌, ℕ, zero, suc, ◌+◌, ◌<◌, ◌≤◌, List, [], ◌∷◌, ◌++◌, length, map, take, drop, get_or, Bool, true, false, cond, not, ◌||◌, refl, ap, sym, ◌∙◌, subst, Some, None, Option, Vec, Global, All, slice_get, arith, length-drop}
use Rattle.std.specs.Prelude.{nat_le, ◌==◌, is_some, unwrap_or, option_map, IsSome}
use Rattle.std.specs.Map.{values_of}
use Rattle.std.specs.Borrow.{Bor}
use Rattle.std.specs.Map.Iter.{TakesFirst, deref_pair}
use Rattle.std.proofs.lemmas.Map.Iter.{rest_more}
use Rattle.std.proofs.lemmas.Bool.{true≢false}
use Rattle.std.proofs.lemmas.Bool.Decides.{nat_tests}
use Rattle.std.proofs.lemmas.List.{take_all, length-map}
use Rattle.std.proofs.lemmas.List.Elements.{All-more, All-cons, All-nil}
use Rattle.std.proofs.lemmas.Option.{get_or_from_slice_get, slice_get_within}
use Rattle.pipe_types.specs.declared.numbers.MsgNo.{MsgNo}
use Rattle.pipe_types.specs.declared.message.Trigger.{Trigger}
use Rattle.pipe_types.specs.declared.message.Trigger.TheVariants.{Size, Flush, Timeout}
use Rattle.batcher.specs.declared.Closable.{Closable}
use Rattle.batcher.specs.declared.messages.Messages.{Messages}
use Rattle.batcher.specs.Batches.{OpenBatch, Batches, first_of, trigger_of, IsClosable}
use Rattle.batcher.specs.Seen.{seen, batch_in, batch_of, is_ready, ready_in, ticks_of, Rise, first_has_passed, IsKept}
use Rattle.batcher.proofs.Gathers.{Entries}

-- the messages at a place are those of the batch there
pub seen_at : (es : Entries) (i : ℕ) (m : Messages) → slice_get (values_of es) i ≡ Some m → (k : List ℕ) × (slice_get (seen es) i ≡ Some (batch_in k m))
seen_at [] i m e = absurd (true≢false (ap is_some (sym e)))
seen_at (entry ∷ es) zero m e = (entry.0.items, λ i. Some (batch_in entry.0.items (some_is entry.1 m e i)))
  where
    some_is : (x y : Messages) → Some x ≡ Some y → x ≡ y
    some_is x y e = ap (λ o. unwrap_or o x) e
seen_at (entry ∷ es) (suc i) m e = seen_at es i m e

-- the first of the entries that are left stands at its place
pub shown_at : (batches : List OpenBatch) (left : Entries) (at : ℕ) (entry : Vec ℕ Global × Messages) → seen (entry ∷ left) ≡ drop at batches → (slice_get batches at ≡ Some (batch_of entry)) × (seen left ≡ drop (suc at) batches)
shown_at [] left zero entry e = absurd (true≢false (ap (λ bs. is_some (slice_get bs 0)) e))
shown_at [] left (suc at) entry e = absurd (true≢false (ap (λ bs. is_some (slice_get bs 0)) e))
shown_at (first ∷ bs) left zero entry e = (sym (ap (λ bs. slice_get bs 0) e), ap (drop 1) e)
shown_at (first ∷ bs) left (suc at) entry e = shown_at bs left at entry e

-- and there is one, where the place is within
pub some_left : (batches : List OpenBatch) (left : Entries) (at : ℕ) → seen left ≡ drop at batches → at < length batches → 0 < length left
some_left batches left at e within =
    let len : length left ≡ length (drop at batches) = sym (length-map left batch_of) ∙ ap length e in
    omega (arith, len, within, length-drop at batches)

-- what an iterator over the entries shows at this place
pub record IsShown (batches : List OpenBatch) (left : Entries) (at : ℕ) (entry : Vec ℕ Global × Messages) : Type 0 where
  pub there : slice_get batches at ≡ Some (batch_of entry)
  pub rest : seen left ≡ drop (at + 1) batches

pub shown_next : (batches : List OpenBatch) (at : ℕ) (before left : Entries) (r : Option (Bor (Vec ℕ Global) × Bor Messages)) (x : Bor (Vec ℕ Global) × Bor Messages)
    → seen before ≡ drop at batches → r ≡ Some x → TakesFirst deref_pair before r left → IsShown batches left at (deref_pair x)
shown_next batches at before left r x e got took =
    let here = shown_at batches left at (deref_pair x) (ap seen (sym (rest_more deref_pair before left r x got took)) ∙ e) in
    let next : suc at ≡ at + 1 = omega arith in
    record { there = here.0; rest = here.1 ∙ ap (λ k. drop k batches) next }

-- it shows one, where the place is within
pub some_next : (batches : List OpenBatch) (at : ℕ) (before left : Entries) (r : Option (Bor (Vec ℕ Global) × Bor Messages))
    → seen before ≡ drop at batches → at < length batches → TakesFirst deref_pair before r left → IsSome r
some_next batches at before left (Some x) e within took = refl
some_next batches at before left None e within took =
    let some = some_left batches before at e within in
    let none : length before ≡ 0 = ap length took.0 in
    absurd (omega (arith, some, none))

pub more : (P : OpenBatch → Type 0) (batches : List OpenBatch) (i : ℕ) (batch : OpenBatch) → slice_get batches i ≡ Some batch → P batch → All P (take i batches) → All P (take (i + 1) batches)
more P batches i batch there holds every =
    All-more P batches i batch (slice_get_within batches i batch there) every
    (subst P (sym (get_or_from_slice_get batches i batch batch there)) holds)

pub whole : (P : OpenBatch → Type 0) (batches : List OpenBatch) (i : ℕ) → length batches ≤ i → All P (take i batches) → All P batches
whole P batches i past every = subst (All P) (take_all i batches past) every

-- what was found
pub found : (held : Batches) (now : ℕ) (dry : Bool) (at : ℕ) (entry : Vec ℕ Global × Messages) (first : MsgNo) (trigger : Trigger)
    → slice_get held.batches at ≡ Some (batch_of entry) → first.0 ≡ first_of (batch_in [] entry.1) → Some trigger ≡ trigger_of held now dry (batch_in [] entry.1)
    → IsClosable held now dry (record { at = at; first = first; trigger = trigger })
found held now dry at entry first trigger there e holds = record { batch = batch_of entry; there = there; first = e; trigger = sym holds }

some_none : (t : Trigger) → Some t ≡ None → ⊥
some_none t e = true≢false (ap is_some e)

-- a batch with a trigger is none without one
pub not_none : (held : Batches) (now : ℕ) (dry : Bool) (c : Closable) → IsClosable held now dry c → All (λ batch. trigger_of held now dry batch ≡ None) held.batches → ⊥
not_none held now dry c is none =
    some_none c.trigger
    (sym is.trigger
    ∙ subst (λ batch. trigger_of held now dry batch ≡ None) (get_or_from_slice_get held.batches c.at is.batch is.batch is.there)
    (none c.at is.batch (slice_get_within held.batches c.at is.batch is.there)))

pub not_none_at : (held : Batches) (now : ℕ) (dry : Bool) (c : Closable) (first : MsgNo) → IsClosable held now dry c → c.first.0 ≡ first.0
    → All (λ batch. first_of batch ≡ first.0 → trigger_of held now dry batch ≡ None) held.batches → ⊥
not_none_at held now dry c first is e none =
    some_none c.trigger
    (sym is.trigger
    ∙ subst (λ batch. first_of batch ≡ first.0 → trigger_of held now dry batch ≡ None) (get_or_from_slice_get held.batches c.at is.batch is.batch is.there)
    (none c.at is.batch (slice_get_within held.batches c.at is.batch is.there)) (sym is.first ∙ e))

pub closable_within : (held : Batches) (now : ℕ) (dry : Bool) (c : Closable) → IsClosable held now dry c → c.at < length held.batches
closable_within held now dry c is = slice_get_within held.batches c.at is.batch is.there

-- where none is ready, all are in the order of their ticks, and the first has not been open for so long, none has a trigger
none_ready : (size : ℕ) (batches : List OpenBatch) → ready_in size batches ≤ 0 → All (λ b. is_ready size b ≡ false) batches
none_ready size [] none = All-nil (λ b. is_ready size b ≡ false)
none_ready size (batch ∷ batches) none = by (is_ready size batch) refl (none_ready size batches) none
  where
    by : (b : Bool) → is_ready size batch ≡ b → (ready_in size batches ≤ 0 → All (λ b. is_ready size b ≡ false) batches) → cond b (suc (ready_in size batches)) (ready_in size batches) ≤ 0 → All (λ b. is_ready size b ≡ false) (batch ∷ batches)
    by true e rest le = absurd (omega (arith, le))
    by false e rest le = All-cons (λ b. is_ready size b ≡ false) batch batches e (rest le)

none_earlier : (from to : ℕ) (batches : List OpenBatch) → Rise from to (ticks_of batches) → All (λ b. from ≤ b.opened) batches
none_earlier from to [] rise = All-nil (λ b. from ≤ b.opened)
none_earlier from to (batch ∷ batches) rise =
    All-cons (λ b. from ≤ b.opened) batch batches rise.0
    (λ k d within. let later = none_earlier batch.opened to batches rise.1 k d within in omega (arith, later, rise.0))

first_earliest : (from to timeout now : ℕ) (batches : List OpenBatch) → Rise from to (ticks_of batches) → first_has_passed timeout now batches ≡ false → All (λ b. nat_le (b.opened + timeout) now ≡ false) batches
first_earliest from to timeout now [] rise not_yet = All-nil (λ b. nat_le (b.opened + timeout) now ≡ false)
first_earliest from to timeout now (batch ∷ batches) rise not_yet =
    All-cons (λ b. nat_le (b.opened + timeout) now ≡ false) batch batches not_yet
    (λ k d within. let later = none_earlier batch.opened to batches rise.1 k d within in grind (arith, nat_tests, later, not_yet))

pub none_yet : (held : Batches) (now ready newest : ℕ) (in_order : Bool) → IsKept held.batch_size ready in_order newest held.batches → ready ≡ 0 → in_order ≡ true → first_has_passed held.batch_timeout now held.batches ≡ false
    → All (λ batch. trigger_of held now false batch ≡ None) held.batches
none_yet held now ready newest in_order kept none set not_yet k d within =
    by (length (get_or held.batches k d).numbers == held.batch_size) (get_or held.batches k d).flush (nat_le ((get_or held.batches k d).opened + held.batch_timeout) now)
    (none_ready held.batch_size held.batches (let few = kept.within (omega (arith, none)) in omega (arith, none, few)) k d within)
    (first_earliest 0 newest held.batch_timeout now held.batches (kept.rise set) not_yet k d within)
  where
    by : (full flush passed : Bool) → (full || flush) ≡ false → passed ≡ false → cond full (Some Size) (cond (flush || false) (Some Flush) (cond passed (Some Timeout) None)) ≡ None
    by true flush passed e f = absurd (true≢false e)
    by false true passed e f = absurd (true≢false e)
    by false false true e f = absurd (true≢false f)
    by false false false e f = refl

-- whether the first has been open for so long, by its messages
pub passed_first : (timeout now : ℕ) (es : Entries) (m : Messages) → Some m ≡ option_map (λ (e : Vec ℕ Global × Messages). e.1) (slice_get es 0) → nat_le (m.opened + timeout) now ≡ first_has_passed timeout now (seen es)
passed_first timeout now [] m e = absurd (true≢false (ap is_some e))
passed_first timeout now (entry ∷ es) m e = ap (λ o. nat_le ((unwrap_or o m).opened + timeout) now) e

pub passed_none : (timeout now : ℕ) (es : Entries) → None ≡ option_map (λ (e : Vec ℕ Global × Messages). e.1) (slice_get es 0) → false ≡ first_has_passed timeout now (seen es)
passed_none timeout now [] e = refl
passed_none timeout now (entry ∷ es) e = absurd (true≢false (ap is_some (sym e)))
