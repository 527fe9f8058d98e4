-- What leaves the open batches: one that is closed, and the last message of the last.
use Rattle.std.proofs.Common.{◌≡◌, ℕ, zero, suc, ◌+◌, ◌-◌, ◌^◌, ◌<◌, ◌≤◌, List, [], ◌∷◌, ◌++◌, length, map, take, drop, get_or, Bool, true, false, cond, refl, ap, sym, ◌∙◌, subst, Some, None, Option, Vec, Global, All, slice_get, arith, eqb-true}
use Rattle.std.specs.Prelude.{remove, ◌==◌, ◌&&◌, ◌||◌, nat_lt, not, is_some, unwrap_or, option_to_list, option_map, IsSome}
use Rattle.std.specs.Map.{values_of}
use Rattle.std.proofs.lemmas.Bool.{true≢false}
use Rattle.std.proofs.lemmas.Bool.Decides.{nat_tests}
use Rattle.std.proofs.lemmas.List.{map-append, append-nil, length-append, append_assoc}
use Rattle.std.proofs.lemmas.List.Elements.{All-append, All-take, All-drop, All-nil, All-cons}
use Rattle.std.proofs.lemmas.Option.{get_or_from_slice_get, slice_get_within, slice_get-map}
use Rattle.std.specs.List.{flat_map}
use Rattle.std.proofs.Math.Seq.{take-append_seam, drop-append_seam}
use Rattle.batcher.specs.declared.messages.Messages.{Messages}
use Rattle.batcher.specs.Batches.{OpenBatch, numbers_in, left_of}
use Rattle.batcher.specs.Seen.{seen, batch_in, batch_of, is_ready, ready_in, less_ready, ticks_of, Rise, IsKept, PopsNumber}
use Rattle.batcher.proofs.Gathers.{Entries}
use Rattle.batcher.proofs.Closing.{seen_at}

pub map-remove : {X Y : Type 0} (f : X → Y) (xs : List X) (i : ℕ) → map f (remove xs i) ≡ remove (map f xs) i
map-remove f [] zero = refl
map-remove f [] (suc i) = refl
map-remove f (x ∷ xs) zero = refl
map-remove f (x ∷ xs) (suc i) = ap (λ ys. f x ∷ ys) (map-remove f xs i)

pub seen-remove : (es : Entries) (at : ℕ) → seen (remove es at) ≡ remove (seen es) at
seen-remove es at = map-remove batch_of es at

-- how many are ready without one
ready_remove : (size : ℕ) (batches : List OpenBatch) (at : ℕ) (batch : OpenBatch) → slice_get batches at ≡ Some batch → ready_in size (remove batches at) + cond (is_ready size batch) 1 0 ≡ ready_in size batches
ready_remove size [] at batch e = absurd (true≢false (ap is_some (sym e)))
ready_remove size (first ∷ batches) zero batch e = subst (λ (b : OpenBatch). ready_in size batches + cond (is_ready size b) 1 0 ≡ cond (is_ready size first) (suc (ready_in size batches)) (ready_in size batches)) same (by (is_ready size first))
  where
    same : first ≡ batch
    same = ap (λ o. unwrap_or o first) e

    by : (b : Bool) → ready_in size batches + cond b 1 0 ≡ cond b (suc (ready_in size batches)) (ready_in size batches)
    by true = omega arith
    by false = omega arith
ready_remove size (first ∷ batches) (suc at) batch e = by (is_ready size first) (ready_remove size batches at batch e)
  where
    by : (b : Bool) → ready_in size (remove batches at) + cond (is_ready size batch) 1 0 ≡ ready_in size batches
        → cond b (suc (ready_in size (remove batches at))) (ready_in size (remove batches at)) + cond (is_ready size batch) 1 0 ≡ cond b (suc (ready_in size batches)) (ready_in size batches)
    by true same = omega (arith, same)
    by false same = same

rise_lower : (from from' to : ℕ) (ticks : List ℕ) → from' ≤ from → Rise from to ticks → Rise from' to ticks
rise_lower from from' to [] le rise = omega (arith, le, rise)
rise_lower from from' to (tick ∷ ticks) le rise = (omega (arith, le, rise.0), rise.1)

rise_remove : (from to : ℕ) (ticks : List ℕ) (at : ℕ) → Rise from to ticks → Rise from to (remove ticks at)
rise_remove from to [] zero rise = rise
rise_remove from to [] (suc at) rise = rise
rise_remove from to (tick ∷ ticks) zero rise = rise_lower tick from to ticks rise.0 rise.1
rise_remove from to (tick ∷ ticks) (suc at) rise = (rise.0, rise_remove tick to ticks at rise.1)

less_within : (most ready n n' : ℕ) (was : Bool) → n' + cond was 1 0 ≡ n → (ready < most → n ≤ ready)
    → cond (was && nat_lt ready most) (ready - 1) ready < most → n' ≤ cond (was && nat_lt ready most) (ready - 1) ready
less_within most ready n n' true count within = by (nat_lt ready most) refl
  where
    by : (b : Bool) → nat_lt ready most ≡ b → cond b (ready - 1) ready < most → n' ≤ cond b (ready - 1) ready
    by true e below = let here : ready < most = grind (arith, nat_tests) in let few = within here in omega (arith, count, few)
    by false e below = absurd (grind (arith, nat_tests))
less_within most ready n n' false count within = λ below. let few = within below in omega (arith, count, few)

suc_not : (n : ℕ) → (suc n == 0) ≡ true → ⊥
suc_not n e = absurd (omega (arith, eqb-true (suc n) 0 e))

-- none is left out where there is none
rise_none : (in_order in_order' : Bool) (newest : ℕ) (left : List OpenBatch) → in_order' ≡ (in_order || (length left == 0)) → (in_order ≡ true → Rise 0 newest (ticks_of left)) → in_order' ≡ true → Rise 0 newest (ticks_of left)
rise_none in_order in_order' newest [] e rise set = omega arith
rise_none true in_order' newest (batch ∷ left) e rise set = rise refl
rise_none false in_order' newest (batch ∷ left) e rise set = absurd (suc_not (length left) (sym e ∙ set))

pub removed_kept : (size at ready newest : ℕ) (in_order in_order' was : Bool) (batches left : List OpenBatch) (batch : OpenBatch) → left ≡ remove batches at → slice_get batches at ≡ Some batch → was ≡ is_ready size batch
    → in_order' ≡ (in_order || (length left == 0)) → IsKept size ready in_order newest batches → IsKept size (less_ready ready was) in_order' newest left
removed_kept size at ready newest in_order in_order' was batches left batch e there is same kept = record {
  begun =
      subst (All (λ b. 0 < length b.numbers)) (sym e)
      (All-append (λ b. 0 < length b.numbers) (take at batches) (drop (suc at) batches)
      (All-take (λ b. 0 < length b.numbers) at batches kept.begun) (All-drop (λ b. 0 < length b.numbers) (suc at) batches kept.begun));
  within =
      less_within (2 ^ 64 - 1) ready (ready_in size batches) (ready_in size left) was
      ((λ i. ready_in size (e i) + cond (is i) 1 0) ∙ ready_remove size batches at batch there) kept.within;
  rise =
      rise_none in_order in_order' newest left same
      (λ set. subst (Rise 0 newest) (sym (ap ticks_of e ∙ map-remove (λ (b : OpenBatch). b.opened) batches at)) (rise_remove 0 newest (ticks_of batches) at (kept.rise set)));
}

-- the entries with these messages at a place
abbrev pub set_value_at : Entries → ℕ → Messages → Entries
set_value_at [] at w = []
set_value_at (entry ∷ es) zero w = (entry.0, w) ∷ es
set_value_at (entry ∷ es) (suc at) w = entry ∷ set_value_at es at w

-- the last of some entries, at its place
pub record Last (es : Entries) (at : ℕ) : Type 0 where
  pub front : Entries
  pub key : Vec ℕ Global
  pub messages : Messages
  pub is : es ≡ front ++ (key, messages) ∷ []
  pub value : slice_get (values_of es) at ≡ Some messages
  pub put : (w : Messages) → set_value_at es at w ≡ front ++ (key, w) ∷ []

last_of : (entry : Vec ℕ Global × Messages) (es : Entries) → Last (entry ∷ es) (length es)
last_of entry [] = record { front = []; key = entry.0; messages = entry.1; is = refl; value = refl; put = λ w. refl }
last_of entry (e ∷ es) =
    let last = last_of e es in
    record {
      front = entry ∷ last.front;
      key = last.key;
      messages = last.messages;
      is = ap (λ es. entry ∷ es) last.is;
      value = last.value;
      put = λ w. ap (λ es. entry ∷ es) (last.put w);
    }

last_at : (es : Entries) (at : ℕ) → 0 < length es → at ≡ length es - 1 → Last es at
last_at [] at some place = absurd (omega arith)
last_at (entry ∷ es) at some place = subst (Last (entry ∷ es)) (let e : length es ≡ at = omega arith in e) (last_of entry es)

-- the last of a list
get_last : {X : Type 0} (xs : List X) (x : X) → slice_get (xs ++ x ∷ []) (length xs) ≡ Some x
get_last [] x = refl
get_last (z ∷ xs) x = get_last xs x

pub last_entry : {X : Type 0} (es front : List X) (last : X) → es ≡ front ++ last ∷ [] → slice_get es (length es - 1) ≡ Some last
last_entry es front last e =
    let len : length es ≡ length front + 1 = ap length e ∙ length-append front (last ∷ []) in
    let at : length es - 1 ≡ length front = omega (arith, len) in
    (λ i. slice_get (e i) (at i)) ∙ get_last front last

without_last : (es front : Entries) (last : Vec ℕ Global × Messages) → es ≡ front ++ last ∷ [] → take (length es - 1) es ≡ front
without_last es front last e =
    let len : length es ≡ length front + 1 = ap length e ∙ length-append front (last ∷ []) in
    let at : length es - 1 ≡ length front = omega (arith, len) in
    (λ i. take (at i) (e i)) ∙ take-append_seam front (last ∷ [])

-- the last goes where it has no message, and stays where it has one
pub emptied : (es front : Entries) (last : Vec ℕ Global × Messages) → es ≡ front ++ last ∷ [] → true ≡ not (nat_lt 0 (length last.1.numbers.items))
    → take (length es - 1) es ≡ cond (nat_lt 0 (length last.1.numbers.items)) (front ++ last ∷ []) front
emptied es front last e empty = without_last es front last e ∙ by (nat_lt 0 (length last.1.numbers.items)) empty
  where
    by : (b : Bool) → true ≡ not b → front ≡ cond b (front ++ last ∷ []) front
    by true f = absurd (true≢false f)
    by false f = refl

pub filled : (es front : Entries) (last : Vec ℕ Global × Messages) → es ≡ front ++ last ∷ [] → false ≡ not (nat_lt 0 (length last.1.numbers.items))
    → es ≡ cond (nat_lt 0 (length last.1.numbers.items)) (front ++ last ∷ []) front
filled es front last e full = e ∙ by (nat_lt 0 (length last.1.numbers.items)) full
  where
    by : (b : Bool) → false ≡ not b → front ++ last ∷ [] ≡ cond b (front ++ last ∷ []) front
    by true f = refl
    by false f = absurd (true≢false (sym f))

pub pops : (es : Entries) (at : ℕ) (m w : Messages) (n : ℕ) → 0 < length es → at ≡ length es - 1 → slice_get (values_of es) at ≡ Some m
    → m.numbers.items ≡ w.numbers.items ++ n ∷ [] → w.opened ≡ m.opened → w.flush ≡ false → PopsNumber es (set_value_at es at w) n
pops es at m w n some place value numbers opened flush =
    let last = last_at es at some place in
    let is : last.messages ≡ m = ap (λ o. unwrap_or o m) (sym last.value ∙ value) in
    record {
      front = last.front;
      key = last.key;
      before = last.messages;
      after = w;
      was = last.is;
      is = last.put w;
      numbers = ap (λ (m : Messages). m.numbers.items) is ∙ numbers;
      opened = opened ∙ ap (λ (m : Messages). m.opened) (sym is);
      flush = flush;
    }

-- each batch has a message
pub begun_at : (es : Entries) (at : ℕ) (m : Messages) → All (λ batch. 0 < length batch.numbers) (seen es) → slice_get (values_of es) at ≡ Some m → 0 < length m.numbers.items
begun_at es at m begun value =
    let here = seen_at es at m value in
    subst (λ (b : OpenBatch). 0 < length b.numbers) (get_or_from_slice_get (seen es) at (batch_in here.0 m) (batch_in here.0 m) here.1)
    (begun at (batch_in here.0 m) (slice_get_within (seen es) at (batch_in here.0 m) here.1))

rise_front : (from to : ℕ) (ticks : List ℕ) (tick : ℕ) → Rise from to (ticks ++ tick ∷ []) → Rise from to ticks
rise_front from to [] tick rise = omega (arith, rise.0, rise.1)
rise_front from to (first ∷ ticks) tick rise = (rise.0, rise_front first to ticks tick rise.1)

-- where the last number is gone, and its batch with it if that is empty
module _ (old new left : Entries) (n : ℕ) (popped : PopsNumber old new n)
    (is_left : (front : Entries) (last : Vec ℕ Global × Messages) → new ≡ front ++ last ∷ [] → left ≡ cond (nat_lt 0 (length last.1.numbers.items)) (front ++ last ∷ []) front) where
  abbrev remains : List OpenBatch
  remains = cond (nat_lt 0 (length popped.after.numbers.items)) (batch_of (popped.key, popped.after) ∷ []) []

  left_is : seen left ≡ seen popped.front ++ remains
  left_is = ap seen (is_left popped.front (popped.key, popped.after) popped.is) ∙ by (nat_lt 0 (length popped.after.numbers.items))
    where
      by : (b : Bool) → seen (cond b (popped.front ++ (popped.key, popped.after) ∷ []) popped.front) ≡ seen popped.front ++ cond b (batch_of (popped.key, popped.after) ∷ []) []
      by true = map-append batch_of popped.front ((popped.key, popped.after) ∷ [])
      by false = sym (append-nil (seen popped.front))

  old_is : seen old ≡ seen popped.front ++ batch_of (popped.key, popped.before) ∷ []
  old_is = ap seen popped.was ∙ map-append batch_of popped.front ((popped.key, popped.before) ∷ [])

  rise_is : (newest : ℕ) → Rise 0 newest (ticks_of (seen old)) → Rise 0 newest (ticks_of (seen left))
  rise_is newest rise =
      subst (λ bs. Rise 0 newest (ticks_of bs)) (sym left_is)
      (by (nat_lt 0 (length popped.after.numbers.items)) (subst (Rise 0 newest) (map-append (λ (b : OpenBatch). b.opened) (seen popped.front) (batch_of (popped.key, popped.before) ∷ [])) (subst (λ bs. Rise 0 newest (ticks_of bs)) old_is rise)))
    where
      by : (b : Bool) → Rise 0 newest (ticks_of (seen popped.front) ++ popped.before.opened ∷ []) → Rise 0 newest (ticks_of (seen popped.front ++ cond b (batch_of (popped.key, popped.after) ∷ []) []))
      by true rise =
          subst (Rise 0 newest) (sym (map-append (λ (b : OpenBatch). b.opened) (seen popped.front) (batch_of (popped.key, popped.after) ∷ [])))
          (subst (λ t. Rise 0 newest (ticks_of (seen popped.front) ++ t ∷ [])) (sym popped.opened) rise)
      by false rise =
          subst (λ bs. Rise 0 newest (ticks_of bs)) (sym (append-nil (seen popped.front)))
          (rise_front 0 newest (ticks_of (seen popped.front)) popped.before.opened rise)

  pub dumped_kept : (size ready ready' newest : ℕ) (in_order : Bool) → (ready' < 2 ^ 64 - 1 → seen left ≡ []) → IsKept size ready in_order newest (seen old) → IsKept size ready' in_order newest (seen left)
  dumped_kept size ready ready' newest in_order none kept = record {
    begun = subst (All (λ b. 0 < length b.numbers)) (sym left_is) (All-append (λ b. 0 < length b.numbers) (seen popped.front) remains (front_all (λ b. 0 < length b.numbers) kept.begun) (last_begun (nat_lt 0 (length popped.after.numbers.items)) refl));
    within = λ below. subst (λ bs. ready_in size bs ≤ ready') (sym (none below)) (omega arith);
    rise = λ set. rise_is newest (kept.rise set);
  }
    where
      front_all : (P : OpenBatch → Type 0) → All P (seen old) → All P (seen popped.front)
      front_all P every =
          subst (All P) (take-append_seam (seen popped.front) (batch_of (popped.key, popped.before) ∷ []))
          (All-take P (length (seen popped.front)) (seen popped.front ++ batch_of (popped.key, popped.before) ∷ []) (subst (All P) old_is every))

      last_begun : (b : Bool) → nat_lt 0 (length popped.after.numbers.items) ≡ b → All (λ b. 0 < length b.numbers) (cond b (batch_of (popped.key, popped.after) ∷ []) [])
      last_begun true e = All-cons (λ b. 0 < length b.numbers) (batch_of (popped.key, popped.after)) [] (grind (arith, nat_tests)) (All-nil (λ b. 0 < length b.numbers))
      last_begun false e = All-nil (λ b. 0 < length b.numbers)

  -- and what is left of the last batch
  pub dumped_last : drop (length (seen old) - 1) (seen left) ≡ flat_map left_of (drop (length (seen old) - 1) (seen old))
  dumped_last =
      (λ i. drop (front_len i) (left_is i))
      ∙ (drop-append_seam (seen popped.front) remains
      ∙ (last_is (nat_lt 0 (length popped.after.numbers.items)) refl
      ∙ sym ((λ i. flat_map left_of (drop (front_len i) (old_is i))) ∙ ap (flat_map left_of) (drop-append_seam (seen popped.front) (batch_of (popped.key, popped.before) ∷ [])))))
    where
      front_len : length (seen old) - 1 ≡ length (seen popped.front)
      front_len = let both = ap length old_is in omega (arith, both, length-append (seen popped.front) (batch_of (popped.key, popped.before) ∷ []))

      count : length popped.before.numbers.items ≡ length popped.after.numbers.items + 1
      count = ap length popped.numbers ∙ length-append popped.after.numbers.items (n ∷ [])

      others : take (length popped.before.numbers.items - 1) popped.before.numbers.items ≡ popped.after.numbers.items
      others =
          let place : length popped.before.numbers.items - 1 ≡ length popped.after.numbers.items = omega (arith, count) in
          (λ i. take (place i) (popped.numbers i)) ∙ take-append_seam popped.after.numbers.items (n ∷ [])

      -- the last batch, where it has that many messages
      last_is : (b : Bool) → nat_lt 0 (length popped.after.numbers.items) ≡ b → cond b (batch_of (popped.key, popped.after) ∷ []) [] ≡ left_of (batch_of (popped.key, popped.before)) ++ []
      last_is true e =
          let more : nat_lt 1 (length popped.before.numbers.items) ≡ true = grind (arith, nat_tests, count) in
          sym
          ((λ i. cond (more i) (record { key = popped.key.items; numbers = others i; flush = false; opened = popped.before.opened } ∷ []) [] ++ [])
          ∙ (λ i. record { key = popped.key.items; numbers = popped.after.numbers.items; flush = sym popped.flush i; opened = sym popped.opened i } ∷ []))
      last_is false e =
          let none : nat_lt 1 (length popped.before.numbers.items) ≡ false = grind (arith, nat_tests, count) in
          sym (λ i. cond (none i) (record { key = popped.key.items; numbers = others i; flush = false; opened = popped.before.opened } ∷ []) [] ++ [])

-- none is left where the count is known
pub none_left : (is_empty : Bool) (left : Entries) (ready : ℕ) → is_empty ≡ (length left == 0) → ready ≡ cond is_empty 0 (2 ^ 64 - 1) → ready < 2 ^ 64 - 1 → seen left ≡ []
none_left true [] ready is count below = refl
none_left true (entry ∷ left) ready is count below = absurd (suc_not (length left) (sym is))
none_left false left ready is count below = absurd (omega (arith, count, below))

-- the batch of an entry
pub closed_at : (es : Entries) (at : ℕ) (entry : Vec ℕ Global × Messages) → slice_get es at ≡ Some entry → Some (batch_of entry) ≡ slice_get (seen es) at
closed_at es at entry there = sym (slice_get-map batch_of es at ∙ ap (option_map batch_of) there)
