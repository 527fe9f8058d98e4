-- Units counted on their subscriptions, one after another.
use Rattle.std.proofs.Common.{◌≡◌, ℕ, zero, suc, ◌+◌, ◌-◌, ◌<◌, ◌≤◌, List, [], ◌∷◌, length, drop, Bool, true, false, refl, ap, sym, ◌∙◌, Some, None, Option, arith, get_or, if◌then◌else◌}
use Rattle.std.specs.Prelude.{option_map, ◌==◌, ◌&&◌}
use Rattle.std.proofs.lemmas.List.{at_drop_more}
use Rattle.std.proofs.lemmas.Option.{same_Some}
use Rattle.pipe_types.specs.declared.numbers.StageNo.{StageNo}
use Rattle.pipe_types.specs.declared.numbers.SubNo.{SubNo}
use Rattle.pipe_types.specs.declared.room.Sent.{Sent}
use Rattle.pipe_types.specs.Numbers.{same_stage}
use Rattle.pipe_laws.proofs.Tests.{same_stage-self}
use Rattle.stage_subs.specs.Pairs.{PairRow}
use Rattle.stage_subs.specs.Subs.{row_at, is_live_in, room_in, sent_more, is_pair, IsChanged}
use Rattle.core_tables.specs.Tables.{count_between}

-- the count does not change whether a row is live
live_more : (k : ℕ) (o : Option PairRow) (g : ℕ) → is_live_in (option_map (sent_more k) o) g ≡ is_live_in o g
live_more k None g = refl
live_more k (Some row) g = refl

-- a row with which so much is still to do is as live as it was
pub live_still : (k m g : ℕ) (new old : Option PairRow) → option_map (sent_more k) new ≡ option_map (sent_more m) old → is_live_in new g ≡ is_live_in old g
live_still k m g new old e = sym (live_more k new g) ∙ (ap (λ o. is_live_in o g) e ∙ live_more m old g)

-- and it has room for one more
pub room_still : (k m g : ℕ) (new old : Option PairRow) → option_map (sent_more k) new ≡ option_map (sent_more m) old → is_live_in old g ≡ true
    → m ≤ room_in old g → 1 ≤ k → k ≤ m → 1 ≤ room_in new g
room_still k m g None None e live most some less = cc
room_still k m g None (Some y) e live most some less = cc
room_still k m g (Some x) None e live most some less = cc
room_still k m g (Some x) (Some y) e live most some less =
    let same : sent_more k x ≡ sent_more m y = same_Some (sent_more k x) (sent_more m y) e in
    let asked : x.counts.asked ≡ y.counts.asked = ap (λ (r : PairRow). r.counts.asked) same in
    let arrived : x.counts.arrived + k ≡ y.counts.arrived + m = ap (λ (r : PairRow). r.counts.arrived) same in
    let here : (x.is_live && x.generation == g) ≡ true = live_still k m g (Some x) (Some y) e ∙ live in
    let old : room_in (Some y) g ≡ y.counts.asked - y.counts.arrived = ap (λ b. if b then y.counts.asked - y.counts.arrived else 0) live in
    let new : room_in (Some x) g ≡ x.counts.asked - x.counts.arrived = ap (λ b. if b then x.counts.asked - x.counts.arrived else 0) here in
    omega (arith, asked, arrived, old, new, most, some, less)

pub count_more : (units : List Sent) (i : ℕ) (e : Sent) (c p : StageNo) → i < length units
    → count_between (drop i units) c p
    ≡ (if same_stage c (get_or units i e).sub.consumer && same_stage p (get_or units i e).sub.producer then count_between (drop (i + 1) units) c p + 1 else count_between (drop (i + 1) units) c p)
count_more units i e c p below = at_drop_more (λ us. count_between us c p) units i e below

-- the pair of a unit has it to count
pub count_some : (units : List Sent) (i : ℕ) (e : Sent) → i < length units → 1 ≤ count_between (drop i units) (get_or units i e).sub.consumer (get_or units i e).sub.producer
count_some units i e below =
    let u : SubNo = (get_or units i e).sub in
    let more = count_more units i e u.consumer u.producer below in
    let here : (if same_stage u.consumer u.consumer && same_stage u.producer u.producer then count_between (drop (i + 1) units) u.consumer u.producer + 1 else count_between (drop (i + 1) units) u.consumer u.producer)
    ≡ count_between (drop (i + 1) units) u.consumer u.producer + 1 =
    ap (λ b. if b && same_stage u.producer u.producer then count_between (drop (i + 1) units) u.consumer u.producer + 1 else count_between (drop (i + 1) units) u.consumer u.producer) (same_stage-self u.consumer)
    ∙ ap (λ b. if b then count_between (drop (i + 1) units) u.consumer u.producer + 1 else count_between (drop (i + 1) units) u.consumer u.producer) (same_stage-self u.producer) in
    omega (arith, more, here)

-- and no more than all
pub count_less : (units : List Sent) (i : ℕ) (c p : StageNo) → count_between (drop i units) c p ≤ count_between units c p
count_less units zero c p = omega arith
count_less [] (suc i) c p = omega arith
count_less (d ∷ units) (suc i) c p = by (same_stage c d.sub.consumer && same_stage p d.sub.producer) (count_less units i c p)
  where
    by : (b : Bool) → count_between (drop i units) c p ≤ count_between units c p → count_between (drop i units) c p ≤ (if b then count_between units c p + 1 else count_between units c p)
    by true h = omega arith
    by false h = h

row_more : (k : ℕ) (o : Option PairRow) → option_map (sent_more k) (option_map (sent_more 1) o) ≡ option_map (sent_more (k + 1)) o
row_more k None = refl
row_more k (Some row) = let sum : (row.counts.arrived + 1) + k ≡ row.counts.arrived + (k + 1) = omega arith in ap (λ n. Some (record row { counts = record row.counts { arrived = n } })) sum

pub row_none : (o : Option PairRow) → option_map (sent_more 0) o ≡ o
row_none None = refl
row_none (Some row) = let sum : row.counts.arrived + 0 ≡ row.counts.arrived = omega arith in ap (λ n. Some (record row { counts = record row.counts { arrived = n } })) sum

-- one unit counted on the subscription of it, what is still to do is as before
pub counted_step : (old new : List (Option PairRow)) (units : List Sent) (i : ℕ) (e : Sent) → i < length units → IsChanged old new (get_or units i e).sub (sent_more 1)
    → (c p : StageNo) → option_map (sent_more (count_between (drop (i + 1) units) c p)) (row_at new c p) ≡ option_map (sent_more (count_between (drop i units) c p)) (row_at old c p)
counted_step old new units i e below changed c p =
    let u : SubNo = (get_or units i e).sub in
    ap (option_map (sent_more (count_between (drop (i + 1) units) c p))) (changed.rows c p)
    ∙ (by (is_pair u.consumer u.producer c p) ∙ ap (λ k. option_map (sent_more k) (row_at old c p)) (sym (count_more units i e c p below)))
  where
    by : (b : Bool) → option_map (sent_more (count_between (drop (i + 1) units) c p)) (if b then option_map (sent_more 1) (row_at old c p) else row_at old c p)
        ≡ option_map (sent_more (if b then count_between (drop (i + 1) units) c p + 1 else count_between (drop (i + 1) units) c p)) (row_at old c p)
    by true = row_more (count_between (drop (i + 1) units) c p) (row_at old c p)
    by false = refl
