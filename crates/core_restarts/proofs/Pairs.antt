-- The pairs of a restarted stage, one after another.
use Rattle.std.proofs.Common.{◌≡◌, ℕ, ◌+◌, ◌<◌, ◌≤◌, List, Bool, true, false, refl, ap, sym, ◌∙◌, subst, Some, None, Option, option_map, arith}
use Rattle.std.specs.Prelude.{slice_get, if◌then◌else◌, ◌&&◌, ◌||◌, ◌==◌, not, nat_le, is_none, IsSome}
use Rattle.std.proofs.lemmas.Bool.Decides.{nat_tests}
use Rattle.std.proofs.lemmas.Bool.{false_from_ne_true, or_left, or_right}
use Rattle.std.proofs.Math.Bool.{and-false}
use Rattle.pipe_types.specs.declared.numbers.StageNo.{StageNo}
use Rattle.pipe_types.specs.declared.topology.Topology.{Topology}
use Rattle.pipe_types.specs.declared.topology.StageSpec.{StageSpec}
use Rattle.pipe_types.specs.Sound.{IsSound}
use Rattle.pipe_types.specs.Numbers.{same_stage}
use Rattle.pipe_types.specs.Stages.{spec_of, feeds}
use Rattle.pipe_model.specs.Ledger.{min_in, max_in}
use Rattle.pipe_laws.proofs.Tests.{and_left, and_right, clash, same_stage-true}
use Rattle.stage_subs.specs.Pairs.{PairRow}
use Rattle.stage_subs.specs.Subs.{row_at, begun, generation_in, is_pair, IsPut}
use Rattle.core_tables.specs.declared.rows.StageRow.{StageRow}
use Rattle.core_state.specs.Readings.{lives_by}
use Rattle.core_state.proofs.FirstPairs.{feeding}
use Rattle.core_restarts.specs.Renewals.{live_upto, begins, joins, next_row, renewed, IsClosed}

-- One pair

next_is : (topology : Topology) (spec : StageSpec) (c : StageNo) (row : Option PairRow) → spec_of topology c ≡ Some spec → IsSome row
    → Some (begun (generation_in row + 1) spec.min spec.max) ≡ option_map (next_row topology c) row
next_is topology spec c None e had = absurd cc
next_is topology spec c (Some row) e had = ap (λ o. Some (begun (row.generation + 1) (min_in o) (max_in o))) (sym e)

pub pair_renewed : (topology : Topology) (old new : List (Option PairRow)) (consumer : StageSpec) (p : StageNo) → spec_of topology consumer.no ≡ Some consumer
    → IsSome (row_at old consumer.no p) → IsPut old new consumer.no p (begun (generation_in (row_at old consumer.no p) + 1) consumer.min consumer.max)
    → (d q : StageNo) → row_at new d q ≡ renewed topology d (is_pair consumer.no p d q) (row_at old d q)
pair_renewed topology old new consumer p e had put d q = put.rows d q ∙ by (is_pair consumer.no p d q) refl
  where
    by : (b : Bool) → is_pair consumer.no p d q ≡ b
        → (if b then Some (begun (generation_in (row_at old consumer.no p) + 1) consumer.min consumer.max) else row_at old d q) ≡ renewed topology d b (row_at old d q)
    by true same =
        let to : d ≡ consumer.no = same_stage-true d consumer.no (and_left (same_stage d consumer.no) _ same) in
        let of : q ≡ p = same_stage-true q p (and_right (same_stage d consumer.no) _ same) in
        next_is topology consumer consumer.no (row_at old consumer.no p) e had
        ∙ sym (ap (λ x. option_map (next_row topology x) (row_at old x q)) to ∙ ap (λ x. option_map (next_row topology consumer.no) (row_at old consumer.no x)) of)
    by false other = refl

-- The two pairs of two stages, of which at most one feeds

pub one_way : (topology : Topology) (p c : StageNo) → IsSound topology → feeds topology p c ≡ true → feeds topology c p ≡ false
one_way topology p c sound fed =
    false_from_ne_true (feeds topology c p) (λ back. let up = (feeding topology p c sound fed).up in let down = (feeding topology c p sound back).up in omega (arith, up, down))

-- these are the two stages of a pair
pair_is : (c p d q : StageNo) → is_pair c p d q ≡ true → (d ≡ c) × (q ≡ p)
pair_is c p d q h = (same_stage-true d c (and_left (same_stage d c) _ h), same_stage-true q p (and_right (same_stage d c) _ h))

-- whether a pair of two stages feeds
data Joint (topology : Topology) (s t c p : StageNo) : Type 0 where
  Above : c ≡ s → p ≡ t → is_pair s t c p ≡ true → Joint topology s t c p
  Below : c ≡ t → p ≡ s → is_pair s t c p ≡ false → is_pair t s c p ≡ true → Joint topology s t c p
  Neither : is_pair s t c p ≡ false → is_pair t s c p ≡ false → Joint topology s t c p

joint : (topology : Topology) (s t c p : StageNo) → Joint topology s t c p
joint topology s t c p = by (is_pair s t c p) (is_pair t s c p) refl refl
  where
    by : (a b : Bool) → is_pair s t c p ≡ a → is_pair t s c p ≡ b → Joint topology s t c p
    by true b e f = let is = pair_is s t c p e in Above is.0 is.1 e
    by false true e f = let is = pair_is t s c p f in Below is.0 is.1 e f
    by false false e f = Neither e f

and_none : (a b c : Bool) → b ≡ false → c ≡ false → (a && (b || c)) ≡ false
and_none true true c e f = e
and_none true false c e f = f
and_none false b c e f = refl

joins_none : (topology : Topology) (s t c p : StageNo) → is_pair s t c p ≡ false → is_pair t s c p ≡ false → joins topology s t c p ≡ false
joins_none topology s t c p e f = and_none (feeds topology p c) (is_pair s t c p) (is_pair t s c p) e f

joins_fed : (topology : Topology) (s t c p : StageNo) (b : Bool) → feeds topology p c ≡ b → (is_pair s t c p || is_pair t s c p) ≡ true → joins topology s t c p ≡ b
joins_fed topology s t c p b e f = ap (λ x. feeds topology p c && x) f ∙ (and_true (feeds topology p c) ∙ e)
  where
    and_true : (a : Bool) → (a && true) ≡ a
    and_true true = refl
    and_true false = refl

fed_as : (topology : Topology) (s t c p : StageNo) → c ≡ s → p ≡ t → feeds topology p c ≡ feeds topology t s
fed_as topology s t c p to of = ap (λ x. feeds topology p x) to ∙ ap (λ x. feeds topology x s) of

pub joined_above : (topology : Topology) (s t c p : StageNo) → IsSound topology → feeds topology t s ≡ true → is_pair s t c p ≡ joins topology s t c p
joined_above topology s t c p sound fed = by (joint topology s t c p)
  where
    by : Joint topology s t c p → is_pair s t c p ≡ joins topology s t c p
    by (Above to of e) = e ∙ sym (joins_fed topology s t c p true (fed_as topology s t c p to of ∙ fed) (or_left (is_pair s t c p) (is_pair t s c p) e))
    by (Below to of e f) = e ∙ sym (joins_fed topology s t c p false (fed_as topology t s c p to of ∙ one_way topology t s sound fed) (or_right (is_pair s t c p) (is_pair t s c p) f))
    by (Neither e f) = e ∙ sym (joins_none topology s t c p e f)

pub joined_below : (topology : Topology) (s t c p : StageNo) → feeds topology t s ≡ false → feeds topology s t ≡ true → is_pair t s c p ≡ joins topology s t c p
joined_below topology s t c p unfed fed = by (joint topology t s c p)
  where
    by : Joint topology t s c p → is_pair t s c p ≡ joins topology s t c p
    by (Above to of e) = e ∙ sym (joins_fed topology s t c p true (fed_as topology t s c p to of ∙ fed) (or_right (is_pair s t c p) (is_pair t s c p) e))
    by (Below to of e f) = e ∙ sym (joins_fed topology s t c p false (fed_as topology s t c p to of ∙ unfed) (or_left (is_pair s t c p) (is_pair t s c p) f))
    by (Neither e f) = e ∙ sym (joins_none topology s t c p f e)

pub joined_none : (topology : Topology) (s t c p : StageNo) → feeds topology t s ≡ false → feeds topology s t ≡ false → joins topology s t c p ≡ false
joined_none topology s t c p unfed apart = by (joint topology s t c p)
  where
    by : Joint topology s t c p → joins topology s t c p ≡ false
    by (Above to of e) = joins_fed topology s t c p false (fed_as topology s t c p to of ∙ unfed) (or_left (is_pair s t c p) (is_pair t s c p) e)
    by (Below to of e f) = joins_fed topology s t c p false (fed_as topology t s c p to of ∙ apart) (or_right (is_pair s t c p) (is_pair t s c p) f)
    by (Neither e f) = joins_none topology s t c p e f

-- One stage after another

abbrev upto : ℕ → (live : StageNo → Bool) → StageNo → Bool
upto n live t = nat_le t.0 n && live t

-- a pair that the two join begins once the other is among the stages
begins_above : (F Lp Lc : Bool) (s c p n : ℕ) → F ≡ true → c ≡ s → p ≤ n → Lp ≡ true → (F && ((s == c && (nat_le p n && Lp)) || (s == p && (nat_le c n && Lc)))) ≡ true
begins_above F Lp Lc s c p n fed is low live = grind (arith, nat_tests)

begins_below : (F Lp Lc : Bool) (s c p n : ℕ) → F ≡ true → p ≡ s → c ≤ n → Lc ≡ true → (F && ((s == c && (nat_le p n && Lp)) || (s == p && (nat_le c n && Lc)))) ≡ true
begins_below F Lp Lc s c p n fed is low live = grind (arith, nat_tests)

late_above : (F Lp Lc : Bool) (s c p n : ℕ) → n < p → Lc ≡ false → (F && ((s == c && (nat_le p n && Lp)) || (s == p && (nat_le c n && Lc)))) ≡ false
late_above F Lp Lc s c p n far dead = grind (arith, nat_tests)

late_below : (F Lp Lc : Bool) (s c p n : ℕ) → n < c → Lp ≡ false → (F && ((s == c && (nat_le p n && Lp)) || (s == p && (nat_le c n && Lc)))) ≡ false
late_below F Lp Lc s c p n far dead = grind (arith, nat_tests)

pub joined_begins : (topology : Topology) (live : StageNo → Bool) (s t c p : StageNo) (n : ℕ) → t.0 ≤ n → (live t && joins topology s t c p) ≡ true
    → begins topology (upto n live) s c p ≡ true
joined_begins topology live s t c p n low h = by (joint topology s t c p)
  where
    lives : live t ≡ true
    lives = and_left (live t) _ h

    fed : feeds topology p c ≡ true
    fed = and_left (feeds topology p c) _ (and_right (live t) _ h)

    by : Joint topology s t c p → begins topology (upto n live) s c p ≡ true
    by (Above to of e) = begins_above (feeds topology p c) (live p) (live c) s.0 c.0 p.0 n fed (ap (λ (x : StageNo). x.0) to) (subst (λ (x : StageNo). x.0 ≤ n) (sym of) low) (ap live of ∙ lives)
    by (Below to of e f) = begins_below (feeds topology p c) (live p) (live c) s.0 c.0 p.0 n fed (ap (λ (x : StageNo). x.0) of) (subst (λ (x : StageNo). x.0 ≤ n) (sym to) low) (ap live to ∙ lives)
    by (Neither e f) = clash (joins topology s t c p) (and_right (live t) _ h) (joins_none topology s t c p e f)

pub joined_later : (topology : Topology) (live : StageNo → Bool) (s t c p : StageNo) (n : ℕ) → n < t.0 → live s ≡ false → (live t && joins topology s t c p) ≡ true
    → begins topology (upto n live) s c p ≡ false
joined_later topology live s t c p n far dead h = by (joint topology s t c p)
  where
    by : Joint topology s t c p → begins topology (upto n live) s c p ≡ false
    by (Above to of e) = late_above (feeds topology p c) (live p) (live c) s.0 c.0 p.0 n (subst (λ (x : StageNo). n < x.0) (sym of) far) (ap live to ∙ dead)
    by (Below to of e f) = late_below (feeds topology p c) (live p) (live c) s.0 c.0 p.0 n (subst (λ (x : StageNo). n < x.0) (sym to) far) (ap live of ∙ dead)
    by (Neither e f) = clash (joins topology s t c p) (and_right (live t) _ h) (joins_none topology s t c p e f)

-- where the next stage is none of the pair, or does not live, nothing more begins
same_side : (live : StageNo → Bool) (t c : StageNo) (s p n : ℕ) → t.0 ≡ n + 1 → (s == p && (c.0 == t.0 && live t)) ≡ false → (s == p && (nat_le c.0 n && live c)) ≡ (s == p && (nat_le c.0 (n + 1) && live c))
same_side live t c s p n is_next none = by (s == p) (c.0 == t.0) refl none
  where
    by : (a b : Bool) → (c.0 == t.0) ≡ b → (a && (b && live t)) ≡ false → (a && (nat_le c.0 n && live c)) ≡ (a && (nat_le c.0 (n + 1) && live c))
    by false b e k = refl
    by true true e k =
        let is : c ≡ t = same_stage-true c t e in
        let dead : live c ≡ false = ap live is ∙ k in
        ap (λ x. nat_le c.0 n && x) dead ∙ (and_false (nat_le c.0 n) ∙ sym (ap (λ x. nat_le c.0 (n + 1) && x) dead ∙ and_false (nat_le c.0 (n + 1))))
      where
        and_false : (x : Bool) → (x && false) ≡ false
        and_false true = refl
        and_false false = refl
    by true false e k =
        let same : nat_le c.0 n ≡ nat_le c.0 (n + 1) = grind (arith, nat_tests) in
        ap (λ x. x && live c) same

unjoined : (F L a b c d : Bool) → (L && (F && ((a && b) || (c && d)))) ≡ false → F ≡ true → ((a && (b && L)) ≡ false) × ((d && (c && L)) ≡ false)
unjoined true true true true c d h e = absurd cc
unjoined true true true false true true h e = absurd cc
unjoined true true true false true false h e = (refl, refl)
unjoined true true true false false d h e = (refl, and-false d)
unjoined true true false b true true h e = absurd cc
unjoined true true false b true false h e = (refl, refl)
unjoined true true false b false d h e = (refl, and-false d)
unjoined true false a b c d h e = (none a b, none d c)
  where
    none : (x y : Bool) → (x && (y && false)) ≡ false
    none x true = and-false x
    none x false = and-false x
unjoined false L a b c d h e = absurd cc

pub unjoined_same : (topology : Topology) (live : StageNo → Bool) (s t c p : StageNo) (n : ℕ) → t.0 ≡ n + 1 → (live t && joins topology s t c p) ≡ false
    → begins topology (upto n live) s c p ≡ begins topology (upto (n + 1) live) s c p
unjoined_same topology live s t c p n is_next h = by (feeds topology p c) refl
  where
    by : (F : Bool) → feeds topology p c ≡ F
        → (F && ((s.0 == c.0 && (nat_le p.0 n && live p)) || (s.0 == p.0 && (nat_le c.0 n && live c))))
        ≡ (F && ((s.0 == c.0 && (nat_le p.0 (n + 1) && live p)) || (s.0 == p.0 && (nat_le c.0 (n + 1) && live c))))
    by false e = refl
    by true e =
        let apart = unjoined (feeds topology p c) (live t) (c.0 == s.0) (p.0 == t.0) (c.0 == t.0) (p.0 == s.0) h e in
        let above : (s.0 == c.0 && (p.0 == t.0 && live t)) ≡ false = ap (λ x. x && (p.0 == t.0 && live t)) (flip s.0 c.0) ∙ apart.0 in
        let below : (s.0 == p.0 && (c.0 == t.0 && live t)) ≡ false = ap (λ x. x && (c.0 == t.0 && live t)) (flip s.0 p.0) ∙ apart.1 in
        ap (λ x. x || (s.0 == p.0 && (nat_le c.0 n && live c))) (same_side live t p s.0 c.0 n is_next above)
        ∙ ap (λ x. (s.0 == c.0 && (nat_le p.0 (n + 1) && live p)) || x) (same_side live t c s.0 p.0 n is_next below)
      where
        flip : (a b : ℕ) → (a == b) ≡ (b == a)
        flip a b = grind (arith, nat_tests)

-- a pair's row after one stage more
pub turn : (topology : Topology) (live : StageNo → Bool) (s t c p : StageNo) (n : ℕ) (row : Option PairRow) → t.0 ≡ n + 1 → live s ≡ false
    → renewed topology c (live t && joins topology s t c p) (renewed topology c (begins topology (upto n live) s c p) row) ≡ renewed topology c (begins topology (upto (n + 1) live) s c p) row
turn topology live s t c p n row is_next dead = by (live t && joins topology s t c p) refl
  where
    by : (b : Bool) → (live t && joins topology s t c p) ≡ b → renewed topology c b (renewed topology c (begins topology (upto n live) s c p) row) ≡ renewed topology c (begins topology (upto (n + 1) live) s c p) row
    by true e =
        ap (λ x. renewed topology c true (renewed topology c x row)) (joined_later topology live s t c p n (omega (arith, is_next)) dead e)
        ∙ sym (ap (λ x. renewed topology c x row) (joined_begins topology live s t c p (n + 1) (omega (arith, is_next)) e))
    by false e = ap (λ x. renewed topology c x row) (unjoined_same topology live s t c p n is_next e)

-- a pair that is to be renewed next is as it was
pub next_closed : (topology : Topology) (live : StageNo → Bool) (s t c p : StageNo) (n m : ℕ) (old now : Option PairRow) → n < t.0 → t.0 ≤ m → live s ≡ false
    → now ≡ renewed topology c (begins topology (upto n live) s c p) old → (begins topology (upto m live) s c p ≡ true → IsClosed old)
    → (live t && joins topology s t c p) ≡ true → IsClosed now
next_closed topology live s t c p n m old now far low dead is closed h =
    subst IsClosed (sym (is ∙ ap (λ b. renewed topology c b old) (joined_later topology live s t c p n far dead h))) (closed (joined_begins topology live s t c p m low h))

-- the two stages, as the loop has them
pub seen_joined : (topology : Topology) (rows : List StageRow) (s : StageNo) (stage other : StageSpec) (n : ℕ) (lives : Bool) (c p : StageNo)
    → stage.no ≡ s → other.no.0 ≡ n + 1 → lives ≡ lives_by (slice_get rows (n + 1)) (n + 1)
    → (lives && joins topology stage.no other.no c p) ≡ (lives_by (slice_get rows other.no.0) other.no.0 && joins topology s other.no c p)
seen_joined topology rows s stage other n lives c p same is_next is =
    ap (λ b. b && joins topology stage.no other.no c p) (is ∙ ap (λ k. lives_by (slice_get rows k) k) (sym is_next))
    ∙ ap (λ x. lives_by (slice_get rows other.no.0) other.no.0 && joins topology x other.no c p) same

-- no stage's number is 0
pub none_first : (topology : Topology) (rows : List StageRow) (s c p : StageNo) → begins topology (live_upto 0 rows) s c p ≡ false
none_first topology rows s c p = none (feeds topology p c) (same_stage s c) (same_stage s p) (live_upto 0 rows p) (live_upto 0 rows c) (dead p) (dead c)
  where
    off : (F a b : Bool) → (F && ((a && false) || (b && false))) ≡ false
    off true true true = refl
    off true true false = refl
    off true false true = refl
    off true false false = refl
    off false a b = refl

    none : (F a b x y : Bool) → x ≡ false → y ≡ false → (F && ((a && x) || (b && y))) ≡ false
    none F a b x y e f = ap (λ z. F && ((a && z) || (b && y))) e ∙ (ap (λ z. F && ((a && false) || (b && z))) f ∙ off F a b)

    dead : (t : StageNo) → live_upto 0 rows t ≡ false
    dead t = by (nat_le t.0 0) (slice_get rows t.0) refl
      where
        by : (b : Bool) (o : Option StageRow) → nat_le t.0 0 ≡ b → (b && lives_by o t.0) ≡ false
        by false o e = refl
        by true None e = refl
        by true (Some row) e =
            let zero : (t.0 == 0) ≡ true = grind (arith, nat_tests) in
            ap (λ b. not b && is_none row.dead) zero
