-- The fields after a restart.
use Rattle.std.proofs.Common.{◌≡◌, ℕ, ◌+◌, ◌<◌, List, ◌∷◌, length, Bool, true, false, refl, ap, sym, ◌∙◌, subst, Some, None, Option, option_map, arith}
use Rattle.std.specs.Prelude.{slice_get, if◌then◌else◌, ◌&&◌, ◌||◌, ◌==◌, nat_le, is_some, is_none}
use Rattle.std.specs.declared.alloc.Global.{Global}
use Rattle.std.specs.declared.vec.Vec.{Vec}
use Rattle.std.proofs.lemmas.Bool.Decides.{nat_tests}
use Rattle.pipe_types.specs.declared.numbers.StageNo.{StageNo}
use Rattle.pipe_types.specs.declared.topology.Topology.{Topology}
use Rattle.pipe_types.specs.declared.message.Why.{Why}
use Rattle.pipe_types.specs.declared.step.Step.TheVariants.{Restart}
use Rattle.pipe_types.specs.Sound.{IsSound}
use Rattle.pipe_types.specs.Numbers.{same_stage, subscription}
use Rattle.pipe_types.specs.Stages.{spec_of, feeds}
use Rattle.pipe_model.specs.History.{History, asked, incarnation}
use Rattle.pipe_model.specs.Lives.{death, death_after, is_live, generation, current_sub, renews, one_more}
use Rattle.pipe_model.specs.Flow.{sent}
use Rattle.pipe_model.specs.Ledger.{handled, min_in, max_in}
use Rattle.pipe_model.specs.Legal.{is_legal, limit_of, restart_times}
use Rattle.pipe_laws.proofs.Tests.{and_left, and_right, both, same_stage-true, same_stage-self, same_sub-self}
use Rattle.pipe_journal.specs.Recorded.{Recorded}
use Rattle.restart_core.specs.Restarts.{RestartLimit, Remembers}
use Rattle.stage_demand.specs.Demand.{Counts}
use Rattle.stage_subs.specs.Pairs.{PairRow}
use Rattle.stage_subs.specs.Subs.{row_at}
use Rattle.stage_subs.specs.Ledger.{ledger_row, ledger_counts}
use Rattle.core_tables.specs.declared.rows.StageRow.{StageRow}
use Rattle.core_tables.specs.declared.rows.Totals.{Totals}
use Rattle.core_laws.specs.Columns.{stage_row}
use Rattle.core_laws.proofs.Past.{known_within, live_known}
use Rattle.core_laws.proofs.Came.{flip}
use Rattle.core_state.specs.declared.state.Core.{Core}
use Rattle.core_state.specs.Stands.{Fields, Holds, limit_seen}
use Rattle.core_state.proofs.Reading.{live_by}
use Rattle.core_state.proofs.FirstPairs.{feeding}
use Rattle.core_state.proofs.Ending.{row_changed}
use Rattle.stage_laws.proofs.Numbering.{numbered_topology}
use Rattle.core_restarts.specs.Renewals.{restarted, live_upto, begins, renewed, IsClosed, AreRenewed}
use Rattle.core_restarts.proofs.Unbegun.{unasked, unsent, unhandled, generation_room}
use Rattle.core_state.proofs.Parts.{Part, RestartsAre, RestartsSet, StagesAre, StagesLen, SubsAre, TotalsAre, Says, unchanged, fields_of}

-- Which stages live then

pub stays_live : (topology : Topology) (before : History) (s t : StageNo) → is_live topology before t ≡ true → is_live topology (Restart s ∷ before) t ≡ true
stays_live topology before s t live =
    both (is_some (spec_of topology t)) _ (live_known topology before t live) (by (same_stage t s) (death topology before t) (and_right (is_some (spec_of topology t)) _ live))
  where
    by : (b : Bool) (d : Option Why) → is_none d ≡ true → is_none (death_after None b d) ≡ true
    by true d e = refl
    by false d e = e

pub lives_again : (topology : Topology) (before : History) (s : StageNo) → is_some (spec_of topology s) ≡ true → is_live topology (Restart s ∷ before) s ≡ true
lives_again topology before s known =
    both (is_some (spec_of topology s)) _ known (ap (λ b. is_none (death_after None b (death topology before s))) (same_stage-self s))

pub other_lives : (topology : Topology) (before : History) (s t : StageNo) → same_stage t s ≡ false → is_live topology (Restart s ∷ before) t ≡ is_live topology before t
other_lives topology before s t other = ap (λ b. is_some (spec_of topology t) && is_none (death_after None b (death topology before t))) other

-- The rows of the pairs

-- the row of a pair, where the subscription is taken apart
abbrev row_as : Topology → History → (c p : StageNo) → (generation : ℕ) → (lives : Bool) → PairRow
row_as topology before c p g lives = record { generation = g; is_live = lives; counts = ledger_counts topology before (subscription c p g) }

ledger_is : (topology : Topology) (before : History) (c p : StageNo) → feeds topology p c ≡ true
    → ledger_row topology before c p ≡ row_as topology before c p (generation topology before c p) (is_live topology before p && is_live topology before c)
ledger_is topology before c p fed =
    ap (row_as topology before c p (generation topology before c p))
    (ap (λ b. feeds topology p c && (is_live topology before p && (is_live topology before c && b))) (same_sub-self (current_sub topology before c p))
    ∙ parts (feeds topology p c) (is_live topology before p) (is_live topology before c) fed)
  where
    parts : (f a b : Bool) → f ≡ true → (f && (a && (b && true))) ≡ (a && b)
    parts true true true e = refl
    parts true true false e = refl
    parts true false b e = refl
    parts false a b e = absurd (let x : false ≡ true = e in cc)

-- what is known of the two stages of a pair that feeds, when one is restarted
pub record Restarting (topology : Topology) (before : History) (s c p : StageNo) : Type 0 where
  pub sound : IsSound topology
  pub legal : is_legal topology before ≡ true
  pub known : is_some (spec_of topology s) ≡ true
  pub dead : is_live topology before s ≡ false
  pub fed : feeds topology p c ≡ true

-- both live where the pair is renewed
both_live : (topology : Topology) (before : History) (s c p : StageNo) → Restarting topology before s c p → renews (is_live topology before) (Restart s) c p ≡ true
    → (is_live topology (Restart s ∷ before) p && is_live topology (Restart s ∷ before) c) ≡ true
both_live topology before s c p k h = by (same_stage s c) (same_stage s p) refl refl h
  where
    again : (t : StageNo) → same_stage s t ≡ true → is_live topology (Restart s ∷ before) t ≡ true
    again t e = subst (λ x. is_live topology (Restart s ∷ before) x ≡ true) (same_stage-true s t e) (lives_again topology before s k.known)

    by : (a b : Bool) → same_stage s c ≡ a → same_stage s p ≡ b → ((a && is_live topology before p) || (b && is_live topology before c)) ≡ true
        → (is_live topology (Restart s ∷ before) p && is_live topology (Restart s ∷ before) c) ≡ true
    by true true e f h =
        let same : c ≡ p = sym (same_stage-true s c e) ∙ same_stage-true s p f in
        let up = (feeding topology p c k.sound k.fed).up in
        let no : c.0 ≡ p.0 = ap (λ (x : StageNo). x.0) same in
        absurd (omega (arith, up, no))
    by true false e f h = both (is_live topology (Restart s ∷ before) p) _ (stays_live topology before s p (or_none (is_live topology before p) h)) (again c e)
      where
        or_none : (x : Bool) → (x || false) ≡ true → x ≡ true
        or_none true h = refl
        or_none false h = h
    by false true e f h = both (is_live topology (Restart s ∷ before) p) _ (again p f) (stays_live topology before s c h)
    by false false e f h = absurd (let x : false ≡ true = h in cc)

-- and else they live as before
same_lives : (topology : Topology) (before : History) (s c p : StageNo) → Restarting topology before s c p → renews (is_live topology before) (Restart s) c p ≡ false
    → (is_live topology before p && is_live topology before c) ≡ (is_live topology (Restart s ∷ before) p && is_live topology (Restart s ∷ before) c)
same_lives topology before s c p k h = by (same_stage s c) (same_stage s p) refl refl h
  where
    gone : (t : StageNo) → same_stage s t ≡ true → is_live topology before t ≡ false
    gone t e = subst (λ x. is_live topology before x ≡ false) (same_stage-true s t e) k.dead

    other : (t : StageNo) → same_stage s t ≡ false → is_live topology (Restart s ∷ before) t ≡ is_live topology before t
    other t e = other_lives topology before s t (flip t.0 s.0 ∙ e)

    and_none : (x : Bool) → (x && false) ≡ false
    and_none true = refl
    and_none false = refl

    by : (a b : Bool) → same_stage s c ≡ a → same_stage s p ≡ b → ((a && is_live topology before p) || (b && is_live topology before c)) ≡ false
        → (is_live topology before p && is_live topology before c) ≡ (is_live topology (Restart s ∷ before) p && is_live topology (Restart s ∷ before) c)
    by true true e f h =
        let same : c ≡ p = sym (same_stage-true s c e) ∙ same_stage-true s p f in
        let up = (feeding topology p c k.sound k.fed).up in
        let no : c.0 ≡ p.0 = ap (λ (x : StageNo). x.0) same in
        absurd (omega (arith, up, no))
    by true false e f h =
        let none : is_live topology before p ≡ false = or_none (is_live topology before p) h in
        ap (λ x. x && is_live topology before c) none ∙ sym (ap (λ x. x && is_live topology (Restart s ∷ before) c) (other p f ∙ none))
      where
        or_none : (x : Bool) → (x || false) ≡ false → x ≡ false
        or_none true h = h
        or_none false h = refl
    by false true e f h =
        ap (λ x. is_live topology before p && x) h ∙ (and_none (is_live topology before p)
        ∙ sym (ap (λ x. is_live topology (Restart s ∷ before) p && x) (other c e ∙ h) ∙ and_none (is_live topology (Restart s ∷ before) p)))
    by false false e f h = ap (λ x. x && is_live topology before c) (sym (other p f)) ∙ ap (λ x. is_live topology (Restart s ∷ before) p && x) (sym (other c e))

abbrev counted : (min max asked arrived handled : ℕ) → Counts
counted m n a b h = record { min = m; max = n; asked = a; arrived = b; handled = h }

zero_counts : (m n a b h : ℕ) → a ≡ 0 → b ≡ 0 → h ≡ 0 → counted m n 0 0 0 ≡ counted m n a b h
zero_counts m n a b h e f g = λ i. counted m n (sym e i) (sym f i) (sym g i)

pub row_renewed : (topology : Topology) (before : History) (s c p : StageNo) → Restarting topology before s c p
    → renewed topology c (renews (is_live topology before) (Restart s) c p) (Some (ledger_row topology before c p)) ≡ Some (ledger_row topology (Restart s ∷ before) c p)
row_renewed topology before s c p k = by (renews (is_live topology before) (Restart s) c p) refl ∙ ap Some (sym (ledger_is topology (Restart s ∷ before) c p k.fed))
  where
    now : PairRow
    now = row_as topology (Restart s ∷ before) c p (generation topology (Restart s ∷ before) c p) (is_live topology (Restart s ∷ before) p && is_live topology (Restart s ∷ before) c)

    next : ℕ
    next = generation topology before c p + 1

    far : generation topology before c p < next
    far = omega arith

    by : (b : Bool) → renews (is_live topology before) (Restart s) c p ≡ b → renewed topology c b (Some (ledger_row topology before c p)) ≡ Some now
    by true e =
        let counts = zero_counts (min_in (spec_of topology c)) (max_in (spec_of topology c)) (asked before (subscription c p next)) (sent topology before (subscription c p next)) (handled topology before (subscription c p next))
        (unasked topology before c p next k.legal far) (unsent topology before c p next k.sound k.legal far) (unhandled topology before c p next k.sound k.legal far) in
        ap (λ (x : Counts). Some (record { generation = next; is_live = true; counts = x })) counts
        ∙ (ap (λ b. Some (row_as topology (Restart s ∷ before) c p next b)) (sym (both_live topology before s c p k e))
        ∙ ap (λ b. Some (row_as topology (Restart s ∷ before) c p (one_more b (generation topology before c p)) (is_live topology (Restart s ∷ before) p && is_live topology (Restart s ∷ before) c))) (sym e))
    by false e =
        ap Some (ledger_is topology before c p k.fed)
        ∙ (ap (λ b. Some (row_as topology before c p (generation topology before c p) b)) (same_lives topology before s c p k e)
        ∙ ap (λ b. Some (row_as topology (Restart s ∷ before) c p (one_more b (generation topology before c p)) (is_live topology (Restart s ∷ before) p && is_live topology (Restart s ∷ before) c))) (sym e))

-- What the core's rows say

pub lives_seen : (core : Core) (t : StageNo) → Holds core → live_upto (length core.topology.stages) core.stages.items t ≡ is_live core.topology core.journal.steps t
lives_seen core t x = ap (λ b. nat_le t.0 (length core.topology.stages) && b) (live_by core t x) ∙ by (is_live core.topology core.journal.steps t) refl
  where
    by : (b : Bool) → is_live core.topology core.journal.steps t ≡ b → (nat_le t.0 (length core.topology.stages) && b) ≡ b
    by true e =
        let w = known_within core.topology t (numbered_topology core.topology x.sound) (live_known core.topology core.journal.steps t e) in
        let high = w.1 in
        let low : nat_le t.0 (length core.topology.stages) ≡ true = grind (arith, nat_tests) in
        ap (λ b. b && true) low
    by false e = none (nat_le t.0 (length core.topology.stages))
      where
        none : (b : Bool) → (b && false) ≡ false
        none true = refl
        none false = refl

begins_same : (topology : Topology) (live lives : StageNo → Bool) (s c p : StageNo) → ((t : StageNo) → live t ≡ lives t) → begins topology live s c p ≡ begins topology lives s c p
begins_same topology live lives s c p same =
    ap (λ x. feeds topology p c && ((same_stage s c && x) || (same_stage s p && live c))) (same p)
    ∙ ap (λ x. feeds topology p c && ((same_stage s c && lives p) || (same_stage s p && x))) (same c)

pub closed_rows : (core : Core) (s c p : StageNo) → Holds core → is_some (spec_of core.topology s) ≡ true → is_live core.topology core.journal.steps s ≡ false
    → begins core.topology (live_upto (length core.topology.stages) core.stages.items) s c p ≡ true → IsClosed (row_at core.subs c p)
closed_rows core s c p x known dead h =
    subst IsClosed (sym (x.fields.subs c p fed ∙ ap Some (ledger_is core.topology core.journal.steps c p fed)))
    (record { had = refl; closed = lives (same_stage s c) (same_stage s p) refl refl begun; few = generation_room core.topology core.journal.steps c p x.sound x.legal })
  where
    all : begins core.topology (is_live core.topology core.journal.steps) s c p ≡ true
    all = sym (begins_same core.topology (live_upto (length core.topology.stages) core.stages.items) (is_live core.topology core.journal.steps) s c p (λ t. lives_seen core t x)) ∙ h

    fed : feeds core.topology p c ≡ true
    fed = and_left (feeds core.topology p c) _ all

    begun : renews (is_live core.topology core.journal.steps) (Restart s) c p ≡ true
    begun = and_right (feeds core.topology p c) _ all

    gone : (t : StageNo) → same_stage s t ≡ true → is_live core.topology core.journal.steps t ≡ false
    gone t e = subst (λ y. is_live core.topology core.journal.steps y ≡ false) (same_stage-true s t e) dead

    and_none : (y : Bool) → (y && false) ≡ false
    and_none true = refl
    and_none false = refl

    lives : (a b : Bool) → same_stage s c ≡ a → same_stage s p ≡ b
        → ((a && is_live core.topology core.journal.steps p) || (b && is_live core.topology core.journal.steps c)) ≡ true
        → (is_live core.topology core.journal.steps p && is_live core.topology core.journal.steps c) ≡ false
    lives true b e f k = ap (λ y. is_live core.topology core.journal.steps p && y) (gone c e) ∙ and_none (is_live core.topology core.journal.steps p)
    lives false true e f k = ap (λ y. y && is_live core.topology core.journal.steps c) (gone p f)
    lives false false e f k = absurd (let y : false ≡ true = k in cc)

pub pairs_after : (core : Core) (s c p : StageNo) (subs : List (Option PairRow)) → Holds core → is_some (spec_of core.topology s) ≡ true → is_live core.topology core.journal.steps s ≡ false
    → AreRenewed core.topology (live_upto (length core.topology.stages) core.stages.items) s core.subs subs → feeds core.topology p c ≡ true
    → row_at subs c p ≡ Some (ledger_row core.topology (Restart s ∷ core.journal.steps) c p)
pairs_after core s c p subs x known dead are fed =
    are.rows c p
    ∙ (ap (λ b. renewed core.topology c b (row_at core.subs c p))
    (begins_same core.topology (live_upto (length core.topology.stages) core.stages.items) (is_live core.topology core.journal.steps) s c p (λ t. lives_seen core t x)
    ∙ ap (λ b. b && renews (is_live core.topology core.journal.steps) (Restart s) c p) fed)
    ∙ (ap (renewed core.topology c (renews (is_live core.topology core.journal.steps) (Restart s) c p)) (x.fields.subs c p fed)
    ∙ row_renewed core.topology core.journal.steps s c p (record { sound = x.sound; legal = x.legal; known = known; dead = dead; fed = fed })))

-- The fields

pub restarted_fields : (core : Core) (topology : Topology) (before : History) (s : StageNo) (j : Recorded) (rows : Vec StageRow Global) (subs : List (Option PairRow)) (limits : Vec RestartLimit Global)
    → Fields core topology before
    → ((i : ℕ) → slice_get rows.items i ≡ (if s.0 == i then option_map restarted (slice_get core.stages.items i) else slice_get core.stages.items i)) → length rows.items ≡ length core.stages.items
    → ((c p : StageNo) → feeds topology p c ≡ true → row_at subs c p ≡ Some (ledger_row topology (Restart s ∷ before) c p))
    → ((l : ℕ) → option_map limit_seen (slice_get limits.items l) ≡ option_map limit_seen (slice_get core.restarts.items l))
    → ((l : ℕ) (limit : RestartLimit) → slice_get limits.items l ≡ Some limit → Remembers limit (if limit_of topology s == l then core.totals.now ∷ restart_times topology before l else restart_times topology before l))
    → Fields (record core { journal = j; stages = rows; subs = subs; restarts = limits; totals = record core.totals { quiet = 0 } }) topology (Restart s ∷ before)
restarted_fields core topology before s j rows subs limits x changed len pairs same known = fields_of says
  where
    by : (b : Bool) (t : StageNo) → (t.0 == s.0) ≡ b → (if b then restarted (stage_row topology before t) else stage_row topology before t) ≡ stage_row topology (Restart s ∷ before) t
    by true t e = ap (λ b. record (stage_row topology before t) { dead = death_after None b (death topology before t); incarnation = if b then incarnation before t + 1 else incarnation before t }) (sym e)
    by false t e = ap (λ b. record (stage_row topology before t) { dead = death_after None b (death topology before t); incarnation = if b then incarnation before t + 1 else incarnation before t }) (sym e)

    says : (it : Part) → Says it (record core { journal = j; stages = rows; subs = subs; restarts = limits; totals = record core.totals { quiet = 0 } }) topology (Restart s ∷ before)
    says StagesLen = len ∙ x.sized.stages
    says RestartsSet = λ l. same l ∙ x.set.restarts l
    says StagesAre = λ t within. changed t.0 ∙ (row_changed restarted core.stages.items s t (stage_row topology before t) (x.stages t within) ∙ ap Some (by (s.0 == t.0) t (flip t.0 s.0)))
    says SubsAre = pairs
    says RestartsAre = λ l limit at. subst (λ (n : ℕ). Remembers limit (if limit_of topology s == l then n ∷ restart_times topology before l else restart_times topology before l))
        (ap (λ (y : Totals). y.now) x.totals) (known l limit at)
    says TotalsAre = ap (λ (y : Totals). record y { quiet = 0 }) x.totals
    says it = unchanged x it
