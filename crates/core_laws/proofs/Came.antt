-- The subscription on which the message of a slot came.
use Rattle.std.proofs.Common.{◌≡◌, ℕ, ◌≤◌, List, [], ◌∷◌, ◌++◌, Bool, true, false, refl, ap, sym, ◌∙◌, subst, Some, arith, cond}
use Rattle.std.specs.Prelude.{if◌then◌else◌, ◌==◌, ◌&&◌, ◌||◌, not, filter}
use Rattle.std.proofs.lemmas.Bool.Decides.{nat_tests}
use Rattle.std.proofs.lemmas.Bool.{eqb-true, eq-eqb, or_right}
use Rattle.pipe_types.specs.declared.numbers.StageNo.{StageNo}
use Rattle.pipe_types.specs.declared.numbers.SubNo.{SubNo}
use Rattle.pipe_types.specs.declared.topology.Topology.{Topology}
use Rattle.pipe_types.specs.declared.step.Step.TheVariants.{Dispatch, Child}
use Rattle.pipe_types.specs.Numbers.{same_stage, same_sub}
use Rattle.pipe_types.specs.Stages.{feeds}
use Rattle.pipe_types.specs.Sound.{IsSound}
use Rattle.pipe_model.specs.History.{History}
use Rattle.pipe_model.specs.Posts.{in_slot}
use Rattle.pipe_model.specs.Flow.{sent_to, inbox, view_of, sends_by, delivered_to}
use Rattle.pipe_model.specs.Ledger.{came_on}
use Rattle.pipe_model.specs.Legal.{is_legal, first_unit, runs_number}
use Rattle.pipe_model.specs.Standing.{in_inbox}
use Rattle.pipe_laws.proofs.Tests.{and_left, and_right, both, same_stage-true, same_sub-self, same_sub-true}
use Rattle.pipe_laws.proofs.Lists.{Each, each_weaker}
use Rattle.pipe_laws.proofs.Entries.{EntryFits, entries_fit}
use Rattle.pipe_laws.proofs.Slots.{number_is}
use Rattle.pipe_laws.proofs.Allowed.{legal_before, legal_step, child_facts}
use Rattle.queue_laws.proofs.Sounds.{fits}
use Rattle.queue_laws.proofs.Apart.{Apart}
use Rattle.queue_laws.proofs.Distinct.{unit_of, distinct}
use Rattle.core_laws.specs.Columns.{came, sub_first}

-- ---- what was sent

came_more : (xs ys : List (SubNo × ℕ)) (n : ℕ) (u : SubNo) → came_on xs (Some n) u ≡ true → came_on (xs ++ ys) (Some n) u ≡ true
came_more [] ys n u h = cc
came_more (x ∷ xs) ys n u h = either (n == x.1 && same_sub x.0 u) h (came_more xs ys n u)
  where
    either : (b : Bool) → (b || came_on xs (Some n) u) ≡ true → (came_on xs (Some n) u ≡ true → came_on (xs ++ ys) (Some n) u ≡ true) → (b || came_on (xs ++ ys) (Some n) u) ≡ true
    either true h rest = refl
    either false h rest = rest h

-- what is kept of what was sent came
came_kept : (test : SubNo × ℕ → Bool) (xs : List (SubNo × ℕ)) (d : SubNo × ℕ) (ys : List (SubNo × ℕ)) → filter test xs ≡ d ∷ ys → came_on xs (Some d.1) d.0 ≡ true
came_kept test [] d ys e = cc
came_kept test (x ∷ xs) d ys e = either (test x) e (came_kept test xs d ys)
  where
    either : (b : Bool) → cond b (x ∷ filter test xs) (filter test xs) ≡ d ∷ ys → (filter test xs ≡ d ∷ ys → came_on xs (Some d.1) d.0 ≡ true) → ((d.1 == x.1 && same_sub x.0 d.0) || came_on xs (Some d.1) d.0) ≡ true
    either true e rest =
        let same : x ≡ d = cc in
        subst (λ (z : SubNo × ℕ). ((d.1 == z.1 && same_sub z.0 d.0) || came_on xs (Some d.1) d.0) ≡ true) (sym same)
        (ap (λ b. b || came_on xs (Some d.1) d.0) (both (d.1 == d.1) (same_sub d.0 d.0) (eq-eqb d.1 d.1 refl) (same_sub-self d.0)))
    either false e rest = or_right (d.1 == x.1 && same_sub x.0 d.0) (came_on xs (Some d.1) d.0) (rest e)

-- ---- the slot's message was sent on the column's subscription

first_came : (topology : Topology) (before : History) (s : StageNo) (n : ℕ) → 1 ≤ n → n ≡ first_unit (inbox topology before s) → came_on (sent_to topology before s) (Some n) (sub_first (inbox topology before s)) ≡ true
first_came topology before s n some first = by (inbox topology before s) refl first
  where
    by : (units : List (SubNo × ℕ)) → inbox topology before s ≡ units → n ≡ first_unit units → came_on (sent_to topology before s) (Some n) (sub_first units) ≡ true
    by [] e f = absurd (let x : n ≡ 0 = f in omega arith)
    by (d ∷ units) e f =
        ap (λ k. came_on (sent_to topology before s) (Some k) d.0) f ∙ came_kept (in_inbox topology before) (sent_to topology before s) d units e

neither : (p q r : Bool) → (p && q) ≡ false → (p && (q && not r)) ≡ false
neither true true r e = cc
neither true false r e = refl
neither false q r e = refl

pub came_sent : (topology : Topology) (before : History) (s : StageNo) (slot n : ℕ) → is_legal topology before ≡ true → in_slot before s slot ≡ Some n
    → came_on (sent_to topology before s) (Some n) (came topology before s slot) ≡ true
came_sent topology [] s slot n h own = cc
came_sent topology (Child t m k ∷ before) s slot n h own =
    either (same_stage s t && k == slot) refl own (λ x e. came_sent topology before s slot x (legal_before topology before (Child t m k) h) e)
  where
    started : (r : Bool) → runs_number topology before t (in_slot before t k) ≡ r → s ≡ t → k ≡ slot → m.0 ≡ n
        → ((x : ℕ) → in_slot before s slot ≡ Some x → came_on (sent_to topology before s) (Some x) (came topology before s slot) ≡ true)
        → came_on (sent_to topology before s) (Some n) (if not r then sub_first (inbox topology before t) else came topology before s slot) ≡ true
    started true re here at same rest =
        let facts = child_facts topology before t m k (legal_step topology before (Child t m k) h) in
        rest n (ap (λ v. in_slot before v slot) here ∙ (ap (in_slot before t) (sym at) ∙ (number_is (in_slot before t k) m.0 (facts.again re) ∙ ap Some same)))
    started false re here at same rest =
        let facts = child_facts topology before t m k (legal_step topology before (Child t m k) h) in
        let new = facts.new re in
        ap (λ v. came_on (sent_to topology before v) (Some n) (sub_first (inbox topology before t))) here
        ∙ (ap (λ x. came_on (sent_to topology before t) (Some x) (sub_first (inbox topology before t))) (sym same) ∙ first_came topology before t m.0 new.0 new.1)

    either : (b : Bool) → (same_stage s t && k == slot) ≡ b → (if b then Some m.0 else in_slot before s slot) ≡ Some n
        → ((x : ℕ) → in_slot before s slot ≡ Some x → came_on (sent_to topology before s) (Some x) (came topology before s slot) ≡ true)
        → came_on (sent_to topology before s) (Some n) (if same_stage s t && (k == slot && not (runs_number topology before t (in_slot before t k))) then sub_first (inbox topology before t) else came topology before s slot) ≡ true
    either true e own rest =
        let p = and_left (same_stage s t) _ e in
        let q = and_right (same_stage s t) _ e in
        let number : m.0 ≡ n = cc in
        ap (λ b. came_on (sent_to topology before s) (Some n) (if b && (k == slot && not (runs_number topology before t (in_slot before t k))) then sub_first (inbox topology before t) else came topology before s slot)) p
        ∙ (ap (λ b. came_on (sent_to topology before s) (Some n) (if b && not (runs_number topology before t (in_slot before t k)) then sub_first (inbox topology before t) else came topology before s slot)) q
        ∙ started (runs_number topology before t (in_slot before t k)) refl (same_stage-true s t p) (eqb-true k slot q) number rest)
    either false e own rest =
        ap (λ b. came_on (sent_to topology before s) (Some n) (if b then sub_first (inbox topology before t) else came topology before s slot)) (neither (same_stage s t) (k == slot) _ e) ∙ rest n own
came_sent topology (Dispatch t ∷ before) s slot n h own =
    came_more (sent_to topology before s) (delivered_to (sends_by topology before (view_of topology before) t) s) n (came topology before s slot)
    (came_sent topology before s slot n (legal_before topology before (Dispatch t) h) own)
came_sent topology (step ∷ before) s slot n h own = came_sent topology before s slot n (legal_before topology before step h) own

-- ---- and on no other

pub flip : (a b : ℕ) → (a == b) ≡ (b == a)
flip a b = grind (arith, nat_tests)

sub_flip : (u v : SubNo) → same_sub u v ≡ same_sub v u
sub_flip u v =
    ap (λ b. b && (same_stage u.producer v.producer && u.generation == v.generation)) (flip u.consumer.0 v.consumer.0)
    ∙ (ap (λ b. same_stage v.consumer u.consumer && (b && u.generation == v.generation)) (flip u.producer.0 v.producer.0)
    ∙ ap (λ b. same_stage v.consumer u.consumer && (same_stage v.producer u.producer && b)) (flip u.generation v.generation))

none_else : (xs : List (SubNo × ℕ)) (n : ℕ) (v : SubNo) → Each (λ (y : SubNo × ℕ). (n == y.1) ≡ false) xs → came_on xs (Some n) v ≡ false
none_else [] n v h = refl
none_else (x ∷ xs) n v h = ap (λ b. (b && same_sub x.0 v) || came_on xs (Some n) v) h.0 ∙ none_else xs n v h.1

pub came_once : (xs : List (SubNo × ℕ)) (n : ℕ) (u v : SubNo) → Apart unit_of xs → came_on xs (Some n) u ≡ true → came_on xs (Some n) v ≡ same_sub v u
came_once [] n u v apart h = cc
came_once (x ∷ xs) n u v apart h = either (n == x.1) refl h (came_once xs n u v apart.1)
  where
    last : (b : Bool) → (b || false) ≡ b
    last true = refl
    last false = refl

    either : (b : Bool) → (n == x.1) ≡ b → ((b && same_sub x.0 u) || came_on xs (Some n) u) ≡ true → (came_on xs (Some n) u ≡ true → came_on xs (Some n) v ≡ same_sub v u)
        → ((b && same_sub x.0 v) || came_on xs (Some n) v) ≡ same_sub v u
    either true e h rest =
        let number : n ≡ x.1 = eqb-true n x.1 e in
        let others : (w : SubNo) → came_on xs (Some n) w ≡ false = λ w. none_else xs n w (subst (λ k. Each (λ (y : SubNo × ℕ). (k == y.1) ≡ false) xs) (sym number) apart.0) in
        let same : x.0 ≡ u = same_sub-true x.0 u (sym (last (same_sub x.0 u)) ∙ (ap (λ b. same_sub x.0 u || b) (sym (others u)) ∙ h)) in
        ap (λ b. same_sub x.0 v || b) (others v) ∙ (last (same_sub x.0 v) ∙ (ap (λ w. same_sub w v) same ∙ sub_flip u v))
    either false e h rest = rest h

-- the slot's message came on the column's subscription alone
pub came_is : (topology : Topology) (before : History) (s : StageNo) (slot n : ℕ) (u : SubNo) → IsSound topology → is_legal topology before ≡ true → in_slot before s slot ≡ Some n
    → came_on (sent_to topology before s) (in_slot before s slot) u ≡ same_sub u (came topology before s slot)
came_is topology before s slot n u sound legal own =
    ap (λ o. came_on (sent_to topology before s) o u) own
    ∙ came_once (sent_to topology before s) n (came topology before s slot) u ((distinct topology before (fits topology sound).ascend legal).sent s) (came_sent topology before s slot n legal own)

came_fed : (P : SubNo → Type 0) (xs : List (SubNo × ℕ)) (n : ℕ) (u : SubNo) → Each (λ (d : SubNo × ℕ). P d.0) xs → came_on xs (Some n) u ≡ true → P u
came_fed P [] n u each h = cc
came_fed P (x ∷ xs) n u each h = either (n == x.1) (same_sub x.0 u) refl h (came_fed P xs n u each.1)
  where
    either : (a b : Bool) → same_sub x.0 u ≡ b → ((a && b) || came_on xs (Some n) u) ≡ true → (came_on xs (Some n) u ≡ true → P u) → P u
    either true true e h rest = subst P (same_sub-true x.0 u e) each.0
    either true false e h rest = rest h
    either false b e h rest = rest h

-- and its producer feeds its consumer
pub came_entry : (topology : Topology) (before : History) (s : StageNo) (slot n : ℕ) → is_legal topology before ≡ true → in_slot before s slot ≡ Some n
    → feeds topology (came topology before s slot).producer (came topology before s slot).consumer ≡ true
came_entry topology before s slot n legal own =
    came_fed (λ u. feeds topology u.producer u.consumer ≡ true) (sent_to topology before s) n (came topology before s slot)
    (each_weaker (EntryFits topology before s) (λ d. feeds topology d.0.producer d.0.consumer ≡ true) (λ d f. ap (feeds topology d.0.producer) f.consumer ∙ f.feeding) (sent_to topology before s) (entries_fit topology before s))
    (came_sent topology before s slot n legal own)
