-- On which batch a killed batch processor works.
use Rattle.std.proofs.Common.{◌≡◌, ℕ, ◌≤◌, List, [], ◌∷◌, ◌++◌, map, length, Bool, true, false, refl, ap, sym, ◌∙◌, subst, Some, None, Option, arith}
use Rattle.std.specs.Prelude.{if◌then◌else◌, ◌&&◌, ◌||◌, ◌==◌, not}
use Rattle.std.proofs.lemmas.Bool.Decides.{nat_tests}
use Rattle.pipe_types.specs.declared.numbers.StageNo.{StageNo}
use Rattle.pipe_types.specs.declared.numbers.SubNo.{SubNo}
use Rattle.pipe_types.specs.declared.topology.Topology.{Topology}
use Rattle.pipe_types.specs.declared.topology.StageSpec.{StageSpec}
use Rattle.pipe_types.specs.declared.message.Why.{Why}
use Rattle.pipe_types.specs.declared.message.Why.TheVariants.{Crash, Kill as KillWhy, Stop, Cancelled, Limit}
use Rattle.pipe_types.specs.declared.message.BatchEnd.TheVariants.{Outcomes, Crashed as BatchCrashed}
use Rattle.pipe_types.specs.declared.step.Step.{Step}
use Rattle.pipe_types.specs.declared.step.Step.TheVariants.{Accept, Done, Wrote, Kill, Halt}
use Rattle.pipe_types.specs.Numbers.{same_stage, subscription}
use Rattle.pipe_types.specs.Sound.{IsSound}
use Rattle.pipe_model.specs.History.{History}
use Rattle.pipe_model.specs.Posts.{last_take}
use Rattle.pipe_model.specs.Lives.{KillSet, reason_in, exits, killed_feeder, cancelled, cascade_at, cascade, all_live, kill_set, is_live, generation}
use Rattle.pipe_model.specs.Content.{has_crash}
use Rattle.pipe_model.specs.Flow.{among, sent_to, first_in}
use Rattle.pipe_model.specs.Legal.{is_legal, allows, owed, passes, may_kill, may_come, may_dispatch, happened, is_halt, is_late, is_dispatch_of, is_crash_of, has_role, is_processor_role, is_batch_processor_role, is_current}
use Rattle.pipe_model.specs.Standing.{at_work}
use Rattle.pipe_model.specs.Work.{taken_units}
use Rattle.pipe_laws.proofs.Tests.{and_right, same_stage-true}
use Rattle.pipe_laws.proofs.Allowed.{legal_before, legal_step, done_facts, wrote_facts}
use Rattle.pipe_laws.proofs.Busy.{two_roles}
use Rattle.pipe_laws.proofs.Roles.{processor_writes}
use Rattle.queue_laws.proofs.Counts.{TookBy, took}
use Rattle.queue_laws.proofs.BatchWork.{owes_write}
use Rattle.queue_laws.proofs.AtWork.{at_work_is, last_one}
use Rattle.core_deaths.specs.Reasons.{is_killing, or_reason}
use Rattle.core_deaths.proofs.Cascading.{reason_both}
use Rattle.core_losses.specs.Legs.{is_crash}

-- A crash is the reason of the stage that crashed alone

abbrev is_crash_in : Option Why → Bool
is_crash_in None = false
is_crash_in (Some w) = is_crash w

cancelled_none : (gen : StageNo → StageNo → ℕ) (c : StageNo) (o : Option StageSpec) (s : StageNo) → is_crash_in (reason_in (cancelled gen c o) s) ≡ false
cancelled_none gen c None s = refl
cancelled_none gen c (Some p) s = by (same_stage c s)
  where
    by : (b : Bool) → is_crash_in (if b then Some (Cancelled (subscription c p.no (gen c p.no))) else None) ≡ false
    by true = refl
    by false = refl

added_none : (topology : Topology) (live : StageNo → Bool) (gen : StageNo → StageNo → ℕ) (why : Why) (spec : StageSpec) (set : KillSet) (s : StageNo) → is_crash_in (reason_in (cascade_at topology live gen why spec set) s) ≡ false
added_none topology live gen why spec set s = by (live spec.no && exits spec.mode why)
  where
    by : (b : Bool) → is_crash_in (reason_in (if b then cancelled gen spec.no (killed_feeder topology live set spec.no) else []) s) ≡ false
    by true = cancelled_none gen spec.no (killed_feeder topology live set spec.no) s
    by false = refl

or_crash : (one other : Option Why) → is_crash_in other ≡ false → is_crash_in (or_reason one other) ≡ is_crash_in one
or_crash (Some w) other e = refl
or_crash None other e = e

cascade_crash : (topology : Topology) (live : StageNo → Bool) (gen : StageNo → StageNo → ℕ) (why : Why) (specs : List StageSpec) (set : KillSet) (s : StageNo) → is_crash_in (reason_in (cascade topology live gen why specs set) s) ≡ is_crash_in (reason_in set s)
cascade_crash topology live gen why [] set s = refl
cascade_crash topology live gen why (spec ∷ specs) set s =
    cascade_crash topology live gen why specs (set ++ cascade_at topology live gen why spec set) s
    ∙ (ap is_crash_in (reason_both set (cascade_at topology live gen why spec set) s)
    ∙ or_crash (reason_in set s) (reason_in (cascade_at topology live gen why spec set) s) (added_none topology live gen why spec set s))

all_none : (live : StageNo → Bool) (specs : List StageSpec) (s : StageNo) → is_crash_in (reason_in (all_live live specs) s) ≡ false
all_none live [] s = refl
all_none live (spec ∷ specs) s = by (live spec.no) (same_stage spec.no s) (all_none live specs s)
  where
    by : (a b : Bool) → is_crash_in (reason_in (all_live live specs) s) ≡ false → is_crash_in (reason_in (if a then record { stage = spec.no; why = Limit } ∷ all_live live specs else all_live live specs) s) ≡ false
    by false b h = h
    by true b h = ap (λ x. is_crash_in x) (head b refl) ∙ both b h
      where
        head : (b : Bool) → same_stage spec.no s ≡ same_stage spec.no s → reason_in (record { stage = spec.no; why = Limit } ∷ all_live live specs) s ≡ (if same_stage spec.no s then Some Limit else reason_in (all_live live specs) s)
        head b e = refl

        both : (b : Bool) → is_crash_in (reason_in (all_live live specs) s) ≡ false → is_crash_in (if same_stage spec.no s then Some Limit else reason_in (all_live live specs) s) ≡ false
        both b h = split (same_stage spec.no s)
          where
            split : (c : Bool) → is_crash_in (if c then Some Limit else reason_in (all_live live specs) s) ≡ false
            split true = refl
            split false = h

roles_differ : (topology : Topology) (s : StageNo) → has_role topology s is_processor_role ≡ true → has_role topology s is_batch_processor_role ≡ true → ⊥
roles_differ topology s one other = two_roles topology s is_processor_role is_batch_processor_role processor_writes one other

-- a batch processor is killed for a crash exactly where its crash owes that
pub crash_owes : (topology : Topology) (before : History) (step : Step) (c : StageNo) (w : Why) → is_legal topology before ≡ true → allows topology before step ≡ true → is_killing step ≡ true
    → has_role topology c is_batch_processor_role ≡ true → reason_in (kill_set topology before step) c ≡ Some w → is_crash w ≡ owes_write before c
crash_owes topology before step c w legal allowed k role e = ap is_crash_in (sym e) ∙ by before step k legal (and_right (not (happened is_halt before) || is_late step) _ allowed)
  where
    alone : (before : History) (s : StageNo) (why : Why) → is_crash_in (reason_in (kill_set topology before (Kill s why)) c) ≡ is_crash_in (if same_stage s c then Some why else None)
    alone before s why = cascade_crash topology (is_live topology before) (generation topology before) why topology.stages (record { stage = s; why = why } ∷ []) c

    may_none : (before : History) (s : StageNo) (why : Why) (b : Bool) → may_kill topology before s why ≡ true → is_crash_in (if b then Some why else None) ≡ false
    may_none before s why false h = refl
    may_none before s KillWhy true h = refl
    may_none before s Stop true h = refl
    may_none before s Crash true h = cc
    may_none before s (Cancelled u) true h = refl
    may_none before s Limit true h = refl

    -- the crash of a processor kills no batch processor for a crash
    done : (old : History) (t s : StageNo) (why : Why) → has_role topology t is_processor_role ≡ true → is_crash_of t (Kill s why) ≡ true → (b : Bool) → same_stage s c ≡ b → is_crash_in (if b then Some why else None) ≡ false
    done old t s why r h false f = refl
    done old t s Crash r h true f = absurd (roles_differ topology c (subst (λ x. has_role topology x is_processor_role ≡ true) (same_stage-true t s h ∙ same_stage-true s c f) r) role)
    done old t s KillWhy r h true f = cc
    done old t s Stop r h true f = cc
    done old t s (Cancelled u) r h true f = cc
    done old t s Limit r h true f = cc

    wrote : (t s : StageNo) (why : Why) → is_crash_of t (Kill s why) ≡ true → is_crash_in (if same_stage s c then Some why else None) ≡ same_stage t c
    wrote t s Crash h = ap (λ x. is_crash_in (if same_stage x c then Some Crash else None)) (sym (same_stage-true t s h)) ∙ either (same_stage t c)
      where
        either : (b : Bool) → is_crash_in (if b then Some Crash else None) ≡ b
        either true = refl
        either false = refl
    wrote t s _ h = cc

    by : (before : History) (step : Step) → is_killing step ≡ true → is_legal topology before ≡ true → passes (owed topology before) step (may_come topology before step) ≡ true
        → is_crash_in (reason_in (kill_set topology before step) c) ≡ owes_write before c
    by [] (Kill s why) k legal h = alone [] s why ∙ may_none [] s why (same_stage s c) h
    by (Accept t records ∷ old) (Kill s why) k legal h = alone (Accept t records ∷ old) s why ∙ either (may_dispatch topology (Accept t records ∷ old) t) h
      where
        either : (b : Bool) → passes (if b then Some (is_dispatch_of t) else None) (Kill s why) (may_kill topology (Accept t records ∷ old) s why) ≡ true → is_crash_in (if same_stage s c then Some why else None) ≡ false
        either true k = cc
        either false k = may_none (Accept t records ∷ old) s why (same_stage s c) k
    by (Done t replies ∷ old) (Kill s why) k legal h = alone (Done t replies ∷ old) s why ∙ either (has_crash replies) h
      where
        either : (b : Bool) → passes (if b then Some (is_crash_of t) else None) (Kill s why) (may_kill topology (Done t replies ∷ old) s why) ≡ true → is_crash_in (if same_stage s c then Some why else None) ≡ false
        either true k = done old t s why (done_facts topology old t replies (legal_step topology old (Done t replies) legal)).role k (same_stage s c) refl
        either false k = may_none (Done t replies ∷ old) s why (same_stage s c) k
    by (Wrote t bytes BatchCrashed ∷ old) (Kill s why) k legal h = alone (Wrote t bytes BatchCrashed ∷ old) s why ∙ wrote t s why h
    by (Wrote t bytes (Outcomes outcomes) ∷ old) (Kill s why) k legal h = alone (Wrote t bytes (Outcomes outcomes) ∷ old) s why ∙ may_none (Wrote t bytes (Outcomes outcomes) ∷ old) s why (same_stage s c) h
    by (other ∷ old) (Kill s why) k legal h = alone (other ∷ old) s why ∙ may_none (other ∷ old) s why (same_stage s c) h
    by (Wrote t bytes BatchCrashed ∷ old) Halt k legal h = cc
    by before Halt k legal h = all_none (is_live topology before) topology.stages c ∙ calm before h
      where
        calm : (before : History) → passes (owed topology before) Halt (may_come topology before Halt) ≡ true → false ≡ owes_write before c
        calm (Wrote t bytes BatchCrashed ∷ old) h = cc
        calm _ h = refl
    by before _ k legal h = cc

-- What a batch processor took is one batch at most

one_first : (xs : List ℕ) (b : ℕ) → length xs ≤ 1 → 1 ≤ b → (first_in xs == b) ≡ among xs b
one_first [] b few some = grind (arith, nat_tests)
one_first (x ∷ []) b few some = or_none (x == b)
  where
    or_none : (c : Bool) → c ≡ (c || false)
    or_none true = refl
    or_none false = refl
one_first (x ∷ y ∷ xs) b few some = absurd (omega arith)

taken_few : (topology : Topology) (before : History) (c : StageNo) → IsSound topology → is_legal topology before ≡ true → has_role topology c is_batch_processor_role ≡ true → length (taken_units topology before c) ≤ 1
taken_few topology before c sound h role = by (last_take before c) refl (took topology before c)
  where
    by : (o : Option (SubNo × ℕ)) → last_take before c ≡ o → TookBy (sent_to topology before c) (taken_units topology before c) o → length (taken_units topology before c) ≤ 1
    by None e t = let none : length (taken_units topology before c) ≡ 0 = ap length t in omega (arith, none)
    by (Some x) e t = let one = last_one topology before c x.0 x.1 sound h role e in omega (arith, t.1, one.1)

by_current : (xs : List ℕ) (b : ℕ) (now : Bool) → length xs ≤ 1 → 1 ≤ b → (first_in xs == b && (now || false)) ≡ among (if now then xs else []) b
by_current xs b true few some = and_true (first_in xs == b) ∙ one_first xs b few some
  where
    and_true : (c : Bool) → (c && true) ≡ c
    and_true true = refl
    and_true false = refl
by_current xs b false few some = and_false (first_in xs == b)
  where
    and_false : (c : Bool) → (c && false) ≡ false
    and_false true = refl
    and_false false = refl

-- a live batch processor works on the batch that it took last, while its job is out or has just crashed
pub work_due : (topology : Topology) (before : History) (c : StageNo) (b : ℕ) → IsSound topology → is_legal topology before ≡ true → has_role topology c is_batch_processor_role ≡ true → is_live topology before c ≡ true → 1 ≤ b
    → (first_in (taken_units topology before c) == b && (is_current before c 0 || owes_write before c)) ≡ among (map (λ d. d.1) (at_work topology before c)) b
work_due topology before c b sound h role live some = by before h live (owes_write before c) refl
  where
    calm : (before : History) → is_legal topology before ≡ true → is_live topology before c ≡ true → owes_write before c ≡ false
        → (first_in (taken_units topology before c) == b && (is_current before c 0 || owes_write before c)) ≡ among (map (λ d. d.1) (at_work topology before c)) b
    calm before h live none =
        ap (λ x. first_in (taken_units topology before c) == b && (is_current before c 0 || x)) none
        ∙ (by_current (taken_units topology before c) b (is_current before c 0) (taken_few topology before c sound h role) some
        ∙ ap (λ xs. among xs b) (sym (at_work_is topology before c sound h role live none)))

    by : (before : History) → is_legal topology before ≡ true → is_live topology before c ≡ true → (o : Bool) → owes_write before c ≡ o
        → (first_in (taken_units topology before c) == b && (is_current before c 0 || owes_write before c)) ≡ among (map (λ d. d.1) (at_work topology before c)) b
    by (Wrote t bytes BatchCrashed ∷ old) h live true e =
        let facts = wrote_facts topology old t bytes BatchCrashed (legal_step topology old (Wrote t bytes BatchCrashed) h) in
        let is : t ≡ c = same_stage-true t c e in
        let now : is_current old c 0 ≡ true = subst (λ x. is_current old x 0 ≡ true) is facts.current in
        let was : is_live topology old c ≡ true = subst (λ x. is_live topology old x ≡ true) is facts.live in
        let h2 = legal_before topology old (Wrote t bytes BatchCrashed) h in
        ap (λ x. first_in (taken_units topology old c) == b && (is_current (Wrote t bytes BatchCrashed ∷ old) c 0 || x)) e
        ∙ (or_true (first_in (taken_units topology old c) == b) (is_current (Wrote t bytes BatchCrashed ∷ old) c 0)
        ∙ (one_first (taken_units topology old c) b (taken_few topology old c sound h2 role) some
        ∙ (ap (λ x. among (if x then taken_units topology old c else []) b) (sym now)
        ∙ ap (λ xs. among xs b) (sym (at_work_is topology old c sound h2 role was (not_owing old h2 facts.current (legal_step topology old (Wrote t bytes BatchCrashed) h)))))))
      where
        or_true : (x y : Bool) → (x && (y || true)) ≡ x
        or_true true true = refl
        or_true true false = refl
        or_true false y = refl

        not_owing : (old : History) → is_legal topology old ≡ true → is_current old t 0 ≡ true → allows topology old (Wrote t bytes BatchCrashed) ≡ true → owes_write old c ≡ false
        not_owing (Wrote v more BatchCrashed ∷ rest) h now allowed = let no-way = and_right (not (happened is_halt (Wrote v more BatchCrashed ∷ rest)) || false) _ allowed in cc
        not_owing _ h now allowed = refl
    by before h live false e = calm before h live e
    by before h live true e = cc
