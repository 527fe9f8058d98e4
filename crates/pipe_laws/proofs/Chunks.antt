-- What runs in a processor is what it took last, while it is at work, and else nothing.
use Rattle.std.proofs.Common.{◌≡◌, ℕ, zero, suc, List, [], ◌∷◌, ◌++◌, map, take, drop, Bool, true, false, refl, ap, sym, subst, Some, None, Option}
use Rattle.std.specs.Prelude.{if◌then◌else◌, not, ◌==◌, ◌&&◌, ◌||◌, is_some, filter, cond}
use Rattle.std.proofs.lemmas.Bool.{eq-eqb}
use Rattle.pipe_types.specs.declared.numbers.SubNo.{SubNo}
use Rattle.pipe_types.specs.declared.numbers.StageNo.{StageNo}
use Rattle.pipe_types.specs.declared.topology.Topology.{Topology}
use Rattle.pipe_types.specs.declared.topology.StageSpec.{StageSpec}
use Rattle.pipe_types.specs.declared.message.Why.{Why}
use Rattle.pipe_types.specs.declared.message.Why.TheVariants.{Crash}
use Rattle.pipe_types.specs.declared.step.Step.{Step}
use Rattle.pipe_types.specs.declared.step.Step.TheVariants.{Done, Kill}
use Rattle.pipe_types.specs.Numbers.{same_stage}
use Rattle.pipe_model.specs.History.{History}
use Rattle.pipe_model.specs.Lives.{KillSet, is_live, death, reason_in, cascade, cascade_at, generation, kill_set}
use Rattle.pipe_model.specs.Content.{has_crash}
use Rattle.pipe_model.specs.Flow.{among}
use Rattle.pipe_model.specs.Legal.{allows, is_crash_of, passes, may_come, happened, is_halt, is_late}
use Rattle.pipe_laws.proofs.Tests.{and_left, and_right, same_stage-true, same_stage-self}
use Rattle.pipe_laws.proofs.Lists.{Each, each_always, each_weaker, each_filter, all_among}
use Rattle.pipe_laws.proofs.Held.{killed_dead}

-- Lists

-- the chunk begins with what was taken, and what is left of it is among that too
pub record Covers (taken chunk : List ℕ) : Type 0 where
  pub rest : List ℕ
  pub is : chunk ≡ taken ++ rest
  pub all : Each (λ n. among taken n ≡ true) rest

pub each_take : {A : Type 0} (P : A → Type 0) (k : ℕ) (xs : List A) → Each P xs → Each P (take k xs)
each_take P zero xs h = tt
each_take P (suc k) [] h = tt
each_take P (suc k) (x ∷ xs) h = (h.0, each_take P k xs h.1)

covered_by : (zs : List ℕ) (k : ℕ) (xs : List ℕ) → Each (λ n. among zs n ≡ true) (take k xs) → filter (among zs) xs ≡ take k xs ++ filter (among zs) (drop k xs)
covered_by zs zero xs h = refl
covered_by zs (suc k) [] h = refl
covered_by zs (suc k) (x ∷ xs) h = either (among zs x) h.0 (covered_by zs k xs h.1)
  where
    either : (b : Bool) → b ≡ true → filter (among zs) xs ≡ take k xs ++ filter (among zs) (drop k xs) → cond b (x ∷ filter (among zs) xs) (filter (among zs) xs) ≡ x ∷ (take k xs ++ filter (among zs) (drop k xs))
    either true e rest = ap (λ ys. x ∷ ys) rest
    either false e rest = cc

pub covers_take : (k : ℕ) (xs : List ℕ) → Covers (take k xs) (filter (among (take k xs)) xs)
covers_take k xs =
    record {
      rest = filter (among (take k xs)) (drop k xs);
      is = covered_by (take k xs) k xs (all_among (take k xs));
      all = each_weaker (λ n. Unit {0} × (among (take k xs) n ≡ true)) (λ n. among (take k xs) n ≡ true) (λ n p. p.1) _ (each_filter (λ n. Unit {0}) (among (take k xs)) (drop k xs) (each_always (λ n. Unit {0}) (λ n. tt) (drop k xs)));
    }

-- a filter that keeps nothing
pub none_kept : (p : ℕ → Bool) (xs : List (SubNo × ℕ)) → filter p (map (λ d. d.1) xs) ≡ [] → Each (λ d. p d.1 ≡ false) xs
none_kept p [] e = tt
none_kept p (x ∷ xs) e = either (p x.1) refl e (none_kept p xs)
  where
    either : (b : Bool) → p x.1 ≡ b → cond b (x.1 ∷ filter p (map (λ d. d.1) xs)) (filter p (map (λ d. d.1) xs)) ≡ [] → (filter p (map (λ d. d.1) xs) ≡ [] → Each (λ d. p d.1 ≡ false) xs) → Each (λ d. p d.1 ≡ false) (x ∷ xs)
    either true here e rest = cc
    either false here e rest = (here, rest e)

pub keeps_none : (p : ℕ → Bool) (xs : List (SubNo × ℕ)) → Each (λ d. p d.1 ≡ false) xs → filter p (map (λ d. d.1) xs) ≡ []
keeps_none p [] h = refl
keeps_none p (x ∷ xs) h = either (p x.1) h.0 (keeps_none p xs h.1)
  where
    either : (b : Bool) → b ≡ false → filter p (map (λ d. d.1) xs) ≡ [] → cond b (x.1 ∷ filter p (map (λ d. d.1) xs)) (filter p (map (λ d. d.1) xs)) ≡ []
    either true e rest = cc
    either false e rest = rest

-- one filter in place of three
pub filters_agree : (p g : ℕ → Bool) (test on : SubNo × ℕ → Bool) (xs : List (SubNo × ℕ)) → Each (λ d. p d.1 ≡ (on d && (test d && g d.1))) xs → filter p (map (λ d. d.1) xs) ≡ filter g (map (λ d. d.1) (filter on (filter test xs)))
filters_agree p g test on [] h = refl
filters_agree p g test on (x ∷ xs) h = either (p x.1) (test x) (on x) refl (g x.1) refl h.0 (filters_agree p g test on xs h.1)
  where
    either : (a t o : Bool) → on x ≡ o → (c : Bool) → g x.1 ≡ c → a ≡ (o && (t && c)) → filter p (map (λ d. d.1) xs) ≡ filter g (map (λ d. d.1) (filter on (filter test xs))) → cond a (x.1 ∷ filter p (map (λ d. d.1) xs)) (filter p (map (λ d. d.1) xs)) ≡ filter g (map (λ d. d.1) (filter on (cond t (x ∷ filter test xs) (filter test xs))))
    either true true true eo true eg e rest = rw (eo, eg) (ap (λ ys. x.1 ∷ ys) rest)
    either false true true eo false eg e rest = rw (eo, eg) rest
    either false true false eo c eg e rest = rw eo rest
    either false false o eo c eg e rest = rest
    either true true true eo false eg e rest = cc
    either true true false eo c eg e rest = cc
    either true false true eo c eg e rest = cc
    either true false false eo c eg e rest = cc
    either false true true eo true eg e rest = cc

pub filter_same : (p q : ℕ → Bool) → ((n : ℕ) → p n ≡ q n) → (xs : List ℕ) → filter p xs ≡ filter q xs
filter_same p q e [] = refl
filter_same p q e (x ∷ xs) = λ i. cond (e x i) (x ∷ filter_same p q e xs i) (filter_same p q e xs i)

-- what passes is among what the filter keeps
pub kept_among : (p : ℕ → Bool) (xs : List (SubNo × ℕ)) → Each (λ d. p d.1 ≡ true → among (filter p (map (λ d. d.1) xs)) d.1 ≡ true) xs
kept_among p [] = tt
kept_among p (x ∷ xs) =
    (λ h. here (p x.1) h, each_weaker (λ d. p d.1 ≡ true → among (filter p (map (λ d. d.1) xs)) d.1 ≡ true) (λ d. p d.1 ≡ true → among (filter p (map (λ d. d.1) (x ∷ xs))) d.1 ≡ true) (λ d f h. there (p x.1) d.1 (f h)) xs (kept_among p xs))
  where
    here : (b : Bool) → b ≡ true → among (cond b (x.1 ∷ filter p (map (λ d. d.1) xs)) (filter p (map (λ d. d.1) xs))) x.1 ≡ true
    here true e = ap (λ c. c || among (filter p (map (λ d. d.1) xs)) x.1) (eq-eqb x.1 x.1 refl)
    here false e = cc

    or_right : (a b : Bool) → b ≡ true → (a || b) ≡ true
    or_right true b e = refl
    or_right false b e = e

    there : (b : Bool) (n : ℕ) → among (filter p (map (λ d. d.1) xs)) n ≡ true → among (cond b (x.1 ∷ filter p (map (λ d. d.1) xs)) (filter p (map (λ d. d.1) xs))) n ≡ true
    there true n h = or_right (x.1 == n) _ h
    there false n h = h

-- Crashes

-- the last step was a chunk's crash in the stage, which owes the stage's kill
abbrev pub owes_crash : History → StageNo → Bool
owes_crash (Done t replies ∷ before) s = has_crash replies && same_stage t s
owes_crash _ s = false

-- a kill kills its stage
killed_stays : (set more : KillSet) (s : StageNo) → is_some (reason_in set s) ≡ true → is_some (reason_in (set ++ more) s) ≡ true
killed_stays [] more s h = cc
killed_stays (d ∷ set) more s h = either (same_stage d.stage s) h (killed_stays set more s)
  where
    either : (b : Bool) → is_some (if b then Some d.why else reason_in set s) ≡ true → (is_some (reason_in set s) ≡ true → is_some (reason_in (set ++ more) s) ≡ true) → is_some (if b then Some d.why else reason_in (set ++ more) s) ≡ true
    either true h rest = refl
    either false h rest = rest h

cascade_stays : (topology : Topology) (live : StageNo → Bool) (generations : StageNo → StageNo → ℕ) (why : Why) (specs : List StageSpec) (set : KillSet) (s : StageNo) → is_some (reason_in set s) ≡ true → is_some (reason_in (cascade topology live generations why specs set) s) ≡ true
cascade_stays topology live generations why [] set s h = h
cascade_stays topology live generations why (spec ∷ specs) set s h =
    cascade_stays topology live generations why specs (set ++ cascade_at topology live generations why spec set) s
    (killed_stays set (cascade_at topology live generations why spec set) s h)

pub kill_kills : (topology : Topology) (before : History) (s : StageNo) (why : Why) → is_live topology (Kill s why ∷ before) s ≡ false
kill_kills topology before s why =
    by_reason (reason_in (kill_set topology before (Kill s why)) s) refl
    (cascade_stays topology (is_live topology before) (generation topology before) why topology.stages (record { stage = s; why = why } ∷ []) s (itself (same_stage s s) (same_stage-self s)))
  where
    itself : (b : Bool) → b ≡ true → is_some (if b then Some why else None) ≡ true
    itself true e = refl
    itself false e = cc

    by_reason : (o : Option Why) → reason_in (kill_set topology before (Kill s why)) s ≡ o → is_some o ≡ true → is_live topology (Kill s why ∷ before) s ≡ false
    by_reason (Some w) e h = killed_dead topology (reason_in (kill_set topology before (Kill s why)) s) w (death topology before s) s e
    by_reason None e h = cc

crash_dies : (topology : Topology) (before : History) (step : Step) (t : StageNo) → is_crash_of t step ≡ true → is_live topology (step ∷ before) t ≡ false
crash_dies topology before (Kill v Crash) t h = subst (λ x. is_live topology (Kill v Crash ∷ before) x ≡ false) (sym (same_stage-true t v h)) (kill_kills topology before v Crash)
crash_dies topology before _ t h = cc

-- after a crash the stage lives no further step
pub owed_dies : (topology : Topology) (before : History) (step : Step) (s : StageNo) → owes_crash before s ≡ true → allows topology before step ≡ true → is_live topology (step ∷ before) s ≡ false
owed_dies topology (Done t replies ∷ before) step s owes h =
    subst (λ x. is_live topology (step ∷ Done t replies ∷ before) x ≡ false) (same_stage-true t s (and_right (has_crash replies) _ owes))
    (crash_dies topology (Done t replies ∷ before) step t
    (owed_test (has_crash replies) (and_left (has_crash replies) _ owes) (and_right (not (happened is_halt (Done t replies ∷ before)) || is_late step) _ h)))
  where
    owed_test : (b : Bool) → b ≡ true → passes (if b then Some (is_crash_of t) else None) step (may_come topology (Done t replies ∷ before) step) ≡ true → is_crash_of t step ≡ true
    owed_test true e k = k
    owed_test false e k = cc
owed_dies topology _ step s owes h = cc
