-- How many kills, restarts and late answers.
use Rattle.std.proofs.Common.{◌≡◌, ℕ, ◌+◌, ◌<◌, ◌≤◌, [], ◌∷◌, Bool, true, false, refl, ap, sym, ◌∙◌, subst, arith, Some, None}
use Rattle.std.specs.Prelude.{if◌then◌else◌, not, ◌==◌, ◌&&◌, ◌||◌, is_some}
use Rattle.std.proofs.lemmas.Bool.{eq-eqb}
use Rattle.pipe_types.specs.declared.numbers.StageNo.{StageNo}
use Rattle.pipe_types.specs.declared.numbers.Post.{Post}
use Rattle.pipe_types.specs.declared.topology.Topology.{Topology}
use Rattle.pipe_types.specs.declared.message.Why.TheVariants.{Crash, Kill as KillWhy, Stop, Cancelled, Limit}
use Rattle.pipe_types.specs.declared.step.DrainCause.TheVariants.{Control}
use Rattle.pipe_types.specs.declared.step.Step.{Step}
use Rattle.pipe_types.specs.declared.step.Step.TheVariants.{Fetch, Accept, Take, Done, Wrote, Child, Kill, Late, Restart, Drain, Halt}
use Rattle.pipe_types.specs.Numbers.{post, same_stage}
use Rattle.pipe_types.specs.Stages.{spec_of}
use Rattle.pipe_types.specs.Sound.{IsSound}
use Rattle.pipe_model.specs.History.{History, incarnation, incarnation_after, controls}
use Rattle.pipe_model.specs.Posts.{puts_out, answers, is_out, out_from, slots, has_post_out}
use Rattle.pipe_model.specs.Lives.{is_live, restarts}
use Rattle.pipe_model.specs.Counting.{as_number}
use Rattle.pipe_model.specs.Legal.{is_legal, allows, owed, passes, may_dispatch, is_dispatch_of, happened, is_halt, is_late, needs_restart, no_post_out}
use Rattle.pipe_laws.proofs.Tests.{clash, and_left, and_right, both, not_true, same_stage-true, same_stage-self}
use Rattle.pipe_laws.proofs.Allowed.{legal_before, legal_step, unowed, take_facts, child_facts, LateFacts, late_facts, restart_needs}
use Rattle.pipe_laws.proofs.Busy.{same_incarnation, was_live}
use Rattle.queue_laws.proofs.Roles.{some_spec}
use Rattle.queue_laws.proofs.Late.{puts_no_restart}
use Rattle.stage_laws.proofs.FewSlots.{slot_case, none_any}
use Rattle.core_laws.proofs.Past.{out_post}
use Rattle.count_laws.specs.Counts.{kills}
use Rattle.count_laws.proofs.Bounds.{restarts_within}
use Rattle.count_laws.proofs.Steps.{controls_within, answered_out}
use Rattle.work_laws.specs.Work.{how_many, is_reply, is_killing, is_restart}
use Rattle.work_laws.specs.Limits.{most_kills, most_lives, most_restarts, most_late}
use Rattle.work_laws.proofs.Keys.{stage_numbers, stage_among}
use Rattle.work_laws.proofs.Spread.{Counted, at_most_one, how_many_grows, how_many_more, no_less}
use Rattle.work_laws.proofs.ByKind.{replies_all, over_stages, stage_slots, slot_among, over_slots}

-- Kills

-- the last step is a handler's reply
abbrev replied : History → Bool
replied [] = false
replied (Done s replies ∷ before) = true
replied (Wrote s bytes end ∷ before) = true
replied (_ ∷ before) = false

-- a kill for a crash comes right after a reply
crash_follows : (topology : Topology) (before : History) (t : StageNo) → passes (owed topology before) (Kill t Crash) false ≡ true → replied before ≡ true
crash_follows topology [] t h = cc
crash_follows topology (Accept s records ∷ before) t h = either (may_dispatch topology (Accept s records ∷ before) s) h
  where
    either : (b : Bool) → passes (if b then Some (is_dispatch_of s) else None) (Kill t Crash) false ≡ true → replied (Accept s records ∷ before) ≡ true
    either true k = cc
    either false k = cc
crash_follows topology (Done s replies ∷ before) t h = refl
crash_follows topology (Wrote s bytes end ∷ before) t h = refl
crash_follows topology (_ ∷ before) t h = cc

kills_within : (topology : Topology) (before : History) → is_legal topology before ≡ true → kills before + as_number (replied before) ≤ controls before + how_many is_reply before + as_number (happened is_halt before)
kills_within topology [] h = omega arith
kills_within topology (step ∷ before) h = by_step step (legal_step topology before step h) (kills_within topology before (legal_before topology before step h))
  where
    by_step : (step : Step) → allows topology before step ≡ true → kills before + as_number (replied before) ≤ controls before + how_many is_reply before + as_number (happened is_halt before) → kills (step ∷ before) + as_number (replied (step ∷ before)) ≤ controls (step ∷ before) + how_many is_reply (step ∷ before) + as_number (happened is_halt (step ∷ before))
    by_step (Kill t Crash) l old =
        let one : as_number (replied before) ≡ 1 = ap as_number (crash_follows topology before t (and_right (not (happened is_halt before) || is_late (Kill t Crash)) _ l)) in
        omega (arith, old, one)
    by_step (Kill t KillWhy) l old = omega (arith, old)
    by_step (Kill t Stop) l old = omega (arith, old)
    by_step (Kill t (Cancelled u)) l old = absurd (let x : false ≡ true = unowed topology before (Kill t (Cancelled u)) (λ s. refl) (λ s. refl) l in cc)
    by_step (Kill t Limit) l old = absurd (let x : false ≡ true = unowed topology before (Kill t Limit) (λ s. refl) (λ s. refl) l in cc)
    by_step Halt l old =
        let none : as_number (happened is_halt before) ≡ 0 = ap as_number (unhalted (happened is_halt before) (and_left (not (happened is_halt before) || is_late Halt) _ l)) in
        omega (arith, old, none)
      where
        unhalted : (b : Bool) → (not b || false) ≡ true → b ≡ false
        unhalted true k = let x : false ≡ true = k in cc
        unhalted false k = refl
    by_step (Drain Control) l old = omega (arith, old)
    by_step _ l old = omega (arith, old)

kills_few : (topology : Topology) (before : History) → IsSound topology → is_legal topology before ≡ true → kills before ≤ most_kills topology
kills_few topology before sound h = omega (arith, kills_within topology before h, controls_within topology before h, replies_all topology before sound h, at_most_one (happened is_halt before))

killings_are : (before : History) → how_many is_killing before ≤ kills before
killings_are [] = omega arith
killings_are (Kill s why ∷ before) = omega (arith, killings_are before)
killings_are (Halt ∷ before) = omega (arith, killings_are before)
killings_are (step ∷ before) = omega (arith, killings_are before)

pub killings_all : (topology : Topology) (before : History) → IsSound topology → is_legal topology before ≡ true → how_many is_killing before ≤ most_kills topology
killings_all topology before sound h = omega (arith, killings_are before, kills_few topology before sound h)

-- Restarts

pub lives_few : (topology : Topology) (before : History) (s : StageNo) → IsSound topology → is_legal topology before ≡ true → incarnation before s ≤ most_lives topology
lives_few topology before s sound h = omega (arith, restarts_within topology before s h, kills_few topology before sound h)

pub restarts_all : (topology : Topology) (before : History) → IsSound topology → is_legal topology before ≡ true → how_many is_restart before ≤ most_restarts topology
restarts_all topology before sound h =
    over_stages topology is_restart incarnation (most_lives topology) (record { grows = grows; counts = counts }) before h (λ s. lives_few topology before s sound h)
  where
    grows : (before : History) (step : Step) (s : StageNo) → incarnation before s ≤ incarnation (step ∷ before) s
    grows before (Restart t) s = no_less (same_stage s t) (incarnation before s)
    grows before _ s = omega arith

    counts : (before : History) (step : Step) → is_legal topology (step ∷ before) ≡ true → is_restart step ≡ true → Counted incarnation (stage_numbers topology.stages) before step
    counts before (Restart t) l e =
        let more : incarnation (Restart t ∷ before) t ≡ incarnation before t + 1 = ap (λ b. if b then incarnation before t + 1 else incarnation before t) (same_stage-self t) in
        let found = some_spec topology t (and_left (is_some (spec_of topology t)) _ (restart_needs topology before t (legal_step topology before (Restart t) l))) in
        record { key = t; there = stage_among topology.stages t found.0 found.1; more = omega (arith, more) }
    counts before _ l e = let x : false ≡ true = e in cc

-- Late answers

-- a stage is not restarted while a post of it is out
restart_waits : (topology : Topology) (before : History) (step : Step) (s : StageNo) (slot : ℕ) → slot < 16 → allows topology before step ≡ true → restarts step s ≡ true → is_out before (post s slot) ≡ true → ⊥
restart_waits topology before (Restart t) s slot low h same out =
    let all = unowed topology before (Restart t) (λ x. refl) (λ x. refl) h in
    let free : no_post_out topology before t ≡ true = and_left (no_post_out topology before t) _ (and_right (needs_restart topology before t) _ all) in
    let none : is_out before (post t slot) ≡ false = slot_case (λ k. is_out before (post t k) ≡ false) (none_any (λ k. is_out before (post t k)) slots (not_true (has_post_out before t) free)) slot low in
    clash (is_out before (post t slot)) (subst (λ x. is_out before (post x slot) ≡ true) (same_stage-true s t same) out) none
restart_waits topology before _ s slot low h same out = let x : false ≡ true = same in cc

-- a post that is out is of the present incarnation
present : (topology : Topology) (before : History) (s : StageNo) (slot : ℕ) → IsSound topology → is_legal topology before ≡ true → is_out before (post s slot) ≡ true → out_from before (post s slot) ≡ incarnation before s
present topology [] s slot sound h out = cc
present topology (step ∷ before) s slot sound h out =
    either (puts_out step (post s slot)) refl out (present topology before s slot sound legal) (restarts step s) refl
  where
    legal : is_legal topology before ≡ true
    legal = legal_before topology before step h

    either : (b : Bool) → puts_out step (post s slot) ≡ b → (b || (not (answers step (post s slot)) && is_out before (post s slot))) ≡ true → (is_out before (post s slot) ≡ true → out_from before (post s slot) ≡ incarnation before s) → (r : Bool) → restarts step s ≡ r → (if b then incarnation before s else out_from before (post s slot)) ≡ incarnation_after step s (incarnation before s)
    either true e out rest r er = sym (same_incarnation step s (incarnation before s) (puts_no_restart step s slot e))
    either false e out rest false er = rest (and_right (not (answers step (post s slot))) _ out) ∙ sym (same_incarnation step s (incarnation before s) er)
    either false e out rest true er =
        let was : is_out before (post s slot) ≡ true = and_right (not (answers step (post s slot))) _ out in
        absurd (restart_waits topology before step s slot (out_post topology before s slot sound legal was).low (legal_step topology before step h) er was)

puts_live : (topology : Topology) (before : History) (step : Step) (s : StageNo) (slot : ℕ) → allows topology before step ≡ true → puts_out step (post s slot) ≡ true → is_live topology before s ≡ true
puts_live topology before (Fetch t n) s slot h out =
    subst (λ x. is_live topology before x ≡ true) (sym (same_stage-true s t (and_left (same_stage s t) _ out))) (and_left (is_live topology before t) _ (unowed topology before (Fetch t n) (λ x. refl) (λ x. refl) h))
puts_live topology before (Take t u k) s slot h out =
    subst (λ x. is_live topology before x ≡ true) (sym (same_stage-true s t (and_left (same_stage s t) _ out))) (take_facts topology before t u k h).live
puts_live topology before (Child t m k) s slot h out =
    subst (λ x. is_live topology before x ≡ true) (sym (same_stage-true s t (and_left (same_stage s t) _ out))) (child_facts topology before t m k h).live
puts_live topology before _ s slot h out = let x : false ≡ true = out in cc

abbrev is_late_at : Post → Step → Bool
is_late_at p step = is_late step && answers step p

-- the stage lives, or its slot is out
abbrev is_held : Topology → History → StageNo → ℕ → Bool
is_held topology before s slot = is_live topology before s || is_out before (post s slot)

-- a late answer leaves its stage dead and its slot free
late_frees : (topology : Topology) (before : History) (step : Step) (s : StageNo) (slot : ℕ) → IsSound topology → is_legal topology (step ∷ before) ≡ true → is_late_at (post s slot) step ≡ true → is_held topology (step ∷ before) s slot ≡ false
late_frees topology before (Late t k i answer) s slot sound h e = none (is_live topology before s) (answers (Late t k i answer) (post s slot)) dead e
  where
    facts : LateFacts topology before t k i answer
    facts = late_facts topology before t k i answer (legal_step topology before (Late t k i answer) h)

    from : incarnation before t ≡ i
    from = sym (present topology before t k sound (legal_before topology before (Late t k i answer) h) facts.out) ∙ facts.from

    gone : (b : Bool) → (b && incarnation before t == i) ≡ false → b ≡ false
    gone true g = clash (incarnation before t == i) (eq-eqb (incarnation before t) i from) g
    gone false g = refl

    dead : is_live topology before s ≡ false
    dead = subst (λ x. is_live topology before x ≡ false) (sym (same_stage-true s t (and_left (same_stage s t) _ e))) (gone (is_live topology before t) facts.gone)

    none : (l a : Bool) → l ≡ false → a ≡ true → (l || (false || (not a && is_out before (post s slot)))) ≡ false
    none l true d f = orred l d
      where
        orred : (l : Bool) → l ≡ false → (l || false) ≡ false
        orred true d = d
        orred false d = refl
    none l false d f = let x : false ≡ true = f in cc
late_frees topology before _ s slot sound h e = let x : false ≡ true = e in cc

late_step : (topology : Topology) (before : History) (step : Step) (s : StageNo) (slot : ℕ) → IsSound topology → is_legal topology (step ∷ before) ≡ true → how_many (is_late_at (post s slot)) before + as_number (is_held topology before s slot) ≤ incarnation before s
    → how_many (is_late_at (post s slot)) (step ∷ before) + as_number (is_held topology (step ∷ before) s slot) ≤ incarnation (step ∷ before) s
late_step topology before step s slot sound h old = by_late (is_late_at (post s slot) step) refl
  where
    at_most : (b : Bool) → as_number b ≤ 1
    at_most true = omega arith
    at_most false = omega arith

    more : (step : Step) → restarts step s ≡ true → incarnation (step ∷ before) s ≡ incarnation before s + 1
    more (Restart t) e = ap (λ b. if b then incarnation before s + 1 else incarnation before s) e
    more _ e = let x : false ≡ true = e in cc

    not_less : (step : Step) → incarnation before s ≤ incarnation (step ∷ before) s
    not_less (Restart t) = either (same_stage s t)
      where
        either : (b : Bool) → incarnation before s ≤ (if b then incarnation before s + 1 else incarnation before s)
        either true = omega arith
        either false = omega arith
    not_less _ = omega arith

    shrinks : (la oa lb ob : Bool) → (la ≡ true → lb ≡ true) → (oa ≡ true → (lb || ob) ≡ true) → as_number (la || oa) ≤ as_number (lb || ob)
    shrinks la oa true ob f g = at_most (la || oa)
    shrinks la oa false true f g = at_most (la || oa)
    shrinks true oa false false f g = let x : false ≡ true = f refl in cc
    shrinks false true false false f g = let x : false ≡ true = g refl in cc
    shrinks false false false false f g = omega arith

    or_right : (a b : Bool) → b ≡ true → (a || b) ≡ true
    or_right true b e = refl
    or_right false b e = e

    or_left : (a b : Bool) → a ≡ true → (a || b) ≡ true
    or_left true b e = refl
    or_left false b e = let x : false ≡ true = e in cc

    was_out : (p a : Bool) → puts_out step (post s slot) ≡ p → (p || (not a && is_out before (post s slot))) ≡ true → is_held topology before s slot ≡ true
    was_out true a e k = or_left (is_live topology before s) (is_out before (post s slot)) (puts_live topology before step s slot (legal_step topology before step h) e)
    was_out false a e k = or_right (is_live topology before s) (is_out before (post s slot)) (and_right (not a) _ k)

    by_late : (b : Bool) → is_late_at (post s slot) step ≡ b → (as_number b + how_many (is_late_at (post s slot)) before) + as_number (is_held topology (step ∷ before) s slot) ≤ incarnation (step ∷ before) s
    by_late true e =
        let after : as_number (is_held topology (step ∷ before) s slot) ≡ 0 = ap as_number (late_frees topology before step s slot sound h e) in
        let out : is_out before (post s slot) ≡ true = answered_out topology before step (post s slot) (legal_step topology before step h) (and_right (is_late step) _ e) in
        let one : as_number (is_held topology before s slot) ≡ 1 = ap as_number (or_right (is_live topology before s) (is_out before (post s slot)) out) in
        omega (arith, old, after, one, not_less step)
    by_late false e = by_restart (restarts step s) refl
      where
        by_restart : (r : Bool) → restarts step s ≡ r → (0 + how_many (is_late_at (post s slot)) before) + as_number (is_held topology (step ∷ before) s slot) ≤ incarnation (step ∷ before) s
        by_restart true er = omega (arith, old, more step er, at_most (is_held topology (step ∷ before) s slot))
        by_restart false er =
            let less : as_number (is_held topology (step ∷ before) s slot) ≤ as_number (is_held topology before s slot) =
            shrinks (is_live topology (step ∷ before) s) (is_out (step ∷ before) (post s slot)) (is_live topology before s) (is_out before (post s slot)) (was_live topology before step s er) (was_out (puts_out step (post s slot)) (answers step (post s slot)) refl) in
            omega (arith, old, less, not_less step)

-- a slot is answered late at most once in each life of its stage
late_within : (topology : Topology) (before : History) (s : StageNo) (slot : ℕ) → IsSound topology → is_legal topology before ≡ true → how_many (is_late_at (post s slot)) before + as_number (is_held topology before s slot) ≤ incarnation before s
late_within topology [] s slot sound h = first (is_held topology [] s slot)
  where
    first : (b : Bool) → 0 + as_number b ≤ 1
    first true = omega arith
    first false = omega arith
late_within topology (step ∷ before) s slot sound h = late_step topology before step s slot sound h (late_within topology before s slot sound (legal_before topology before step h))

pub late_all : (topology : Topology) (before : History) → IsSound topology → is_legal topology before ≡ true → how_many is_late before ≤ most_late topology
late_all topology before sound h =
    over_slots topology is_late (λ past p. how_many (is_late_at (post p.0 p.1)) past) (most_lives topology) (record { grows = λ past step p. how_many_grows (is_late_at (post p.0 p.1)) past step; counts = counts }) before h
    (λ p. omega (arith, late_within topology before p.0 p.1 sound h, lives_few topology before p.0 sound h))
  where
    counts : (before : History) (step : Step) → is_legal topology (step ∷ before) ≡ true → is_late step ≡ true → Counted {K = StageNo × ℕ} (λ past p. how_many (is_late_at (post p.0 p.1)) past) (stage_slots topology) before step
    counts before (Late t k i answer) l e =
        let at : answers (Late t k i answer) (post t k) ≡ true = both (same_stage t t) (k == k) (same_stage-self t) (eq-eqb k k refl) in
        record { key = (t, k); there = slot_among topology before (Late t k i answer) t k sound l at; more = how_many_more (is_late_at (post t k)) before (Late t k i answer) at }
    counts before _ l e = let x : false ≡ true = e in cc
