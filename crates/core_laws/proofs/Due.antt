-- What a step does to the number of live stages and of posts that are out.
use Rattle.std.proofs.Common.{◌≡◌, ℕ, ◌+◌, ◌*◌, ◌<◌, ◌≤◌, ◌∷◌, length, Bool, true, false, refl, ap, sym, ◌∙◌, subst, arith, Some, None, Option}
use Rattle.std.specs.Prelude.{sum_by, not, is_none, is_some, ◌&&◌, ◌||◌, ◌==◌, if◌then◌else◌}
use Rattle.std.proofs.lemmas.Bool.{eqb-true}
use Rattle.pipe_types.specs.declared.message.Why.{Why}
use Rattle.pipe_types.specs.declared.numbers.StageNo.{StageNo}
use Rattle.pipe_types.specs.declared.numbers.Post.{Post}
use Rattle.pipe_types.specs.declared.topology.Topology.{Topology}
use Rattle.pipe_types.specs.declared.topology.StageSpec.{StageSpec}
use Rattle.pipe_types.specs.declared.step.Step.{Step}
use Rattle.pipe_types.specs.declared.step.SourceHow.{SourceHow}
use Rattle.pipe_types.specs.declared.step.Step.TheVariants.{Kill, Quiet, SourceEnd}
use Rattle.pipe_types.specs.Numbers.{post, stage, same_stage, same_post}
use Rattle.pipe_types.specs.Sound.{IsSound}
use Rattle.pipe_types.specs.Stages.{spec_of}
use Rattle.pipe_model.specs.Counting.{as_number}
use Rattle.pipe_model.specs.History.{History, controls}
use Rattle.pipe_model.specs.Posts.{is_out, puts_out, answers, slots}
use Rattle.pipe_model.specs.Lives.{is_live, death, death_after, kill_set, reason_in}
use Rattle.pipe_model.specs.Legal.{is_legal, allows, has_role, has_ended, is_producer_role, is_current, is_limit, same_truth}
use Rattle.pipe_laws.proofs.Allowed.{unowed}
use Rattle.pipe_laws.proofs.Tests.{and_left, and_right, both, same_stage-true, same_stage-self, clash}
use Rattle.pipe_laws.proofs.Lists.{each_always}
use Rattle.pipe_laws.proofs.Chunks.{kill_kills}
use Rattle.queue_laws.proofs.Roles.{some_spec}
use Rattle.core_laws.specs.Due.{posts_out, due_at, due_steps}
use Rattle.core_laws.proofs.Past.{IsPost, out_post}
use Rattle.core_laws.proofs.Sums.{sum_drop, sum_17, sum_1, number_small, slot_found, stage_found}

-- at most 17 for each stage
pub due_within : (topology : Topology) (before : History) → due_steps topology before ≤ 17 * length topology.stages
due_within topology before = sum_17 (λ (spec : StageSpec). due_at topology before spec.no) topology.stages (λ spec. one spec.no)
  where
    one : (s : StageNo) → due_at topology before s ≤ 17
    one s = omega (arith, number_small (is_live topology before s), sum_1 (λ slot. as_number (is_out before (post s slot))) slots (λ slot. number_small (is_out before (post s slot))))

-- The answer of a post

-- what a step that puts nothing out leaves of a post
left_out : (a o m : Bool) → (m ≡ true → a ≡ true) → (m ≡ true → o ≡ true) → as_number (false || (not a && o)) + as_number m ≤ as_number o
left_out true true true f g = omega arith
left_out true false true f g = let e : false ≡ true = g refl in cc
left_out false o true f g = let e : false ≡ true = f refl in cc
left_out true true false f g = omega arith
left_out true false false f g = omega arith
left_out false true false f g = omega arith
left_out false false false f g = omega arith

slot_answered : (before : History) (step : Step) (s t : StageNo) (slot k : ℕ) → ((p : Post) → puts_out step p ≡ false) → answers step (post s slot) ≡ true → is_out before (post s slot) ≡ true
    → as_number (is_out (step ∷ before) (post t k)) + as_number (same_stage t s && k == slot) ≤ as_number (is_out before (post t k))
slot_answered before step s t slot k none answered out =
    subst (λ b. as_number (b || (not (answers step (post t k)) && is_out before (post t k))) + as_number (same_stage t s && k == slot) ≤ as_number (is_out before (post t k))) (sym (none (post t k)))
    (left_out (answers step (post t k)) (is_out before (post t k)) (same_stage t s && k == slot)
    (λ same. subst (λ p. answers step p ≡ true) (here same) answered)
    (λ same. subst (λ p. is_out before p ≡ true) (here same) out))
  where
    here : (same_stage t s && k == slot) ≡ true → post s slot ≡ post t k
    here same =
        let one : t ≡ s = same_stage-true t s (and_left (same_stage t s) _ same) in
        let two : k ≡ slot = eqb-true k slot (and_right (same_stage t s) _ same) in
        cc

slots_answered : (before : History) (step : Step) (s t : StageNo) (slot : ℕ) → slot < 16 → ((p : Post) → puts_out step p ≡ false) → answers step (post s slot) ≡ true → is_out before (post s slot) ≡ true
    → posts_out (step ∷ before) t + as_number (same_stage t s) ≤ posts_out before t
slots_answered before step s t slot low none answered out = either (same_stage t s) refl
  where
    drop : sum_by (λ k. as_number (is_out (step ∷ before) (post t k))) slots + sum_by (λ k. as_number (same_stage t s && k == slot)) slots ≤ sum_by (λ k. as_number (is_out before (post t k))) slots
    drop =
        sum_drop (λ k. as_number (is_out (step ∷ before) (post t k))) (λ k. as_number (same_stage t s && k == slot)) (λ k. as_number (is_out before (post t k))) slots
        (each_always (λ k. as_number (is_out (step ∷ before) (post t k)) + as_number (same_stage t s && k == slot) ≤ as_number (is_out before (post t k))) (λ k. slot_answered before step s t slot k none answered out) slots)

    either : (b : Bool) → same_stage t s ≡ b → posts_out (step ∷ before) t + as_number b ≤ posts_out before t
    either true is =
        let found : 1 ≤ sum_by (λ k. as_number (same_stage t s && k == slot)) slots = subst (λ b. 1 ≤ sum_by (λ k. as_number (b && k == slot)) slots) (sym is) (slot_found slot low) in
        omega (arith, drop, found)
    either false is = omega (arith, drop)

-- where the step answers a post that is out, puts none out and restarts no stage, at least one is due less
pub answer_due : (topology : Topology) (before : History) (step : Step) (s : StageNo) (slot : ℕ) → IsSound topology → is_legal topology before ≡ true → ((p : Post) → puts_out step p ≡ false)
    → answers step (post s slot) ≡ true → is_out before (post s slot) ≡ true → ((t : StageNo) → is_live topology (step ∷ before) t ≡ true → is_live topology before t ≡ true)
    → due_steps topology (step ∷ before) + 1 ≤ due_steps topology before
answer_due topology before step s slot sound legal none answered out lives =
    let at : IsPost topology s slot = out_post topology before s slot sound legal out in
    let found : (spec : StageSpec) × (spec_of topology s ≡ Some spec) = some_spec topology s at.known in
    omega (arith, drop at, stage_found s found.0 topology.stages found.1)
  where
    live_less : (a b : Bool) → (a ≡ true → b ≡ true) → as_number a ≤ as_number b
    live_less true true f = omega arith
    live_less true false f = let e : false ≡ true = f refl in cc
    live_less false b f = omega arith

    one : IsPost topology s slot → (t : StageNo) → due_at topology (step ∷ before) t + as_number (same_stage t s) ≤ due_at topology before t
    one at t =
        omega (arith, live_less (is_live topology (step ∷ before) t) (is_live topology before t) (lives t), slots_answered before step s t slot at.low none answered out)

    drop : IsPost topology s slot → sum_by (λ (x : StageSpec). due_at topology (step ∷ before) x.no) topology.stages + sum_by (λ (x : StageSpec). as_number (same_stage x.no s)) topology.stages
        ≤ sum_by (λ (x : StageSpec). due_at topology before x.no) topology.stages
    drop at =
        sum_drop (λ (x : StageSpec). due_at topology (step ∷ before) x.no) (λ (x : StageSpec). as_number (same_stage x.no s)) (λ (x : StageSpec). due_at topology before x.no) topology.stages
        (each_always (λ (x : StageSpec). due_at topology (step ∷ before) x.no + as_number (same_stage x.no s) ≤ due_at topology before x.no) (λ x. one at x.no) topology.stages)

-- The kill of a stage

-- who lives after a kill lived before
alive_before : (known : Bool) (why old : Option Why) → (known && is_none (death_after why false old)) ≡ true → (known && is_none old) ≡ true
alive_before true None None h = refl
alive_before true None (Some w) h = h
alive_before true (Some v) old h = cc
alive_before false why old h = h

-- the kill of a live stage: at least one is due less
pub kill_due : (topology : Topology) (before : History) (s : StageNo) (why : Why) → is_live topology before s ≡ true → due_steps topology (Kill s why ∷ before) + 1 ≤ due_steps topology before
kill_due topology before s why live =
    let found : (spec : StageSpec) × (spec_of topology s ≡ Some spec) = some_spec topology s (and_left (is_some (spec_of topology s)) _ live) in
    omega (arith, drop, stage_found s found.0 topology.stages found.1)
  where
    less : (t : StageNo) → is_live topology (Kill s why ∷ before) t ≡ true → is_live topology before t ≡ true
    less t h = alive_before (is_some (spec_of topology t)) (reason_in (kill_set topology before (Kill s why)) t) (death topology before t) h

    counted : (a b m : Bool) → (a ≡ true → b ≡ true) → (m ≡ true → b ≡ true) → (m ≡ true → a ≡ false) → as_number a + as_number m ≤ as_number b
    counted true true true f g h = clash true refl (h refl)
    counted false true true f g h = omega arith
    counted a false true f g h = let e : false ≡ true = g refl in cc
    counted true true false f g h = omega arith
    counted true false false f g h = let e : false ≡ true = f refl in cc
    counted false b false f g h = omega arith

    one : (t : StageNo) → due_at topology (Kill s why ∷ before) t + as_number (same_stage t s) ≤ due_at topology before t
    one t =
        omega (
          arith,
          counted (is_live topology (Kill s why ∷ before) t) (is_live topology before t) (same_stage t s) (less t)
              (λ same. ap (is_live topology before) (same_stage-true t s same) ∙ live)
              (λ same. ap (is_live topology (Kill s why ∷ before)) (same_stage-true t s same) ∙ kill_kills topology before s why),
        )

    drop : sum_by (λ (x : StageSpec). due_at topology (Kill s why ∷ before) x.no) topology.stages + sum_by (λ (x : StageSpec). as_number (same_stage x.no s)) topology.stages
        ≤ sum_by (λ (x : StageSpec). due_at topology before x.no) topology.stages
    drop =
        sum_drop (λ (x : StageSpec). due_at topology (Kill s why ∷ before) x.no) (λ (x : StageSpec). as_number (same_stage x.no s)) (λ (x : StageSpec). due_at topology before x.no) topology.stages
        (each_always (λ (x : StageSpec). due_at topology (Kill s why ∷ before) x.no + as_number (same_stage x.no s) ≤ due_at topology before x.no) (λ x. one x.no) topology.stages)

-- Answers of a producer's source

-- a producer that rests has answered its fetch
pub quiet_due : (topology : Topology) (before : History) (s : StageNo) → IsSound topology → is_legal topology before ≡ true → allows topology before (Quiet s) ≡ true
    → due_steps topology (Quiet s ∷ before) + 1 ≤ due_steps topology before
quiet_due topology before s sound legal allowed =
    let all = unowed topology before (Quiet s) (λ t. refl) (λ t. refl) allowed in
    let current : is_current before s 0 ≡ true = and_right (has_role topology s is_producer_role) _ (and_right (is_live topology before s) _ all) in
    let out : is_out before (post s 0) ≡ true = and_left (is_out before (post s 0)) _ current in
    answer_due topology before (Quiet s) s 0 sound legal (λ p. refl) (both (same_stage s s) (0 == 0) (same_stage-self s) refl) out (λ t k. k)

-- and so has one whose source has ended
pub end_due : (topology : Topology) (before : History) (s : StageNo) (how : SourceHow) → IsSound topology → is_legal topology before ≡ true → allows topology before (SourceEnd s how) ≡ true
    → same_stage s (stage 0) ≡ false → due_steps topology (SourceEnd s how ∷ before) + 1 ≤ due_steps topology before
end_due topology before s how sound legal allowed other = by (same_stage s (stage 0)) other (unowed topology before (SourceEnd s how) (λ x. refl) (λ x. refl) allowed)
  where
    answered : (b : Bool) → b ≡ false → (not b && same_post (post s 0) (post s 0)) ≡ true
    answered true e = cc
    answered false e = both (same_stage s s) (0 == 0) (same_stage-self s) refl

    by : (b : Bool) → b ≡ false
        → (if b then not (has_ended before s) && same_truth (is_limit how) (controls before == 10000) else is_live topology before s && (has_role topology s is_producer_role && (is_current before s 0 && not (is_limit how)))) ≡ true
        → due_steps topology (SourceEnd s how ∷ before) + 1 ≤ due_steps topology before
    by true e k = cc
    by false e k =
        let current : is_current before s 0 ≡ true = and_left (is_current before s 0) _ (and_right (has_role topology s is_producer_role) _ (and_right (is_live topology before s) _ k)) in
        let out : is_out before (post s 0) ≡ true = and_left (is_out before (post s 0)) _ current in
        answer_due topology before (SourceEnd s how) s 0 sound legal (λ p. refl) (answered (same_stage s (stage 0)) other) out (λ t h. h)
