-- How many ends of sources, drains and refusals.
use Rattle.std.proofs.Common.{◌≡◌, ◌+◌, ◌*◌, ◌≤◌, [], ◌∷◌, length, Bool, true, false, refl, ap, sym, subst, arith, inl, inr}
use Rattle.std.specs.Prelude.{if◌then◌else◌, not, ◌==◌, ◌&&◌, ◌||◌, suc}
use Rattle.std.proofs.lemmas.List.{length-map}
use Rattle.pipe_types.specs.declared.numbers.StageNo.{StageNo}
use Rattle.pipe_types.specs.declared.topology.Topology.{Topology}
use Rattle.pipe_types.specs.declared.topology.StageSpec.{StageSpec}
use Rattle.pipe_types.specs.declared.step.SourceHow.{SourceHow}
use Rattle.pipe_types.specs.declared.step.DrainCause.TheVariants.{Control}
use Rattle.pipe_types.specs.declared.message.Why.TheVariants.{Kill as KillWhy, Stop}
use Rattle.pipe_types.specs.declared.step.Step.{Step}
use Rattle.pipe_types.specs.declared.step.Step.TheVariants.{SourceEnd, Late, Drain, Refuse, Kill}
use Rattle.pipe_types.specs.Numbers.{post, stage, same_stage}
use Rattle.pipe_types.specs.Sound.{IsSound}
use Rattle.pipe_model.specs.History.{History, controls}
use Rattle.pipe_model.specs.Posts.{is_out}
use Rattle.pipe_model.specs.Lives.{is_live}
use Rattle.pipe_model.specs.Counting.{as_number}
use Rattle.pipe_model.specs.Legal.{is_legal, allows, has_role, is_producer_role, is_current, has_ended, ends_source, happened, is_drain, same_truth, is_limit}
use Rattle.pipe_laws.proofs.Tests.{clash, and_left, and_right, not_true, same_stage-true, same_stage-self}
use Rattle.pipe_laws.proofs.Lists.{weigh}
use Rattle.pipe_laws.proofs.Allowed.{legal_before, legal_step, unowed}
use Rattle.count_laws.proofs.Steps.{controls_within}
use Rattle.count_laws.proofs.Crashes.{ended_rests}
use Rattle.work_laws.specs.Work.{how_many, is_source_end, is_refusal}
use Rattle.work_laws.specs.Limits.{number_of_stages, most_source_ends}
use Rattle.work_laws.proofs.Keys.{Among, stage_numbers, weigh_most}
use Rattle.work_laws.proofs.Spread.{Counted, at_most_one, spread, how_many_grows, how_many_more}
use Rattle.work_laws.proofs.ByKind.{role_among}

-- Ends of sources

abbrev is_end_of : StageNo → Step → Bool
is_end_of s (SourceEnd t how) = same_stage s t
is_end_of s _ = false

-- the control source ends, or a producer's that has not ended
record Ending (topology : Topology) (before : History) (t : StageNo) : Type 0 where
  fresh : has_ended before t ≡ false
  there : Among t (stage 0 ∷ stage_numbers topology.stages)

ending : (topology : Topology) (before : History) (t : StageNo) (how : SourceHow) → is_legal topology (SourceEnd t how ∷ before) ≡ true → Ending topology before t
ending topology before t how h = by_stage (same_stage t (stage 0)) refl (unowed topology before (SourceEnd t how) (λ s. refl) (λ s. refl) (legal_step topology before (SourceEnd t how) h))
  where
    rested : has_role topology t is_producer_role ≡ true → same_stage t (stage 0) ≡ false → is_out before (post t 0) ≡ true → (b : Bool) → has_ended before t ≡ b → b ≡ false
    rested role own out true e = clash (is_out before (post t 0)) out (ended_rests topology before t (legal_before topology before (SourceEnd t how) h) role own e)
    rested role own out false e = refl

    by_stage : (b : Bool) → same_stage t (stage 0) ≡ b → (if b then not (has_ended before t) && same_truth (is_limit how) (controls before == 10000) else is_live topology before t && (has_role topology t is_producer_role && (is_current before t 0 && not (is_limit how)))) ≡ true → Ending topology before t
    by_stage true e row =
        record { fresh = not_true (has_ended before t) (and_left (not (has_ended before t)) _ row); there = inl (sym (same_stage-true t (stage 0) e)) }
    by_stage false e row =
        let role : has_role topology t is_producer_role ≡ true = and_left (has_role topology t is_producer_role) _ (and_right (is_live topology before t) _ row) in
        let current : is_current before t 0 ≡ true = and_left (is_current before t 0) _ (and_right (has_role topology t is_producer_role) _ (and_right (is_live topology before t) _ row)) in
        record {
          fresh = rested role e (and_left (is_out before (post t 0)) _ current) (has_ended before t) refl;
          there = inr (role_among topology t is_producer_role role);
        }

ends_within : (topology : Topology) (before : History) (s : StageNo) → is_legal topology before ≡ true → how_many (is_end_of s) before ≤ as_number (has_ended before s)
ends_within topology [] s h = omega arith
ends_within topology (step ∷ before) s h = by_step step h (ends_within topology before s (legal_before topology before step h))
  where
    or_more : (a b : Bool) → as_number b ≤ as_number (a || b)
    or_more true true = omega arith
    or_more true false = omega arith
    or_more false b = omega arith

    by_step : (step : Step) → is_legal topology (step ∷ before) ≡ true → how_many (is_end_of s) before ≤ as_number (has_ended before s) → how_many (is_end_of s) (step ∷ before) ≤ as_number (has_ended (step ∷ before) s)
    by_step (SourceEnd t how) l old = either (same_stage s t) refl
      where
        either : (b : Bool) → same_stage s t ≡ b → as_number b + how_many (is_end_of s) before ≤ as_number (b || has_ended before s)
        either true e =
            let none : as_number (has_ended before s) ≡ 0 = ap as_number (subst (λ x. has_ended before x ≡ false) (sym (same_stage-true s t e)) (ending topology before t how l).fresh) in
            omega (arith, old, none)
        either false e = omega (arith, old)
    by_step (Late t slot i answer) l old = omega (arith, old, or_more (ends_source s (Late t slot i answer)) (has_ended before s))
    by_step _ l old = omega (arith, old)

pub source_ends_all : (topology : Topology) (before : History) → IsSound topology → is_legal topology before ≡ true → how_many is_source_end before ≤ most_source_ends topology
source_ends_all topology before sound h =
    let all : how_many is_source_end before ≤ weigh (λ s. how_many (is_end_of s) before) (stage 0 ∷ stage_numbers topology.stages) = spread topology is_source_end (λ past s. how_many (is_end_of s) past) (stage 0 ∷ stage_numbers topology.stages) (record { grows = λ past step s. how_many_grows (is_end_of s) past step; counts = counts }) before h in
    let most : weigh (λ s. how_many (is_end_of s) before) (stage 0 ∷ stage_numbers topology.stages) ≤ suc (length (stage_numbers topology.stages)) * 1 = weigh_most (λ s. how_many (is_end_of s) before) 1 (stage 0 ∷ stage_numbers topology.stages) (λ s. omega (arith, ends_within topology before s h, at_most_one (has_ended before s))) in
    let long : length (stage_numbers topology.stages) ≡ number_of_stages topology = length-map topology.stages (λ (spec : StageSpec). spec.no) in
    omega (arith, all, most, long)
  where
    counts : (before : History) (step : Step) → is_legal topology (step ∷ before) ≡ true → is_source_end step ≡ true → Counted {K = StageNo} (λ past s. how_many (is_end_of s) past) (stage 0 ∷ stage_numbers topology.stages) before step
    counts before (SourceEnd t how) l e = record { key = t; there = (ending topology before t how l).there; more = how_many_more (is_end_of t) before (SourceEnd t how) (same_stage-self t) }
    counts before _ l e = let x : false ≡ true = e in cc

-- Drains

drains_within : (topology : Topology) (before : History) → is_legal topology before ≡ true → how_many is_drain before ≤ as_number (happened is_drain before)
drains_within topology [] h = omega arith
drains_within topology (step ∷ before) h = by_step step (legal_step topology before step h) (drains_within topology before (legal_before topology before step h))
  where
    by_step : (step : Step) → allows topology before step ≡ true → how_many is_drain before ≤ as_number (happened is_drain before) → how_many is_drain (step ∷ before) ≤ as_number (happened is_drain (step ∷ before))
    by_step (Drain cause) l old =
        let none : as_number (happened is_drain before) ≡ 0 = ap as_number (not_true (happened is_drain before) (and_left (not (happened is_drain before)) _ (unowed topology before (Drain cause) (λ s. refl) (λ s. refl) l))) in
        omega (arith, old, none)
    by_step _ l old = omega (arith, old)

pub drains_all : (topology : Topology) (before : History) → is_legal topology before ≡ true → how_many is_drain before ≤ 1
drains_all topology before h = omega (arith, drains_within topology before h, at_most_one (happened is_drain before))

-- Refusals

refusals_controls : (before : History) → how_many is_refusal before ≤ controls before
refusals_controls [] = omega arith
refusals_controls (Refuse line ∷ before) = omega (arith, refusals_controls before)
refusals_controls (Kill s KillWhy ∷ before) = omega (arith, refusals_controls before)
refusals_controls (Kill s Stop ∷ before) = omega (arith, refusals_controls before)
refusals_controls (Drain Control ∷ before) = omega (arith, refusals_controls before)
refusals_controls (step ∷ before) = omega (arith, refusals_controls before)

pub refusals_all : (topology : Topology) (before : History) → is_legal topology before ≡ true → how_many is_refusal before ≤ 10000
refusals_all topology before h = omega (arith, refusals_controls before, controls_within topology before h)
