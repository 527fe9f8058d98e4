-- Why the drain of a legal journal began.
use Rattle.std.proofs.Common.{◌≡◌, List, [], ◌∷◌, Bool, true, false, refl, sym, ap, ◌∙◌, Some}
use Rattle.std.specs.Prelude.{◌||◌, not, if◌then◌else◌, find}
use Rattle.std.specs.List.{list_all}
use Rattle.std.proofs.lemmas.Bool.{or_right}
use Rattle.pipe_types.specs.declared.numbers.StageNo.{StageNo}
use Rattle.pipe_types.specs.declared.topology.StageSpec.{StageSpec}
use Rattle.pipe_types.specs.declared.topology.Topology.{Topology}
use Rattle.pipe_types.specs.declared.step.DrainCause.{DrainCause}
use Rattle.pipe_types.specs.declared.step.DrainCause.TheVariants.{Sources, Control, Limit, Idle}
use Rattle.pipe_types.specs.declared.step.Step.{Step}
use Rattle.pipe_types.specs.declared.step.Step.TheVariants.{Drain}
use Rattle.pipe_types.specs.Numbers.{same_stage}
use Rattle.pipe_types.specs.Stages.{spec_in}
use Rattle.pipe_model.specs.History.{History}
use Rattle.pipe_model.specs.Legal.{is_legal, happened, is_drain, has_ended, ends_source, all_ended, drains_for, has_role, is_producer_role}
use Rattle.pipe_laws.proofs.Allowed.{legal_before, legal_step, unowed}
use Rattle.pipe_laws.proofs.Tests.{and_left, and_right, same_stage-true}
use Rattle.body_laws.proofs.Posts.{some_role}
use Rattle.pipe_top.specs.Runs.{is_limit_drain, is_control_drain, is_idle_drain}

-- every producer's source has ended
abbrev pub AreEnded : Topology → History → Type 0
AreEnded topology before = (p : StageNo) → has_role topology p is_producer_role ≡ true → has_ended before p ≡ true

-- why a drain began: a limit was reached, every source had ended, a control line asked for it, or the idle limit was reached
pub data HasCause (topology : Topology) (before : History) : Type 0 where
  limited : happened is_limit_drain before ≡ true → HasCause topology before
  ended : AreEnded topology before → HasCause topology before
  controlled : happened is_control_drain before ≡ true → HasCause topology before
  rested : happened is_idle_drain before ≡ true → HasCause topology before

-- ---- a cause stays

kept : (topology : Topology) (step : Step) (before : History) → HasCause topology before → HasCause topology (step ∷ before)
kept topology step before (limited h) = limited (or_right (is_limit_drain step) (happened is_limit_drain before) h)
kept topology step before (ended each) = ended (λ p role. or_right (ends_source p step) (has_ended before p) (each p role))
kept topology step before (controlled h) = controlled (or_right (is_control_drain step) (happened is_control_drain before) h)
kept topology step before (rested h) = rested (or_right (is_idle_drain step) (happened is_idle_drain before) h)

-- ---- the first drain

found_ended : (before : History) (s : StageNo) (spec : StageSpec) (specs : List StageSpec) → list_all (λ spec. not (is_producer_role spec.role) || has_ended before spec.no) specs ≡ true
    → spec_in specs s ≡ Some spec → is_producer_role spec.role ≡ true → has_ended before s ≡ true
found_ended before s spec [] all found role = cc
found_ended before s spec (x ∷ specs) all found role =
    either (same_stage x.no s) refl found (found_ended before s spec specs (and_right (not (is_producer_role x.role) || has_ended before x.no) _ all))
  where
    by_role : (b : Bool) → b ≡ true → (not b || has_ended before x.no) ≡ true → has_ended before x.no ≡ true
    by_role true e h = h
    by_role false e h = cc

    either : (b : Bool) → same_stage x.no s ≡ b → (if b then Some x else find (λ y. same_stage y.no s) specs) ≡ Some spec
        → (find (λ y. same_stage y.no s) specs ≡ Some spec → is_producer_role spec.role ≡ true → has_ended before s ≡ true) → has_ended before s ≡ true
    either true e is rest =
        let same : x ≡ spec = cc in
        let here : is_producer_role x.role ≡ true = ap (λ (y : StageSpec). is_producer_role y.role) same ∙ role in
        ap (has_ended before) (sym (same_stage-true x.no s e)) ∙ by_role (is_producer_role x.role) here (and_left (not (is_producer_role x.role) || has_ended before x.no) _ all)
    either false e is rest = rest is role

all_are_ended : (topology : Topology) (before : History) → all_ended topology before ≡ true → AreEnded topology before
all_are_ended topology before all p role =
    let found = some_role topology p is_producer_role role in
    found_ended before p found.0 topology.stages all found.1 found.2

begun : (topology : Topology) (before : History) (cause : DrainCause) → is_legal topology (Drain cause ∷ before) ≡ true → HasCause topology (Drain cause ∷ before)
begun topology before cause legal =
    by_cause cause (legal_before topology before (Drain cause) legal)
    (and_right (not (happened is_drain before)) _ (unowed topology before (Drain cause) (λ u. refl) (λ u. refl) (legal_step topology before (Drain cause) legal)))
  where
    by_cause : (cause : DrainCause) → is_legal topology before ≡ true → drains_for topology before cause ≡ true → HasCause topology (Drain cause ∷ before)
    by_cause Limit legal h = limited refl
    by_cause Sources legal h = ended (all_are_ended topology before h)
    by_cause Control legal h = controlled refl
    by_cause Idle legal h = rested refl

-- a drain began for a cause
pub drain_shows : (topology : Topology) (before : History) → is_legal topology before ≡ true → happened is_drain before ≡ true → HasCause topology before
drain_shows topology [] legal h = cc
drain_shows topology (step ∷ before) legal h = by_step step legal h (drain_shows topology before (legal_before topology before step legal))
  where
    by_step : (step : Step) → is_legal topology (step ∷ before) ≡ true → happened is_drain (step ∷ before) ≡ true → (happened is_drain before ≡ true → HasCause topology before) → HasCause topology (step ∷ before)
    by_step (Drain cause) legal h old = begun topology before cause legal
    by_step step legal h old = kept topology step before (old h)
