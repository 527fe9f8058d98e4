-- The dispatch that an accept owes may come.
use Rattle.std.proofs.Common.{◌≡◌, ℕ, List, ◌∷◌, Bool, true, false, refl, ap, sym, ◌∙◌, Some, None, Option}
use Rattle.std.specs.Prelude.{◌||◌, not, if◌then◌else◌}
use Rattle.pipe_types.specs.declared.numbers.StageNo.{StageNo}
use Rattle.pipe_types.specs.declared.topology.Topology.{Topology}
use Rattle.pipe_types.specs.declared.topology.StageSpec.{StageSpec}
use Rattle.pipe_types.specs.declared.step.Step.TheVariants.{Accept, Dispatch}
use Rattle.pipe_types.specs.Sound.{IsSound}
use Rattle.pipe_types.specs.Stages.{spec_of}
use Rattle.pipe_model.specs.History.{History}
use Rattle.pipe_model.specs.Lives.{is_live}
use Rattle.pipe_model.specs.Flow.{is_batcher}
use Rattle.pipe_model.specs.Legal.{is_legal, allows, may_dispatch, happened, is_halt, is_dispatch_of, passes}
use Rattle.pipe_laws.proofs.Tests.{and_left, both, same_stage-self}
use Rattle.core_accepts.proofs.Bringing.{bringing, there, Bringing}
use Rattle.core_accepts.proofs.Planning.{no_batcher}

-- the producer lives after its accept
pub live_then : (topology after : Topology) (before steps : History) (s : StageNo) (records : List (List ℕ)) → after ≡ topology → steps ≡ Accept s records ∷ before
    → IsSound topology → is_legal topology before ≡ true → allows topology before (Accept s records) ≡ true → is_live after steps s ≡ true
live_then topology after before steps s records same is sound legal h =
    (λ i. is_live (same i) (is i) s) ∙ (bringing topology before s records sound legal h).law.live

-- it is no batcher
pub messages_then : (topology after : Topology) (before : History) (s : StageNo) (records : List (List ℕ)) → after ≡ topology
    → IsSound topology → is_legal topology before ≡ true → allows topology before (Accept s records) ≡ true → is_batcher (spec_of after s) ≡ false
messages_then topology after before s records same sound legal h =
    ap (λ (t : Topology). is_batcher (spec_of t s)) same ∙ by (spec_of topology s) refl
  where
    b : Bringing topology before s records
    b = bringing topology before s records sound legal h

    by : (o : Option StageSpec) → spec_of topology s ≡ o → is_batcher (spec_of topology s) ≡ false
    by None e = absurd (there topology s b.known (sym e))
    by (Some spec) e = no_batcher topology s spec e (b.role spec e)

-- and its dispatch is legal where it may come
pub legal_then : (topology after : Topology) (before steps : History) (s : StageNo) (records : List (List ℕ)) → after ≡ topology → steps ≡ Accept s records ∷ before
    → allows topology before (Accept s records) ≡ true → may_dispatch after steps s ≡ true → allows after steps (Dispatch s) ≡ true
legal_then topology after before steps s records same is h may =
    (λ i. allows (same i) (is i) (Dispatch s)) ∙ both (not (happened is_halt before) || false) (owes (may_dispatch topology (Accept s records ∷ before) s)) going owed_here
  where
    owes : Bool → Bool
    owes b = passes (if b then Some (is_dispatch_of s) else None) (Dispatch s) (may_dispatch topology (Accept s records ∷ before) s)

    going : (not (happened is_halt before) || false) ≡ true
    going = and_left (not (happened is_halt before) || false) _ h

    owed_here : owes (may_dispatch topology (Accept s records ∷ before) s) ≡ true
    owed_here = ap owes (sym (λ i. may_dispatch (same i) (is i) s) ∙ may) ∙ same_stage-self s
