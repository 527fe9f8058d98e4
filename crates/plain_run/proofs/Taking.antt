-- What is known of a take and of a child's start that are legal.
use Rattle.std.proofs.Common.{◌≡◌, ℕ, ◌<◌, ◌≤◌, List, [], ◌∷◌, length, take, true, false, refl, ap, sym, ◌∙◌, Some, Option, All}
use Rattle.std.specs.Prelude.{◌==◌, ◌&&◌, ◌||◌, not}
use Rattle.std.proofs.lemmas.Bool.{eq-eqb}
use Rattle.pipe_types.specs.declared.numbers.StageNo.{StageNo}
use Rattle.pipe_types.specs.declared.numbers.SubNo.{SubNo}
use Rattle.pipe_types.specs.declared.numbers.MsgNo.{MsgNo}
use Rattle.pipe_types.specs.declared.topology.Topology.{Topology}
use Rattle.pipe_types.specs.declared.topology.StageSpec.{StageSpec}
use Rattle.pipe_types.specs.declared.step.Step.TheVariants.{Take, Child}
use Rattle.pipe_types.specs.Numbers.{same_stage, post}
use Rattle.pipe_types.specs.Stages.{spec_of}
use Rattle.pipe_model.specs.History.{History}
use Rattle.pipe_model.specs.Posts.{is_out}
use Rattle.pipe_model.specs.Flow.{inbox, units_on}
use Rattle.pipe_model.specs.Jobs.{take_first, take_step, may_take_next, allows_some}
use Rattle.pipe_model.specs.Legal.{allows, first_sub, chunk_size, has_role, is_processor_role}
use Rattle.pipe_laws.proofs.Tests.{same_sub-true, same_stage-self, both}
use Rattle.pipe_laws.proofs.Allowed.{take_facts}
use Rattle.stage_laws.proofs.Numbering.{numbered_topology}
use Rattle.core_laws.proofs.Lawful.{lawful, legal_after}
use Rattle.core_laws.proofs.Past.{known_within, live_known, out_post}
use Rattle.core_state.specs.declared.state.Core.{Core}
use Rattle.core_state.specs.Stands.{Holds}

-- a take that is allowed is the next one
pub take_next : (topology : Topology) (before : History) (s : StageNo) (u : SubNo) (k : ℕ) → allows topology before (Take s u k) ≡ true → take_step topology before s ≡ Some (Take s u k)
take_next topology before s u k h = let facts = take_facts topology before s u k h in by (spec_of topology s) (inbox topology before s) facts.first facts.size
  where
    by : (o : Option StageSpec) (xs : List (SubNo × ℕ)) → first_sub xs u ≡ true → k ≡ chunk_size o (length (units_on u xs)) → take_first o s xs ≡ Some (Take s u k)
    by o [] first size = cc
    by o (d ∷ xs) first size =
        let same : d.0 ≡ u = same_sub-true d.0 u first in
        ap (λ (v : SubNo). Some (Take s v (chunk_size o (length (units_on v (d ∷ xs)))))) same ∙ ap (λ (n : ℕ). Some (Take s u n)) (sym size)

pub take_may : (topology : Topology) (before : History) (s : StageNo) (u : SubNo) (k : ℕ) → allows topology before (Take s u k) ≡ true → may_take_next topology before s ≡ true
take_may topology before s u k h = ap (allows_some topology before) (take_next topology before s u k h) ∙ h

-- the stage has a row
pub take_within : (core : Core) (s : StageNo) (u : SubNo) (k : ℕ) → Holds core → allows core.topology core.journal.steps (Take s u k) ≡ true → s.0 ≤ length core.topology.stages
take_within core s u k x h =
    (known_within core.topology s (numbered_topology core.topology x.sound) (live_known core.topology core.journal.steps s (take_facts core.topology core.journal.steps s u k h).live)).1

-- a processor takes numbers from 1
pub take_low : (core : Core) (s : StageNo) (u : SubNo) (k : ℕ) → Holds core → allows core.topology core.journal.steps (Take s u k) ≡ true → has_role core.topology s is_processor_role ≡ true
    → All (λ n. 1 ≤ n) (take k (units_on u (inbox core.topology core.journal.steps s)))
take_low core s u k x h role j d below = ((lawful.take core.topology core.journal.steps s u k x.sound x.legal role h).numbered j d below).0

-- a child's slot is one of sixteen, and its stage has a row
pub child_low : (core : Core) (s : StageNo) (m : MsgNo) (slot : ℕ) → Holds core → allows core.topology core.journal.steps (Child s m slot) ≡ true → (slot < 16) × (s.0 ≤ length core.topology.stages)
child_low core s m slot x h =
    let puts : is_out (Child s m slot ∷ core.journal.steps) (post s slot) ≡ true =
    ap (λ b. b || (not false && is_out core.journal.steps (post s slot))) (both (same_stage s s) (slot == slot) (same_stage-self s) (eq-eqb slot slot refl)) in
    let p = out_post core.topology (Child s m slot ∷ core.journal.steps) s slot x.sound (legal_after core.topology core.journal.steps (Child s m slot) x.legal h) puts in
    (p.low, (known_within core.topology s (numbered_topology core.topology x.sound) p.known).1)
