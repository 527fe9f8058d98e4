-- A start that names its slot.
use Rattle.std.proofs.Common.{◌≡◌, ℕ, ◌<◌, length, Bool, true, false, refl, ap, sym, ◌∙◌, Some, None, Option, arith}
use Rattle.std.specs.Prelude.{is_some}
use Rattle.pipe_types.specs.declared.numbers.StageNo.{StageNo}
use Rattle.pipe_types.specs.declared.numbers.MsgNo.{MsgNo}
use Rattle.pipe_types.specs.declared.topology.Topology.{Topology}
use Rattle.pipe_types.specs.declared.step.Step.TheVariants.{Child}
use Rattle.pipe_laws.proofs.Tests.{clash}
use Rattle.pipe_laws.proofs.Allowed.{child_facts}
use Rattle.pipe_model.specs.History.{History}
use Rattle.pipe_model.specs.Posts.{in_slot, crashes}
use Rattle.pipe_model.specs.Legal.{allows, runs_number}
use Rattle.stage_laws.proofs.Numbering.{numbered_topology}
use Rattle.core_laws.specs.Slots.{child_if, child_of}
use Rattle.core_laws.proofs.Children.{child_is}
use Rattle.core_laws.proofs.Past.{known_within, live_known}
use Rattle.core_state.specs.declared.state.Core.{Core}
use Rattle.core_state.specs.Stands.{Holds, child_at}
use Rattle.core_children.specs.Slots.{slots_at}
use Rattle.core_children.proofs.Fresh.{idle_slot}
use Rattle.core_children.proofs.Next.{new_start, slots_len}

none_runs : (topology : Topology) (before : History) (s : StageNo) (o : Option ℕ) → runs_number topology before s o ≡ false → child_of topology before s o ≡ None
none_runs topology before s None e = refl
none_runs topology before s (Some n) e = ap (λ b. child_if b n (crashes before n)) e

-- the child that the slot has runs its message again
pub taken_runs : (core : Core) (s : StageNo) (slot : ℕ) → Holds core → is_some (child_at core.children.items s slot) ≡ true
    → runs_number core.topology core.journal.steps s (in_slot core.journal.steps s slot) ≡ true
taken_runs core s slot x some = by (runs_number core.topology core.journal.steps s (in_slot core.journal.steps s slot)) refl
  where
    by : (b : Bool) → runs_number core.topology core.journal.steps s (in_slot core.journal.steps s slot) ≡ b → runs_number core.topology core.journal.steps s (in_slot core.journal.steps s slot) ≡ true
    by true e = e
    by false e =
        let none : child_at core.children.items s slot ≡ None =
        x.fields.children s slot ∙ (child_is core.topology core.journal.steps s slot x.legal ∙ none_runs core.topology core.journal.steps s (in_slot core.journal.steps s slot) e) in
        clash (is_some (child_at core.children.items s slot)) some (ap is_some none)

-- the stage of a child that starts has a row
pub named_within : (core : Core) (s : StageNo) (m : MsgNo) (slot : ℕ) → Holds core → allows core.topology core.journal.steps (Child s m slot) ≡ true → s.0 < length core.children.items
named_within core s m slot x allowed =
    let facts = child_facts core.topology core.journal.steps s m slot allowed in
    let within = (known_within core.topology s (numbered_topology core.topology x.sound) (live_known core.topology core.journal.steps s facts.live)).1 in
    omega (arith, within, x.fields.sized.children)

-- a free slot in which a child may start is one of the stage's
pub named_slot : (core : Core) (s : StageNo) (m : MsgNo) (slot : ℕ) → Holds core → allows core.topology core.journal.steps (Child s m slot) ≡ true
    → child_at core.children.items s slot ≡ None → slot < length (slots_at core.children.items s)
named_slot core s m slot x allowed none =
    let facts = child_facts core.topology core.journal.steps s m slot allowed in
    let within = (known_within core.topology s (numbered_topology core.topology x.sound) (live_known core.topology core.journal.steps s facts.live)).1 in
    let idle = idle_slot core.topology core.journal.steps s slot x.legal (sym (x.fields.children s slot) ∙ none) in
    let new = new_start core.topology core.journal.steps s m slot allowed idle in
    omega (arith, slots_len core s x facts.role within, new.below)

pub is_none_of : {A : Type 0} (o : Option A) → is_some o ≡ false → o ≡ None
is_none_of None e = refl
is_none_of (Some a) e = cc
