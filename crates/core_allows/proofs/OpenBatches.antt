-- Which trigger holds of the open batch that begins with a message.
use Rattle.std.proofs.Common.{◌≡◌, ℕ, ◌≤◌, List, [], ◌∷◌, length, Bool, true, false, refl, ap, sym, ◌∙◌, Option, Some, None, All, arith, get_or}
use Rattle.std.specs.Prelude.{◌&&◌, ◌==◌, slice_get, is_some}
use Rattle.std.proofs.lemmas.Bool.{eqb-true}
use Rattle.std.proofs.lemmas.Option.{slice_get_read}
use Rattle.pipe_types.specs.declared.numbers.StageNo.{StageNo}
use Rattle.pipe_types.specs.declared.numbers.MsgNo.{MsgNo}
use Rattle.pipe_types.specs.declared.message.Trigger.{Trigger}
use Rattle.pipe_types.specs.declared.topology.Topology.{Topology}
use Rattle.pipe_types.specs.declared.topology.StageSpec.{StageSpec}
use Rattle.pipe_types.specs.Sound.{IsSound}
use Rattle.pipe_types.specs.Stages.{spec_of}
use Rattle.pipe_model.specs.History.{History}
use Rattle.pipe_model.specs.Content.{content, key_in}
use Rattle.pipe_model.specs.Flow.{view_of, closing, first_in}
use Rattle.pipe_model.specs.Legal.{is_batcher_role, has_role, trigger_of, same_trigger, is_dry}
use Rattle.pipe_model.specs.Standing.{gathered_in, of_key}
use Rattle.pipe_laws.proofs.Tests.{clash}
use Rattle.queue_laws.proofs.Laws.{open_law}
use Rattle.stage_laws.proofs.Numbering.{numbered_topology}
use Rattle.batcher.specs.Batches.{Batches, IsClosable, first_of, trigger_of as held_trigger}
use Rattle.batcher.specs.declared.Closable.{Closable}
use Rattle.core_tables.specs.declared.rows.Totals.{Totals}
use Rattle.core_laws.specs.Columns.{open_of, keys_of}
use Rattle.core_laws.proofs.Past.{known_within}
use Rattle.core_state.specs.declared.state.Core.{Core}
use Rattle.core_state.specs.Stands.{Stands}
use Rattle.core_batches.proofs.Removing.{open_at, first_is, key_of_first}
use Rattle.core_batches.proofs.Closing.{IsHeld, held_by, trigger_is, untriggered}
use Rattle.core_rows.proofs.Fetched.{self}

-- a batcher is a stage of the topology
batcher_spec : (topology : Topology) (s : StageNo) → has_role topology s is_batcher_role ≡ true → (spec : StageSpec) × (spec_of topology s ≡ Some spec)
batcher_spec topology s role = by (spec_of topology s) refl
  where
    by : (o : Option StageSpec) → spec_of topology s ≡ o → (spec : StageSpec) × (spec_of topology s ≡ Some spec)
    by None e = let none : has_role topology s is_batcher_role ≡ false = rw e refl in clash (has_role topology s is_batcher_role) role none
    by (Some spec) e = (spec, e)

pub batcher_within : (topology : Topology) (s : StageNo) → IsSound topology → has_role topology s is_batcher_role ≡ true → s.0 ≤ length topology.stages
batcher_within topology s sound role = (known_within topology s (numbered_topology topology sound) (ap is_some (batcher_spec topology s role).1)).1

-- the batcher that is read is the stage's
pub held_at : (core : Core) (s : StageNo) (held : Batches) → Stands core → has_role core.topology s is_batcher_role ≡ true → held ≡ get_or core.batchers.items s.0 held → IsHeld core s held
held_at core s held x role read =
    let f = batcher_spec core.topology s role in
    held_by core s f.0 held x f.1
    (slice_get_read core.batchers.items (length core.batchers.items) s.0 held refl (omega (arith, batcher_within core.topology s x.holds.sound role, x.holds.fields.sized.batchers)) read)

-- the open batch that was found is the message's, and its trigger the rule's
pub closes_some : (core : Core) (s : StageNo) (first : MsgNo) (held : Batches) (dry : Bool) (found : Closable) (trigger : Trigger) → Stands core → IsHeld core s held
    → dry ≡ is_dry core.topology core.journal.steps s → 1 ≤ first.0 → IsClosable held core.totals.now dry found → found.first ≡ first
    → same_trigger (Some found.trigger) trigger
    ≡ (first.0 == first_in (closing core.journal.steps (view_of core.topology core.journal.steps) s first.0)
    && same_trigger (trigger_of core.topology core.journal.steps s (closing core.journal.steps (view_of core.topology core.journal.steps) s first.0)) trigger)
closes_some core s first held dry found trigger stands h dries least is same =
    let t = core.topology in
    let before = core.journal.steps in
    let ns = gathered_in t before s in
    let o = open_at (open_of before ns) (keys_of before ns) found.at is.batch (ap (λ bs. slice_get bs found.at) (sym h.opens) ∙ is.there) in
    let firsts : first.0 ≡ first_of is.batch = ap (λ (m : MsgNo). m.0) (sym same) ∙ is.first in
    let begins : first_in (of_key before o.0 ns) ≡ first.0 = sym (first_is (of_key before o.0 ns)) ∙ (ap first_of o.2 ∙ sym firsts) in
    let low : 1 ≤ first_in (of_key before o.0 ns) = omega (arith, begins, least) in
    let keyed : key_in (content before first.0) ≡ o.0 = ap (λ n. key_in (content before n)) (sym begins) ∙ key_of_first before o.0 ns low in
    let closes : closing before (view_of t before) s first.0 ≡ of_key before o.0 ns = open_law t before s (key_in (content before first.0)) ∙ ap (λ k. of_key before k ns) keyed in
    let rule : trigger_of t before s (closing before (view_of t before) s first.0) ≡ Some found.trigger =
    ap (trigger_of t before s) closes
    ∙ (sym (trigger_is t before s held o.0 core.totals.now dry h.size h.timeout (ap (λ (y : Totals). y.now) stands.holds.fields.totals) dries)
    ∙ (ap (held_trigger held core.totals.now dry) o.2 ∙ is.trigger)) in
    let starts : (first.0 == first_in (closing before (view_of t before) s first.0)) ≡ true = ap (λ n. first.0 == n) (ap first_in closes ∙ begins) ∙ self first.0 in
    sym (ap (λ b. b && same_trigger (trigger_of t before s (closing before (view_of t before) s first.0)) trigger) starts ∙ ap (λ x. same_trigger x trigger) rule)

-- where none that begins with the message has a trigger, none holds of it
pub closes_none : (core : Core) (s : StageNo) (first : MsgNo) (held : Batches) (dry : Bool) (trigger : Trigger) → Stands core → IsHeld core s held
    → dry ≡ is_dry core.topology core.journal.steps s → 1 ≤ first.0 → All (λ batch. first_of batch ≡ first.0 → held_trigger held core.totals.now dry batch ≡ None) held.batches
    → false
    ≡ (first.0 == first_in (closing core.journal.steps (view_of core.topology core.journal.steps) s first.0)
    && same_trigger (trigger_of core.topology core.journal.steps s (closing core.journal.steps (view_of core.topology core.journal.steps) s first.0)) trigger)
closes_none core s first held dry trigger stands h dries least all = by (first.0 == first_in (closing core.journal.steps (view_of core.topology core.journal.steps) s first.0)) refl
  where
    t : Topology
    t = core.topology

    before : History
    before = core.journal.steps

    ns : List ℕ
    ns = gathered_in core.topology core.journal.steps s

    key : List ℕ
    key = key_in (content core.journal.steps first.0)

    closes : closing core.journal.steps (view_of core.topology core.journal.steps) s first.0 ≡ of_key core.journal.steps (key_in (content core.journal.steps first.0)) (gathered_in core.topology core.journal.steps s)
    closes = open_law core.topology core.journal.steps s (key_in (content core.journal.steps first.0))

    by : (b : Bool) → (first.0 == first_in (closing before (view_of t before) s first.0)) ≡ b
        → false ≡ (first.0 == first_in (closing before (view_of t before) s first.0) && same_trigger (trigger_of t before s (closing before (view_of t before) s first.0)) trigger)
    by false e = sym (ap (λ b. b && same_trigger (trigger_of t before s (closing before (view_of t before) s first.0)) trigger) e)
    by true e =
        let begins : first.0 ≡ first_in (closing before (view_of t before) s first.0) = eqb-true first.0 (first_in (closing before (view_of t before) s first.0)) e in
        let firsts : first_in (of_key before key ns) ≡ first.0 = sym (begins ∙ ap first_in closes) in
        let none = untriggered core s held dry key first.0 h all least firsts in
        let rule : trigger_of t before s (closing before (view_of t before) s first.0) ≡ None =
        ap (trigger_of t before s) closes
        ∙ (sym (trigger_is t before s held key core.totals.now dry h.size h.timeout (ap (λ (y : Totals). y.now) stands.holds.fields.totals) dries) ∙ none) in
        sym (ap (λ b. b && same_trigger (trigger_of t before s (closing before (view_of t before) s first.0)) trigger) e ∙ ap (λ x. same_trigger x trigger) rule)
