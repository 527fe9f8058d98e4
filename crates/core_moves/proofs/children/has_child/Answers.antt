use Rattle.std.proofs.Common.{ℕ, ◌∙◌, arith, sym, Bool}
use Rattle.pipe_types.specs.declared.step.Step.TheVariants.{Child}
use Rattle.pipe_types.specs.Numbers.{message_no}
use Rattle.pipe_model.specs.Legal.{allows}
use Rattle.pipe_model.specs.Moves.{next_in_slot}
use Rattle.core_rows.proofs.Finding.{slot_out, slot_home, slots_end}
use Rattle.core_moves.proofs.children.has_child.Goals as goal

pub returns-then-may_start : goal.returns-then-may_start
returns-then-may_start c =
    let test : ℕ → Bool = λ k. allows c.args.core.now.topology c.args.core.now.journal.steps (Child c.args.spec.now.no (message_no (next_in_slot c.args.core.now.topology c.args.core.now.journal.steps c.args.spec.now.no k)) k) in
    sym (slot_out test c.loop-slot.slot (omega arith) (sym c.may_start.ensures ∙ c.if-may_start.true)) ∙ c.loop-slot.invariant

pub loop-slot-preserved : goal.loop-slot-preserved
loop-slot-preserved c =
    let test : ℕ → Bool = λ k. allows c.args.core.now.topology c.args.core.now.journal.steps (Child c.args.spec.now.no (message_no (next_in_slot c.args.core.now.topology c.args.core.now.journal.steps c.args.spec.now.no k)) k) in
    slot_home test c.loop-slot.slot (omega arith) (sym c.may_start.ensures ∙ c.if-may_start.false) ∙ c.loop-slot.invariant

pub returns : goal.returns
returns c =
    let test : ℕ → Bool = λ k. allows c.args.core.now.topology c.args.core.now.journal.steps (Child c.args.spec.now.no (message_no (next_in_slot c.args.core.now.topology c.args.core.now.journal.steps c.args.spec.now.no k)) k) in
    sym (slots_end test c.loop-slot.slot (omega arith)) ∙ c.loop-slot.invariant
