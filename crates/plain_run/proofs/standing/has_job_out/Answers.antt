use Rattle.std.proofs.Common.{ℕ, ◌∙◌, arith, sym, Bool}
use Rattle.pipe_types.specs.Numbers.{post}
use Rattle.pipe_model.specs.Posts.{is_out}
use Rattle.core_rows.proofs.Finding.{slot_out, slot_home, slots_end}
use Rattle.plain_run.proofs.standing.has_job_out.Goals as goal

pub returns-then-is_out : goal.returns-then-is_out
returns-then-is_out c =
    let test : ℕ → Bool = λ k. is_out c.args.core.now.journal.steps (post c.args.stage k) in
    sym (slot_out test c.loop-slot.slot (omega arith) (sym c.is_out.ensures ∙ c.if-is_out.true)) ∙ c.loop-slot.invariant

pub loop-slot-preserved : goal.loop-slot-preserved
loop-slot-preserved c =
    let test : ℕ → Bool = λ k. is_out c.args.core.now.journal.steps (post c.args.stage k) in
    slot_home test c.loop-slot.slot (omega arith) (sym c.is_out.ensures ∙ c.if-is_out.false) ∙ c.loop-slot.invariant

pub returns : goal.returns
returns c =
    let test : ℕ → Bool = λ k. is_out c.args.core.now.journal.steps (post c.args.stage k) in
    sym (slots_end test c.loop-slot.slot (omega arith)) ∙ c.loop-slot.invariant
