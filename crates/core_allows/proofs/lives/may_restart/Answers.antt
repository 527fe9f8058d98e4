use Rattle.std.proofs.Common.{◌≡◌, ◌∙◌, ap, sym, true, false}
use Rattle.std.specs.Prelude.{◌&&◌}
use Rattle.pipe_types.specs.declared.numbers.StageNo.{StageNo}
use Rattle.pipe_model.specs.Legal.{needs_restart, no_post_out, may_restart}
use Rattle.move_laws.proofs.Still.{found_no}
use Rattle.core_allows.proofs.Held.{found_there, tested_first}
use Rattle.core_allows.proofs.lives.may_restart.Goals as goal

pub is_ready_to_restart-requires-clause-there : goal.is_ready_to_restart-requires-clause-there
is_ready_to_restart-requires-clause-there c = found_there c.args.core.now.topology c.args.stage c.in-Some.spec.now (sym c.in-Some.ensures)

pub returns-then-is_ready_to_restart : goal.returns-then-is_ready_to_restart
returns-then-is_ready_to_restart c =
    let t = c.args.core.now.topology in
    let h = c.args.core.now.journal.steps in
    let s = c.args.stage in
    c.may_restart.ensures
    ∙ tested_first (needs_restart t h s) (no_post_out t h s) (may_restart t h s) c.is_ready_to_restart.result true
    (c.is_ready_to_restart.ensures ∙ ap (λ (u : StageNo). needs_restart t h u && no_post_out t h u) (found_no t s c.in-Some.spec.now (sym c.in-Some.ensures))) c.if-is_ready_to_restart.true

pub returns-else-is_ready_to_restart : goal.returns-else-is_ready_to_restart
returns-else-is_ready_to_restart c =
    let t = c.args.core.now.topology in
    let h = c.args.core.now.journal.steps in
    let s = c.args.stage in
    c.if-is_ready_to_restart.false
    ∙ tested_first (needs_restart t h s) (no_post_out t h s) (may_restart t h s) c.is_ready_to_restart.result false
    (c.is_ready_to_restart.ensures ∙ ap (λ (u : StageNo). needs_restart t h u && no_post_out t h u) (found_no t s c.in-Some.spec.now (sym c.in-Some.ensures))) c.if-is_ready_to_restart.false
