use Rattle.std.proofs.Common.{◌≡◌, true, false, ap, ◌∙◌}
use Rattle.std.specs.Prelude.{◌&&◌, not}
use Rattle.pipe_model.specs.Legal.{needs_restart, no_post_out, may_restart}
use Rattle.core_allows.proofs.Held.{tested_first}
use Rattle.core_allows.proofs.lives.is_over_limit.Goals as goal

pub returns-then-is_ready_to_restart : goal.returns-then-is_ready_to_restart
returns-then-is_ready_to_restart c =
    let t = c.args.core.now.topology in
    let h = c.args.core.now.journal.steps in
    let s = c.args.spec.now.no in
    ap not c.may_restart.ensures
    ∙ tested_first (needs_restart t h s) (no_post_out t h s) (not (may_restart t h s)) c.is_ready_to_restart.result true c.is_ready_to_restart.ensures c.if-is_ready_to_restart.true

pub returns-else-is_ready_to_restart : goal.returns-else-is_ready_to_restart
returns-else-is_ready_to_restart c =
    let t = c.args.core.now.topology in
    let h = c.args.core.now.journal.steps in
    let s = c.args.spec.now.no in
    c.if-is_ready_to_restart.false
    ∙ tested_first (needs_restart t h s) (no_post_out t h s) (not (may_restart t h s)) c.is_ready_to_restart.result false c.is_ready_to_restart.ensures c.if-is_ready_to_restart.false
