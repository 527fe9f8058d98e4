use Rattle.std.proofs.Common.{◌≡◌, true, sym, subst}
use Rattle.pipe_types.specs.Handlers.{is_own_reply}
use Rattle.stage_callback.proofs.Shapes.{eval_shape}
use Rattle.stage_callback.proofs.handler.Handler.message.Goals as goal

pub returns-clause-shape : goal.returns-clause-shape
returns-clause-shape c = λ is_for.
    subst (λ reply. is_own_reply c.args.self.now.spec.batchers c.args.message reply ≡ true) (sym c.in_ok-reply.ensures)
    (eval_shape c.args.self.now.spec c.args.self.now.count c.args.message c.args.self.now.armed is_for)
