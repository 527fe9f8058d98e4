use Rattle.std.proofs.Common.{◌≡◌, true, sym, subst}
use Rattle.stage_callback.specs.Callbacks.{is_batch_answer}
use Rattle.stage_callback.proofs.Shapes.{batch_shape}
use Rattle.stage_callback.proofs.handler.Handler.batch.Goals as goal

pub returns-clause-shape : goal.returns-clause-shape
returns-clause-shape c =
    subst (λ reply. is_batch_answer c.args.messages.now reply ≡ true) (sym c.in_ok-reply.ensures.reply)
    (batch_shape c.args.kind c.args.self.now.spec c.args.self.now.count c.args.messages.now)
