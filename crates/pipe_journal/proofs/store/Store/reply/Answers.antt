use Rattle.std.proofs.Common.{sym, ap}
use Rattle.std.specs.Prelude.{Option, unwrap_or}
use Rattle.pipe_types.specs.declared.message.Reply.{Reply}
use Rattle.pipe_journal.proofs.store.Store.reply.Goals as goal

pub returns : goal.returns
returns c = sym (ap (λ (found : Option Reply). unwrap_or found Reply.Crashed) c.reply.ensures)
