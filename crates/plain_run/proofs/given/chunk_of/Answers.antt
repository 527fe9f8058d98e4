use Rattle.std.proofs.Common.{◌≡◌, ◌≤◌, ℕ, List, ◌∙◌, ap, sym, subst, All}
use Rattle.std.specs.Prelude.{IfOk}
use Rattle.pipe_types.specs.declared.message.Message.{Message}
use Rattle.pipe_model.specs.Work.{messages_of}
use Rattle.core_tables.specs.Tables.{list_at}
use Rattle.plain_run.proofs.given.chunk_of.Goals as goal

pub copies_of-requires-clause-least : goal.copies_of-requires-clause-least
copies_of-requires-clause-least c =
    subst (All (λ (n : ℕ). 1 ≤ n)) (sym (c.taken_in.ensures ∙ (ap (λ rows. list_at rows c.args.stage) c.deref.ensures.value ∙ c.requires.works.taken c.args.stage))) (c.requires.works.least c.args.stage c.requires.processor)

pub returns : goal.returns
returns c =
    subst (λ (ms : List Message). IfOk c.copies_of.result (λ messages. messages.items ≡ ms))
    (ap (messages_of c.args.core.now.journal.steps) (c.taken_in.ensures ∙ (ap (λ rows. list_at rows c.args.stage) c.deref.ensures.value ∙ c.requires.works.taken c.args.stage))) c.copies_of.ensures
