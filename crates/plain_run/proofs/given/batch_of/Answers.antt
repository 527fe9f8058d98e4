use Rattle.std.proofs.Common.{◌≡◌, ◌≤◌, ℕ, List, ◌∙◌, ap, sym, subst, All}
use Rattle.std.specs.Prelude.{IfOk}
use Rattle.pipe_types.specs.declared.message.Message.{Message}
use Rattle.pipe_model.specs.Flow.{first_in, batch, numbers_in}
use Rattle.pipe_model.specs.Work.{messages_of, taken_units}
use Rattle.core_tables.specs.Tables.{list_at}
use Rattle.plain_run.specs.Works.{numbers_at}
use Rattle.plain_run.proofs.Working.{numbers_are, numbers_low}
use Rattle.plain_run.proofs.given.batch_of.Goals as goal

pub copies_of-requires-clause-least : goal.copies_of-requires-clause-least
copies_of-requires-clause-least c =
    subst (All (λ (n : ℕ). 1 ≤ n)) (sym (c.numbers_at.ensures ∙ ap (λ rows. numbers_at rows c.first_of-no.result) c.deref-2.ensures.value)) (numbers_low c.args.core.now c.first_of-no.result c.requires.holds)

pub returns : goal.returns
returns c =
    let core = c.args.core.now in
    let first : c.first_of-no.result ≡ first_in (taken_units core.topology core.journal.steps c.args.stage) =
    c.first_of-no.ensures ∙ ap first_in (c.taken_in.ensures ∙ (ap (λ rows. list_at rows c.args.stage) c.deref.ensures.value ∙ c.requires.works.taken c.args.stage)) in
    subst (λ (ms : List Message). IfOk c.copies_of.result (λ messages. messages.items ≡ ms))
    (ap (messages_of core.journal.steps) (c.numbers_at.ensures ∙ (ap (λ rows. numbers_at rows c.first_of-no.result) c.deref-2.ensures.value
    ∙ (numbers_are core c.first_of-no.result c.requires.holds ∙ ap (λ n. numbers_in (batch core.topology core.journal.steps n)) first)))) c.copies_of.ensures
