use Rattle.std.proofs.Common.{◌≡◌, List, ◌∙◌, ap, sym, subst, Some, None}
use Rattle.std.specs.Prelude.{slice_get, IfOk}
use Rattle.pipe_types.specs.declared.message.Message.{Message}
use Rattle.pipe_model.specs.Posts.{in_slot}
use Rattle.core_tables.specs.Rows.{post_at}
use Rattle.plain_run.specs.Works.{held_in}
use Rattle.plain_run.proofs.Working.{started_low, started_is, child_some, child_none, one_low}
use Rattle.plain_run.proofs.given.child_of.Goals as goal

pub copies_of-requires-clause-least : goal.copies_of-requires-clause-least
copies_of-requires-clause-least c =
    let core = c.args.core.now in
    let own : in_slot core.journal.steps c.args.stage c.args.slot ≡ Some c.in-Some.no =
    sym (started_is core c.args.works.now c.args.stage c.args.slot c.requires.holds c.requires.works c.requires.out)
    ∙ (sym (c.started_in.ensures ∙ ap (λ rows. held_in (slice_get rows (post_at c.args.stage.0 c.args.slot))) c.deref.ensures.value) ∙ c.in-Some.is) in
    one_low c.in-Some.no (started_low core.topology core.journal.steps c.args.stage c.args.slot c.in-Some.no c.requires.holds.legal own)

pub returns-in-Some : goal.returns-in-Some
returns-in-Some c =
    let core = c.args.core.now in
    let own : in_slot core.journal.steps c.args.stage c.args.slot ≡ Some c.in-Some.no =
    sym (started_is core c.args.works.now c.args.stage c.args.slot c.requires.holds c.requires.works c.requires.out)
    ∙ (sym (c.started_in.ensures ∙ ap (λ rows. held_in (slice_get rows (post_at c.args.stage.0 c.args.slot))) c.deref.ensures.value) ∙ c.in-Some.is) in
    subst (λ (ms : List Message). IfOk c.copies_of.result (λ messages. messages.items ≡ ms)) (sym (child_some core.journal.steps c.args.stage c.args.slot c.in-Some.no own)) c.copies_of.ensures

pub returns-in-None : goal.returns-in-None
returns-in-None c =
    let core = c.args.core.now in
    let none : in_slot core.journal.steps c.args.stage c.args.slot ≡ None =
    sym (started_is core c.args.works.now c.args.stage c.args.slot c.requires.holds c.requires.works c.requires.out)
    ∙ (sym (c.started_in.ensures ∙ ap (λ rows. held_in (slice_get rows (post_at c.args.stage.0 c.args.slot))) c.deref.ensures.value) ∙ c.in-None.is) in
    c.new.ensures.items ∙ sym (child_none core.journal.steps c.args.stage c.args.slot none)
