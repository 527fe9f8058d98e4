use Rattle.std.proofs.Common.{◌≡◌, ◌-◌, ◌∙◌, ap, arith}
use Rattle.std.specs.Prelude.{slice_get}
use Rattle.pipe_model.specs.Content.{key_in, content}
use Rattle.pipe_model.specs.Flow.{first_in}
use Rattle.core_state.proofs.Keys.{key_at}
use Rattle.core_sends.specs.Batches.{numbers_of}
use Rattle.core_sends.proofs.Looking.{first_least, first_key}
use Rattle.core_sends.proofs.picks.first_message.Goals as goal

pub content_at-requires : goal.content_at-requires
content_at-requires c =
    let core = c.args.core.now in
    let first : c.first_of-first.result ≡ first_in (numbers_of core.batches.items c.args.no) = c.first_of-first.ensures ∙ ap (λ rows. first_in (numbers_of rows c.args.no)) c.deref.ensures.value in
    omega (arith, first, first_least core c.requires.holds c.args.stage c.args.no c.requires.least c.requires.waits)

pub returns : goal.returns
returns c =
    let core = c.args.core.now in
    let first : c.first_of-first.result ≡ first_in (numbers_of core.batches.items c.args.no) = c.first_of-first.ensures ∙ ap (λ rows. first_in (numbers_of rows c.args.no)) c.deref.ensures.value in
    let read : c.content_at.result ≡ slice_get core.contents.items (c.first_of-first.result - 1) = c.content_at.ensures ∙ ap (λ rows. slice_get rows (c.first_of-first.result - 1)) c.deref-2.ensures.value in
    ap key_in c.message_at.ensures
    ∙ (key_at core c.first_of-first.result c.content_at.result c.requires.holds (omega (arith, first, first_least core c.requires.holds c.args.stage c.args.no c.requires.least c.requires.waits)) read
    ∙ (ap (λ n. key_in (content core.journal.steps n)) first ∙ first_key core c.requires.holds c.args.no c.requires.least))
