use Rattle.std.proofs.Common.{◌≡◌, ◌-◌, ◌∙◌, ap, arith}
use Rattle.std.specs.Prelude.{slice_get}
use Rattle.pipe_model.specs.Content.{key_in, content}
use Rattle.batcher.specs.Batches.{fits}
use Rattle.core_rows.proofs.Known.{row_within}
use Rattle.core_moves.proofs.Fitting.{fits_is}
use Rattle.core_state.proofs.Keys.{key_at}
use Rattle.core_moves.proofs.gathers.lets_in.Goals as goal

pub index-requires : goal.index-requires
index-requires c =
    let core = c.args.core.now in
    let x = c.requires.stands.holds in
    omega (arith, row_within core.topology c.args.spec.now x.sound c.requires.there, x.fields.sized.batchers)

pub returns : goal.returns
returns c =
    let core = c.args.core.now in
    let x = c.requires.stands.holds in
    let held = c.index.result.now in
    let n = c.args.no in
    let read : c.content_at-row.result ≡ slice_get core.contents.items (n - 1) = c.content_at-row.ensures ∙ ap (λ xs. slice_get xs (n - 1)) c.deref.ensures.value in
    c.fits.ensures
    ∙ (ap (λ k. fits held.batch_size k held.batches) (key_at core n c.content_at-row.result x c.requires.least read)
    ∙ fits_is core c.args.spec.now held (key_in (content core.journal.steps n)) x c.requires.there c.index.ensures)
