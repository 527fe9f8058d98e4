use Rattle.std.proofs.Common.{◌≡◌, ◌<◌, length, refl, Some}
use Rattle.std.specs.Prelude.{slice_get}
use Rattle.std.proofs.lemmas.Option.{slice_get_read}
use Rattle.core_batches.specs.Closes.{without_open}
use Rattle.core_batches.proofs.Joining.{row_put}
use Rattle.core_batches.proofs.batches.close_open.Goals as goal

pub returns-clause-batchers : goal.returns-clause-batchers
returns-clause-batchers c =
    let rows = c.args.batchers.now.items in
    let s = c.args.stage.0 in
    let within : s < length rows = c.requires.within in
    let was : slice_get rows s ≡ Some c.index_mut-held.result.now = slice_get_read rows (length rows) s c.index_mut-held.result.now refl within c.index_mut-held.ensures.value in
    λ i. row_put (without_open c.args.found.at) rows s c.index_mut-held.result.now c.close.new.self within was c.close.ensures.batches i
