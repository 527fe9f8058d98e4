use Rattle.std.proofs.Common.{◌∙◌, ap, sym}
use Rattle.std.specs.Prelude.{◌&&◌}
use Rattle.pipe_types.specs.declared.numbers.StageNo.{StageNo}
use Rattle.pipe_model.specs.Content.{key_in, content}
use Rattle.pipe_model.specs.Flow.{open_batch_by, view_of}
use Rattle.pipe_model.specs.Legal.{has_room, lets_in}
use Rattle.move_laws.proofs.Still.{found_no}
use Rattle.core_allows.proofs.Held.{found_there}
use Rattle.core_allows.proofs.gathers.fits_in.Goals as goal

pub has_room_for-requires-clause-there : goal.has_room_for-requires-clause-there
has_room_for-requires-clause-there c = found_there c.args.core.now.topology c.args.stage c.in-Some.spec.now (sym c.in-Some.ensures)

pub returns-in-Some : goal.returns-in-Some
returns-in-Some c =
    let t = c.args.core.now.topology in
    let h = c.args.core.now.journal.steps in
    c.has_room_for.ensures
    ∙ ap (λ (s : StageNo). has_room t h s && lets_in t h s (open_batch_by h (view_of t h) s (key_in (content h c.args.no.0)))) (found_no t c.args.stage c.in-Some.spec.now (sym c.in-Some.ensures))
