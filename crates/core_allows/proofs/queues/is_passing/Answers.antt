use Rattle.std.proofs.Common.{◌∙◌, ap, sym}
use Rattle.std.specs.Prelude.{◌||◌, not}
use Rattle.pipe_types.specs.Stages.{spec_of}
use Rattle.pipe_model.specs.Legal.{feeds_batchers, has_room}
use Rattle.move_laws.proofs.Still.{found_no}
use Rattle.core_allows.proofs.Held.{found_there}
use Rattle.core_allows.proofs.queues.is_passing.Goals as goal

pub does_pass-requires-clause-there : goal.does_pass-requires-clause-there
does_pass-requires-clause-there c = found_there c.args.core.now.topology c.args.stage c.in-Some.spec.now (sym c.in-Some.ensures)

pub returns-in-Some : goal.returns-in-Some
returns-in-Some c =
    let t = c.args.core.now.topology in
    let spec = c.in-Some.spec.now in
    c.does_pass.ensures
    ∙ (ap (λ o. not (feeds_batchers o) || has_room t c.args.core.now.journal.steps spec.no) c.in-Some.ensures
    ∙ ap (λ u. not (feeds_batchers (spec_of t c.args.stage)) || has_room t c.args.core.now.journal.steps u) (found_no t c.args.stage spec (sym c.in-Some.ensures)))
