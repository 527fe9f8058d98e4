use Rattle.std.proofs.Common.{◌∙◌, ap, sym}
use Rattle.pipe_model.specs.Legal.{may_dispatch}
use Rattle.move_laws.proofs.Still.{found_no}
use Rattle.core_allows.proofs.Held.{found_there}
use Rattle.core_allows.proofs.Unfound.{unfound_dispatch}
use Rattle.core_allows.proofs.dispatches.may_dispatch.Goals as goal

pub may_dispatch-requires-clause-there : goal.may_dispatch-requires-clause-there
may_dispatch-requires-clause-there c = found_there c.args.core.now.topology c.args.stage c.in-Some.spec.now (sym c.in-Some.ensures)

pub returns-in-Some : goal.returns-in-Some
returns-in-Some c =
    let t = c.args.core.now.topology in
    c.may_dispatch.ensures ∙ ap (may_dispatch t c.args.core.now.journal.steps) (found_no t c.args.stage c.in-Some.spec.now (sym c.in-Some.ensures))

pub returns-in-None : goal.returns-in-None
returns-in-None c = unfound_dispatch c.args.core.now.topology c.args.core.now.journal.steps c.args.stage (sym c.in-None.ensures)
