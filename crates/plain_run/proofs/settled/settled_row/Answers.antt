use Rattle.std.proofs.Common.{◌≡◌, ap, sym, ◌∙◌, Some, None}
use Rattle.std.specs.Prelude.{slice_get, is_some}
use Rattle.settle_laws.specs.Settled.{row_of}
use Rattle.plain_run.proofs.Settling.{listed_row, in_list, past_list}
use Rattle.plain_run.proofs.settled.settled_row.Goals as goal

pub row_at-requires-clause-least : goal.row_at-requires-clause-least
row_at-requires-clause-least c =
    let core = c.args.core.now in
    (listed_row core.topology core.journal.steps c.args.settled.now c.args.at c.in-Some.no c.requires.holds.legal c.requires.settled (sym c.number_at.ensures ∙ c.in-Some.is)).least

pub returns-in-Some-clause-row : goal.returns-in-Some-clause-row
returns-in-Some-clause-row c =
    let core = c.args.core.now in
    c.row_at.ensures ∙ ap (row_of core.topology core.journal.steps) (sym (sym c.number_at.ensures ∙ c.in-Some.is))

pub returns-in-Some-clause-past : goal.returns-in-Some-clause-past
returns-in-Some-clause-past c =
    let core = c.args.core.now in
    let here : slice_get c.args.settled.now c.args.at ≡ Some c.in-Some.no = sym c.number_at.ensures ∙ c.in-Some.is in
    let row = listed_row core.topology core.journal.steps c.args.settled.now c.args.at c.in-Some.no c.requires.holds.legal c.requires.settled here in
    ap is_some c.row_at.ensures ∙ (row.row ∙ in_list c.args.settled.now c.args.at c.in-Some.no here)

pub returns-in-None-clause-past : goal.returns-in-None-clause-past
returns-in-None-clause-past c = past_list c.args.settled.now c.args.at (sym c.number_at.ensures ∙ c.in-None.is)
