use Rattle.std.proofs.Common.{◌∙◌}
use Rattle.pipe_model.specs.History.{history}
use Rattle.plain_works.proofs.Shown.{place_same}
use Rattle.plain_works.proofs.ledger.place_now.Goals as goal

pub returns : goal.returns
returns c =
    let past = c.args.flow.now.past in
    c.place_of.ensures ∙ place_same past.topology.now (history past.steps.now) c.args.flow.now.tables.now c.requires c.args.n
