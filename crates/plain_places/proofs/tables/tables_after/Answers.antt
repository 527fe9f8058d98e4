use Rattle.std.proofs.Common.{sym, subst}
use Rattle.pipe_model.specs.History.{history}
use Rattle.plain_queues.specs.Views.{view_in}
use Rattle.plain_places.specs.Changes.{BatchesAfter}
use Rattle.plain_places.proofs.Changed.{stand_next}
use Rattle.plain_places.proofs.tables.tables_after.Goals as goal

pub places_after-requires-clause-batches : goal.places_after-requires-clause-batches
places_after-requires-clause-batches c =
    let past = c.args.flow.now.past in
    subst (BatchesAfter past.topology.now (history past.steps.now) (view_in c.args.flow.now.tables.now) c.args.step.now) (sym c.as_slice.ensures.value) c.in_ok-batches.ensures

pub returns : goal.returns
returns c =
    let past = c.args.flow.now.past in
    stand_next past.topology.now (history past.steps.now) c.args.flow.now.tables.now
    (record { places = c.in_ok-places.places; batches = c.in_ok-batches.batches; sends = c.in_ok-sends.sends })
    c.args.step.now c.requires.tables c.in_ok-batches.ensures c.in_ok-places.ensures c.in_ok-sends.ensures
