use Rattle.std.proofs.Common.{ap, ◌∙◌}
use Rattle.std.proofs.lemmas.Result.{IfOk-weaker}
use Rattle.pipe_model.specs.History.{history}
use Rattle.plain_places.specs.Rows.{places_changed}
use Rattle.plain_places.specs.Changes.{change_of}
use Rattle.plain_places.proofs.Changed.{places_next}
use Rattle.plain_places.proofs.places.places_after.Goals as goal

pub returns : goal.returns
returns c =
    let past = c.args.flow.now.past in
    let before = history past.steps.now in
    let old = c.args.flow.now.tables.now.places.items in
    IfOk-weaker c.places_by.result _ _
    (λ places is.
    places_next past.topology.now before c.args.flow.now.tables.now c.args.step.now places.items c.requires.accepted
    (is
    ∙ ap (λ ps. places_changed before (change_of c.in_ok-change.change) ps) c.as_slice.ensures.value
    ∙ ap (λ change. places_changed before change old) c.in_ok-change.ensures))
    c.places_by.ensures
