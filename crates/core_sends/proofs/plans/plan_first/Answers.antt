use Rattle.std.proofs.Common.{◌*◌, ◌∙◌, length, take, ap, sym, subst}
use Rattle.std.proofs.lemmas.List.{length-take-le}
use Rattle.pipe_types.specs.Rooms.{AreAscending}
use Rattle.pipe_model.specs.Flow.{picks_by, view_of, waiting}
use Rattle.core_laws.proofs.Lawful.{lawful}
use Rattle.core_sends.proofs.Looking.{cast_batches, long_picks, first_sent, first_served}
use Rattle.core_sends.proofs.plans.plan_first.Goals as goal

pub picks_of-requires-clause-batches : goal.picks_of-requires-clause-batches
picks_of-requires-clause-batches c = cast_batches c.args.core.now.topology c.args.stage c.requires.holds.sound c.requires.broadcast

pub deliver_selected-requires-clause-ascending : goal.deliver_selected-requires-clause-ascending
deliver_selected-requires-clause-ascending c =
    let core = c.args.core.now in
    subst AreAscending (sym c.requires.rooms) (lawful.ascending core.topology core.journal.steps c.args.stage c.requires.holds.sound)

pub deliver_selected-requires-clause-picks : goal.deliver_selected-requires-clause-picks
deliver_selected-requires-clause-picks c =
    let core = c.args.core.now in
    let t = core.topology in
    let h = core.journal.steps in
    let ws = waiting t h c.args.stage in
    ap length (c.deref.ensures.value ∙ c.in_ok-picks.ensures)
    ∙ (long_picks (picks_by t h (view_of t h)) c.args.rooms.now (take c.args.count ws) ∙ ap (λ n. n * length c.args.rooms.now) (length-take-le c.args.count ws c.requires.within))

pub returns-clause-sent : goal.returns-clause-sent
returns-clause-sent c =
    let core = c.args.core.now in
    c.into_vec.ensures
    ∙ (c.in_ok-served.ensures.sent
    ∙ first_sent core.topology core.journal.steps c.args.stage c.args.rooms.now c.deref.result.now c.args.count c.requires.rooms c.requires.within (c.deref.ensures.value ∙ c.in_ok-picks.ensures))

pub returns-clause-served : goal.returns-clause-served
returns-clause-served c =
    let core = c.args.core.now in
    c.in_ok-served.ensures.units
    ∙ first_served core.topology core.journal.steps c.args.stage c.args.rooms.now c.deref.result.now c.args.count c.requires.rooms c.requires.within (c.deref.ensures.value ∙ c.in_ok-picks.ensures)
