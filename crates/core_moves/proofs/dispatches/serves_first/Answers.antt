use Rattle.std.proofs.Common.{◌≡◌, ◌∙◌, ap, sym}
use Rattle.pipe_types.specs.declared.topology.Dispatch.TheVariants.{Broadcast}
use Rattle.pipe_types.specs.Dispatchers.{ByBroadcast}
use Rattle.pipe_types.specs.Stages.{spec_of}
use Rattle.pipe_model.specs.Flow.{kind_in, picks_by, rooms_by, view_of}
use Rattle.core_moves.proofs.Sending.{first_there, no_first, none_wait, broadcast_go}
use Rattle.core_moves.proofs.dispatches.serves_first.Goals as goal

pub is_served-requires-clause-least : goal.is_served-requires-clause-least
is_served-requires-clause-least c =
    let core = c.args.core.now in
    (first_there core.topology core.journal.steps c.args.spec.now c.in-Some.first c.requires.stands.holds.sound c.requires.stands.holds.legal c.requires.there c.requires.kind (sym c.in-Some.ensures)).0

pub is_served-requires-clause-waits : goal.is_served-requires-clause-waits
is_served-requires-clause-waits c =
    let core = c.args.core.now in
    (first_there core.topology core.journal.steps c.args.spec.now c.in-Some.first c.requires.stands.holds.sound c.requires.stands.holds.legal c.requires.there c.requires.kind (sym c.in-Some.ensures)).1

pub returns-in-Some : goal.returns-in-Some
returns-in-Some c =
    let t = c.args.core.now.topology in
    let h = c.args.core.now.journal.steps in
    let s = c.args.spec.now.no in
    let kind : kind_in (spec_of t s) ≡ Broadcast = ap kind_in c.requires.there ∙ c.requires.kind in
    c.is_served.ensures ∙ broadcast_go t h s c.in-Some.first (picks_by t h (view_of t h)) (rooms_by t h (view_of t h) s) kind (sym c.in-Some.ensures)

pub returns-in-None : goal.returns-in-None
returns-in-None c =
    let t = c.args.core.now.topology in
    let h = c.args.core.now.journal.steps in
    let s = c.args.spec.now.no in
    none_wait t h s (ByBroadcast (picks_by t h (view_of t h))) (rooms_by t h (view_of t h) s) (no_first t h s (sym c.in-None.ensures))
