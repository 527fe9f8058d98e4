use Rattle.std.proofs.Common.{◌∷◌, ◌∙◌, ap, sym, map, length}
use Rattle.std.specs.Prelude.{reverse}
use Rattle.pipe_types.specs.declared.topology.Dispatch.{Dispatch}
use Rattle.pipe_types.specs.Dispatchers.{served_as, fit_all, picks_all, goes}
use Rattle.plain_dispatch.proofs.Turned.{length_turned, fits_above, always}
use Rattle.plain_dispatch.proofs.goes.Goals as goal

pub returns-in-Broadcast : goal.returns-in-Broadcast
returns-in-Broadcast c =
    let before = c.args.before.now in
    let rooms = c.args.rooms.now in
    c.all_above.ensures
    ∙ (fits_above rooms (reverse (map (λ d. d.1) before)) c.args.part (length before) (sym (length_turned before))
    ∙ (always (fit_all picks_all rooms (c.args.part ∷ reverse (map (λ d. d.1) before)))
    ∙ ap (λ (kind : Dispatch). goes (served_as kind picks_all) rooms (reverse (map (λ d. d.1) before)) c.args.part c.args.u.now) (sym c.in-Broadcast.is)))
