use Rattle.std.proofs.Common.{◌∙◌, ap, sym, map, length}
use Rattle.std.specs.Prelude.{reverse, Bool, ◌&&◌}
use Rattle.pipe_types.specs.declared.topology.Dispatch.{Dispatch}
use Rattle.pipe_types.specs.Dispatchers.{has_rooms, served_as, picks_all, is_served}
use Rattle.plain_dispatch.proofs.Turned.{length_turned, fits_above}
use Rattle.plain_dispatch.proofs.is_served.Goals as goal

pub returns-in-Broadcast : goal.returns-in-Broadcast
returns-in-Broadcast c =
    let before = c.args.before.now in
    let rooms = c.args.rooms.now in
    c.some_above.ensures
    ∙ (ap (λ (b : Bool). has_rooms rooms && b) (fits_above rooms (reverse (map (λ d. d.1) before)) c.args.part (length before) (sym (length_turned before)))
    ∙ ap (λ (kind : Dispatch). is_served (served_as kind picks_all) rooms (reverse (map (λ d. d.1) before)) c.args.part) (sym c.in-Broadcast.is))
