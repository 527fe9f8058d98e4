use Rattle.std.proofs.Common.{◌≡◌, drop, map}
use Rattle.std.specs.Prelude.{reverse}
use Rattle.std.specs.List.{list_any}
use Rattle.pipe_types.specs.Dispatchers.{served_as, picks_all, goes}
use Rattle.plain_dispatch.proofs.goes_somewhere.Given as goal

abbrev pub invariant-loop-u : goal.invariant-loop-u
invariant-loop-u l =
    list_any (goes (served_as l.kind picks_all) l.rooms (reverse (map (λ d. d.1) l.before)) l.part) (drop l.u-index l.rooms)
    ≡ list_any (goes (served_as l.kind picks_all) l.rooms (reverse (map (λ d. d.1) l.before)) l.part) l.rooms
