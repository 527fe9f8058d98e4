use Rattle.std.proofs.Common.{◌≡◌, ◌++◌, take, drop, map}
use Rattle.std.specs.Prelude.{reverse}
use Rattle.pipe_types.specs.Dispatchers.{served_as, picks_all, serves_from, serves}
use Rattle.plain_dispatch.proofs.serves.Given as goal

abbrev pub invariant-loop-i : goal.invariant-loop-i
invariant-loop-i l =
    l.served.items ++ serves_from (served_as l.kind picks_all) l.rooms (reverse (map (λ d. d.1) (take l.i l.units))) (drop l.i l.units)
    ≡ serves (served_as l.kind picks_all) l.rooms l.units
