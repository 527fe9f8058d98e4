use Rattle.std.proofs.Common.{◌≡◌, ◌++◌, drop, map}
use Rattle.std.specs.Prelude.{filter, reverse}
use Rattle.pipe_types.specs.Dispatchers.{served_as, picks_all, goes, on_each}
use Rattle.plain_dispatch.proofs.push_each.Given as goal

abbrev pub invariant-loop-u : goal.invariant-loop-u
invariant-loop-u l = l.more.items ++ on_each l.unit.0 (filter (goes (served_as l.kind picks_all) l.rooms (reverse (map (λ d. d.1) l.before)) l.unit.1) (drop l.u-index l.rooms)) ≡ l.fn.sent.items ++ on_each l.unit.0 (filter (goes (served_as l.kind picks_all) l.rooms (reverse (map (λ d. d.1) l.before)) l.unit.1) l.rooms)
