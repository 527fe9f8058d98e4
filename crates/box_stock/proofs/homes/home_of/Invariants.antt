use Rattle.std.proofs.Common.{◌≡◌, ◌+◌, length, take}
use Rattle.std.specs.List.{flat_map}
use Rattle.box_stock.specs.Homes.{posts_for}
use Rattle.box_stock.proofs.homes.home_of.Given as goal

abbrev pub invariant-loop-spec : goal.invariant-loop-spec
invariant-loop-spec l =
    l.fn.before ≡ length (flat_map (posts_for l.kind) (take l.spec-index l.topology.stages)) + l.left
