use Rattle.std.proofs.Common.{◌≡◌, ◌≤◌, take, map}
use Rattle.std.specs.Prelude.{count_by, ◌==◌}
use Rattle.plain_dispatch.proofs.count_of.Given as goal

abbrev pub invariant-loop-unit : goal.invariant-loop-unit
invariant-loop-unit l = (l.count ≡ count_by (λ p. p == l.part) (map (λ d. d.1) (take l.unit-index l.units))) × (l.count ≤ l.unit-index)
