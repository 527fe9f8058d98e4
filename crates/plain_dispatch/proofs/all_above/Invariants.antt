use Rattle.std.proofs.Common.{◌≡◌, drop}
use Rattle.std.specs.Prelude.{nat_lt}
use Rattle.std.specs.List.{list_all}
use Rattle.plain_dispatch.proofs.all_above.Given as goal

abbrev pub invariant-loop-v : goal.invariant-loop-v
invariant-loop-v l = list_all (λ v. nat_lt l.units v.left) (drop l.v-index l.rooms) ≡ list_all (λ v. nat_lt l.units v.left) l.rooms
