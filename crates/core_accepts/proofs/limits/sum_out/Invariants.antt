use Rattle.std.proofs.Common.{◌≡◌, ◌≤◌, ◌*◌, ◌^◌, take}
use Rattle.std.specs.Prelude.{sum_by}
use Rattle.core_accepts.specs.Rooms.{brings}
use Rattle.core_accepts.proofs.limits.sum_out.Given as goal

abbrev pub invariant-loop-spec : goal.invariant-loop-spec
invariant-loop-spec l = record {
  so_far : l.out ≡ sum_by (brings l.rows l.posts) (take l.spec-index l.stages);
  small : l.out ≤ l.spec-index * 2 ^ 32;
}
