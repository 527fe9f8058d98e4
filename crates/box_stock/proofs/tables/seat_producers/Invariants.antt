use Rattle.std.proofs.Common.{◌≡◌, ◌≢◌, ◌<◌, ℕ, length, Some}
use Rattle.std.specs.Prelude.{slice_get}
use Rattle.pipe_types.specs.declared.numbers.StageNo.{StageNo}
use Rattle.pipe_types.specs.declared.topology.StageSpec.{StageSpec}
use Rattle.pipe_types.specs.declared.topology.Role.TheVariants.{Producer}
use Rattle.pipe_types.specs.Numbers.{post}
use Rattle.pipe_types.specs.Stages.{spec_of}
use Rattle.stage_bodies.specs.Seen.{body_at}
use Rattle.stage_bodies.specs.Posts.{place_at}
use Rattle.box_stock.specs.Lends.{bare_body}
use Rattle.box_stock.proofs.tables.seat_producers.Given as goal

abbrev pub invariant-loop-spec : goal.invariant-loop-spec
invariant-loop-spec g l = record {
  len : length l.bodies.items ≡ length l.fn.bodies.items;
  seated : (i : ℕ) (spec : StageSpec) → i < l.spec-index → slice_get l.topology.stages i ≡ Some spec → spec.role ≡ Producer
      → body_at g.B.Works.look l.bodies.items (place_at (post spec.no 0)) ≡ Some bare_body;
  others : (at : ℕ) → ((s : StageNo) (spec : StageSpec) → spec_of l.topology s ≡ Some spec → spec.role ≡ Producer → place_at (post s 0) ≢ at)
      → body_at g.B.Works.look l.bodies.items at ≡ body_at g.B.Works.look l.fn.bodies.items at;
}
