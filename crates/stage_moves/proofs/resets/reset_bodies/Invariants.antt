use Rattle.std.proofs.Common.{◌≡◌, ◌*◌, length}
use Rattle.stage_bodies.specs.Seen.{body_at}
use Rattle.stage_moves.specs.Resets.{AreResetFrom}
use Rattle.stage_moves.proofs.resets.reset_bodies.Given as goal

abbrev pub invariant-loop-slot : goal.invariant-loop-slot
invariant-loop-slot g l =
    record {
      len : length l.bodies.items ≡ length l.initial.bodies.items;
      reset : AreResetFrom (l.stage.0 * 16) l.slot (body_at g.B.Works.look l.initial.bodies.items) (body_at g.B.Works.look l.bodies.items);
    }
