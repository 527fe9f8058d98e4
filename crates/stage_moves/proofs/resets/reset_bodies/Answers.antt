use Rattle.std.proofs.Common.{◌*◌, refl, ◌∙◌}
use Rattle.stage_bodies.specs.Seen.{body_at}
use Rattle.stage_moves.proofs.Resetting.{none_reset, more_reset}
use Rattle.stage_moves.proofs.resets.reset_bodies.Goals as goal

pub loop-slot-init : goal.loop-slot-init
loop-slot-init g c = record { len = refl; reset = none_reset (c.args.stage.0 * 16) (body_at g.B.Works.look c.args.bodies.now.items) }

pub loop-slot-preserved : goal.loop-slot-preserved
loop-slot-preserved g c =
    let look = g.B.Works.look in
    record {
      len = c.reset_at.ensures.len ∙ c.loop-slot.invariant.len;
      reset = more_reset (c.args.stage.0 * 16) c.loop-slot.slot c.place_of.result (body_at look c.args.bodies.now.items) (body_at look c.loop-slot.bodies.items) (body_at look c.reset_at.new.bodies.items)
          c.place_of.ensures c.loop-slot.invariant.reset c.reset_at.ensures.reset;
    }
