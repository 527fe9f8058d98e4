use Rattle.stage_bodies.specs.Seen.{body_at}
use Rattle.stage_moves.proofs.Resetting.{body_reset, none_there}
use Rattle.stage_moves.proofs.resets.reset_at.Goals as goal

pub returns-in_default-clause-reset : goal.returns-in_default-clause-reset
returns-in_default-clause-reset g c =
    let look = g.B.Works.look in
    none_there c.args.at (body_at look c.args.bodies.now.items) (body_at look c.take_out.new.bodies.items) c.in_default.ensures.out c.in_default.ensures.others

pub returns-clause-reset : goal.returns-clause-reset
returns-clause-reset g c =
    let look = g.B.Works.look in
    body_reset c.args.at (body_at look c.args.bodies.now.items) (body_at look c.take_out.new.bodies.items) (body_at look c.put_back.new.bodies.items) (look c.in-Some.body) (look c.reset.new.self)
    c.in-Some.ensures.out c.in-Some.ensures.others c.reset.ensures c.put_back.ensures.others
