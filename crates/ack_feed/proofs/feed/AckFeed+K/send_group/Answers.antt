use Rattle.std.proofs.Common.{◌∷◌, refl, ap, ◌∙◌}
use Rattle.ack_texts.specs.Lines.{step_acks}
use Rattle.ack_feed.specs.Feeds.{AckFeed}
use Rattle.ack_feed.proofs.Moving.{flushed, pushed}
use Rattle.ack_feed.proofs.feed.AckFeed+K.send_group.Goals as goal

pub returns-then-eq-clause-sent : goal.returns-then-eq-clause-sent
returns-then-eq-clause-sent g c = λ before middle step are text flows.
    let old = c.args.self.now in
    let new : AckFeed g.row.K.Denot = record old { feed = c.make_room.new.self } in
    (refl, flushed g.K.ByteSink.told g.K.ByteSink.held old new before refl refl c.make_room.ensures.same_telling c.make_room.ensures.fed flows)

pub returns-in-Ok-clause-sent : goal.returns-in-Ok-clause-sent
returns-in-Ok-clause-sent g c = λ before middle step are text flows.
    let told = g.K.ByteSink.told in
    let held = g.K.ByteSink.held in
    let old = c.args.self.now in
    let mid : AckFeed g.row.K.Denot = record old { feed = c.make_room.new.self } in
    let new : AckFeed g.row.K.Denot = record old { feed = c.push.new.self; shown = c.args.next } in (
      refl,
      pushed told held mid new before (step ∷ middle) c.in-Ok.text (step_acks old.topology middle step) refl refl (ap told c.push.ensures.sink) c.push.ensures.fed (c.in-Ok.ensures middle step are) text
          (flushed told held old mid before refl refl c.make_room.ensures.same_telling c.make_room.ensures.fed flows),
    )

pub returns-in-Err-clause-sent : goal.returns-in-Err-clause-sent
returns-in-Err-clause-sent g c = λ before middle step are text flows.
    let old = c.args.self.now in
    let new : AckFeed g.row.K.Denot = record old { feed = c.make_room.new.self } in
    (refl, flushed g.K.ByteSink.told g.K.ByteSink.held old new before refl refl c.make_room.ensures.same_telling c.make_room.ensures.fed flows)
