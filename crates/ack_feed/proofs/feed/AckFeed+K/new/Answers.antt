use Rattle.std.proofs.Common.{[], refl, sym, ◌∙◌}
use Rattle.ack_feed.specs.Feeds.{AckFeed}
use Rattle.ack_feed.proofs.Moving.{none_to_come, flows_first}
use Rattle.ack_feed.proofs.feed.AckFeed+K.new.Goals as goal

pub returns-in-Ok-clause-stands : goal.returns-in-Ok-clause-stands
returns-in-Ok-clause-stands g c =
    let feed : AckFeed g.row.K.Denot = record { alloc = c.args.alloc; topology = c.args.topology; opened = c.of-opened.result; feed = c.in-Ok.feed; shown = 0 } in
    let empty = none_to_come c.in-Ok.feed.fault c.in-Ok.feed.lines.items c.in-Ok.ensures.whole c.in-Ok.ensures.empty in
    record {
      sound = c.requires.sound;
      seen = refl;
      fed = flows_first g.K.ByteSink.told g.K.ByteSink.held feed (c.of-opened.ensures ∙ sym c.in-Ok.ensures.sink) empty;
      whole = λ _. empty;
    }
