use Rattle.std.proofs.Common.{◌≡◌, ◌∙◌, sym, true}
use Rattle.pipe_types.specs.Stages.{spec_feeds}
use Rattle.core_sends.proofs.OpenDemand.{room_none, room_dead, room_known, feeds_by}
use Rattle.core_sends.proofs.rooms.room.Goals as goal

pub returns-then-not-feeds : goal.returns-then-not-feeds
returns-then-not-feeds c =
    sym (room_none c.args.core.now.topology c.args.core.now.journal.steps c.args.producer.now.no c.args.consumer.now.no
    (feeds_by c.args.core.now.topology c.args.producer.now c.args.consumer.now c.requires.from c.requires.to ∙ (sym c.feeds.ensures ∙ c.if-not-feeds.true)))

pub returns-in_err-sub : goal.returns-in_err-sub
returns-in_err-sub c =
    let core = c.args.core.now in
    let takes : spec_feeds c.args.producer.now c.args.consumer.now ≡ true = sym c.feeds.ensures ∙ c.if-not-feeds.false in
    let fed = feeds_by core.topology c.args.producer.now c.args.consumer.now c.requires.from c.requires.to ∙ takes in
    c.from_residual.ensures
    ∙ room_dead core core.topology core.journal.steps c.args.consumer.now.no c.args.producer.now.no c.requires.holds.fields fed c.requires.live (sym c.live_of.ensures ∙ c.in_err-sub.was)

pub returns : goal.returns
returns c =
    let core = c.args.core.now in
    let takes : spec_feeds c.args.producer.now c.args.consumer.now ≡ true = sym c.feeds.ensures ∙ c.if-not-feeds.false in
    let fed = feeds_by core.topology c.args.producer.now c.args.consumer.now c.requires.from c.requires.to ∙ takes in
    room_known core core.topology core.journal.steps c.args.producer.now c.args.consumer.now c.in_ok-sub.sub c.from.result c.room_of-left.result c.requires.holds.fields
    c.requires.to fed c.requires.live (sym c.live_of.ensures ∙ c.in_ok-sub.was) c.from.ensures c.room_of-left.ensures
