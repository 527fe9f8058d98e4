use Rattle.std.proofs.Common.{◌∙◌, sym}
use Rattle.core_rows.proofs.Known.{feeds_by}
use Rattle.core_rows.proofs.Roomy.{unfed_open, open_live, open_dead}
use Rattle.core_rows.proofs.rooms.open_between.Goals as goal

pub returns-then-not-feeds : goal.returns-then-not-feeds
returns-then-not-feeds c =
    let core = c.args.core.now in
    let p = c.args.producer.now in
    let q = c.args.consumer.now in
    unfed_open core.topology core.journal.steps p.no q.no (feeds_by core.topology p q c.requires.from c.requires.to ∙ (sym c.feeds.ensures ∙ c.if-not-feeds.true))

pub returns-in-Some : goal.returns-in-Some
returns-in-Some c =
    let core = c.args.core.now in
    let p = c.args.producer.now in
    let q = c.args.consumer.now in
    c.room_of.ensures ∙ open_live core p.no q.no c.in-Some.sub c.requires.stands.holds (feeds_by core.topology p q c.requires.from c.requires.to ∙ (sym c.feeds.ensures ∙ c.if-not-feeds.false)) c.in-Some.ensures

pub returns-in-None : goal.returns-in-None
returns-in-None c =
    let core = c.args.core.now in
    let p = c.args.producer.now in
    let q = c.args.consumer.now in
    open_dead core p.no q.no c.requires.stands.holds (feeds_by core.topology p q c.requires.from c.requires.to ∙ (sym c.feeds.ensures ∙ c.if-not-feeds.false)) c.in-None.ensures
