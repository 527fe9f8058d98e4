use Rattle.std.proofs.Common.{◌∙◌, sym}
use Rattle.core_rows.proofs.Known.{unfed, feeds_by, pair_live, pair_dead}
use Rattle.core_rows.proofs.asks.due_on_pair.Goals as goal

pub returns-then-not-feeds : goal.returns-then-not-feeds
returns-then-not-feeds c =
    let core = c.args.core.now in
    let p = c.args.producer.now in
    let q = c.args.consumer.now in
    unfed core.topology core.journal.steps q.no p.no (feeds_by core.topology p q c.requires.from c.requires.to ∙ (sym c.feeds.ensures ∙ c.if-not-feeds.true))

pub returns-in-Some : goal.returns-in-Some
returns-in-Some c =
    let core = c.args.core.now in
    let p = c.args.producer.now in
    let q = c.args.consumer.now in
    c.if_due.ensures ∙ pair_live core q.no p.no c.in-Some.sub c.requires.stands.holds (feeds_by core.topology p q c.requires.from c.requires.to ∙ (sym c.feeds.ensures ∙ c.if-not-feeds.false)) c.in-Some.ensures

pub returns-in-None : goal.returns-in-None
returns-in-None c =
    let core = c.args.core.now in
    let p = c.args.producer.now in
    let q = c.args.consumer.now in
    pair_dead core q.no p.no c.requires.stands.holds (feeds_by core.topology p q c.requires.from c.requires.to ∙ (sym c.feeds.ensures ∙ c.if-not-feeds.false)) c.in-None.ensures
