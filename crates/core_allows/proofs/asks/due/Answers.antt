use Rattle.std.proofs.Common.{◌∙◌, sym}
use Rattle.core_allows.proofs.Asked.{fed_due, unfed_due}
use Rattle.core_allows.proofs.asks.due.Goals as goal

pub returns-then-feeds : goal.returns-then-feeds
returns-then-feeds c =
    let core = c.args.core.now in
    c.due.ensures ∙ fed_due core core.topology core.journal.steps c.args.sub c.requires.stands.holds.fields (sym c.feeds.ensures ∙ c.if-feeds.true)

pub returns-else-feeds : goal.returns-else-feeds
returns-else-feeds c = sym (unfed_due c.args.core.now.topology c.args.core.now.journal.steps c.args.sub (sym c.feeds.ensures ∙ c.if-feeds.false))
