use Rattle.std.proofs.Common.{◌∙◌, sym, ap}
use Rattle.std.specs.Prelude.{◌&&◌}
use Rattle.stage_subs.specs.Subs.{row_at}
use Rattle.core_restarts.specs.Renewals.{joins, renewed}
use Rattle.core_restarts.proofs.Pairs.{joined_above, joined_below, joined_none}
use Rattle.core_restarts.proofs.renewing.renew_with.Goals as goal

pub returns-then-feeds : goal.returns-then-feeds
returns-then-feeds c = λ d p.
    let topology = c.args.topology.now in
    let t = c.args.other.now.no in
    c.renew_pair.ensures d p
    ∙ (ap (λ b. renewed topology d b (row_at c.args.subs.now d p)) (joined_above topology c.args.stage.now.no t d p c.requires.sound (sym c.feeds.ensures ∙ c.if-feeds.true))
    ∙ sym (ap (λ b. renewed topology d (b && joins topology c.args.stage.now.no t d p) (row_at c.args.subs.now d p)) c.if-not-lives.false))

pub returns-then-feeds-2 : goal.returns-then-feeds-2
returns-then-feeds-2 c = λ d p.
    let topology = c.args.topology.now in
    let s = c.args.stage.now.no in
    let t = c.args.other.now.no in
    c.renew_pair-then-feeds-2.ensures d p
    ∙ (ap (λ b. renewed topology d b (row_at c.args.subs.now d p)) (joined_below topology s t d p (sym c.feeds.ensures ∙ c.if-feeds.false) (sym c.feeds-else-feeds.ensures ∙ c.if-feeds-2.true))
    ∙ sym (ap (λ b. renewed topology d (b && joins topology s t d p) (row_at c.args.subs.now d p)) c.if-not-lives.false))

pub returns-else-feeds-2 : goal.returns-else-feeds-2
returns-else-feeds-2 c = λ d p.
    let topology = c.args.topology.now in
    let s = c.args.stage.now.no in
    let t = c.args.other.now.no in
    sym (ap (λ b. renewed topology d (b && joins topology s t d p) (row_at c.args.subs.now d p)) c.if-not-lives.false
    ∙ ap (λ b. renewed topology d b (row_at c.args.subs.now d p)) (joined_none topology s t d p (sym c.feeds.ensures ∙ c.if-feeds.false) (sym c.feeds-else-feeds.ensures ∙ c.if-feeds-2.false)))
