use Rattle.std.proofs.Common.{◌≡◌, sym, ap, ◌∙◌}
use Rattle.turn_checks.specs.Tokens.{brought_post, entry_post}
use Rattle.turn_checks.proofs.Homes.{away_as}
use Rattle.turn_checks.proofs.workers.hold.Goals as goal

pub give-requires-clause-away : goal.give-requires-clause-away
give-requires-clause-away g c =
    let own : c.tell_of.new.seat.job ≡ brought_post c.args.brought = ap (λ z. z.job) c.tell_of.ensures ∙ (ap (λ z. z.job) c.in-Some.ensures.taken ∙ c.requires.job) in
    let taken : c.tell_of.new.seat.away ≡ g.H.Held.away c.in-Some.value = ap (λ z. z.away) c.tell_of.ensures ∙ ap (λ z. z.away) c.in-Some.ensures.taken in
    away_as (brought_post c.args.brought) c.tell_of.new.seat.job (entry_post c.log-entry.result) c.post.result (g.H.Held.away c.in-Some.value) c.tell_of.new.seat.away (g.H.Held.away c.log-entry.new.self) (sym own) (sym c.post.ensures) (sym taken) c.log-entry.ensures.away
