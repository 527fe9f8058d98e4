use Rattle.std.proofs.Common.{sym, ap, subst}
use Rattle.pipe_model.specs.Begins.{BeginsWith}
use Rattle.turn_checks.proofs.Outs.{begins_through}
use Rattle.turn_checks.proofs.workers.tick_both.Goals as goal

pub give-requires-2-clause-stems : goal.give-requires-2-clause-stems
give-requires-2-clause-stems c = let same = ap (λ seat. seat.origin) c.in-Some.ensures.taken in
    subst (λ z. BeginsWith c.tick.new.self.journal.steps z.steps) (sym same) (begins_through _ _ _ c.tick.ensures.begins c.in-Some.ensures.stems)

pub give-requires-3-clause-stems : goal.give-requires-3-clause-stems
give-requires-3-clause-stems c = let same = ap (λ seat. seat.origin) c.in-Some-take.ensures.taken in
    subst (λ z. BeginsWith c.tick-2.new.self.journal.steps z.steps) (sym same) (begins_through _ _ _ c.tick-2.ensures.begins c.in-Some-take.ensures.stems)
