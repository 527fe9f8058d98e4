-- The store keeps the lists of the entries before, and has that of the new one.
use Rattle.std.proofs.Common.{◌∷◌, ◌∙◌, ap}
use Rattle.pipe_journal.proofs.Held.{pushed, all_held}
use Rattle.pipe_journal.proofs.journal.Journal.push_spare.Goals as goal

pub invariant_of-self : goal.invariant_of-self
invariant_of-self c =
    rw c.push_reserved.ensures.items
    (all_held c.self.inside.store c.pack-entry.new.store c.pack-entry.ensures.keeps _ _ c.self.invariant c.pack-entry.ensures.held)

pub returns-clause-written : goal.returns-clause-written
returns-clause-written c =
    rw c.push_reserved.ensures.items
    (pushed c.self.inside.store c.pack-entry.new.store c.pack-entry.ensures.keeps c.self.inside.entries.items c.pack-entry.result c.args.step
    c.self.invariant c.pack-entry.ensures.step
    ∙ ap (λ r. c.args.step ∷ r.steps) c.self.view_is)
