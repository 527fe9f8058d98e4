-- The entry there is held, and its step is the one there.
use Rattle.std.proofs.Common.{Some, refl, sym, ap, ◌∙◌}
use Rattle.std.proofs.lemmas.Option.{slice_get_read}
use Rattle.pipe_journal.specs.Readers.{step_at}
use Rattle.pipe_journal.proofs.Held.{held_at, step_there, within}
use Rattle.pipe_journal.proofs.journal.Journal.view.Goals as goal

pub view_entry-requires : goal.view_entry-requires
view_entry-requires c =
    held_at c.self.inside.store c.self.inside.entries.items c.args.at c.index.result.now c.self.invariant
    (slice_get_read c.self.inside.entries.items _ c.args.at c.index.result.now refl
    (within c.self.inside.store c.self.inside.entries.items _ c.args.at (sym (ap (λ r. r.steps) c.self.view_is)) c.requires) c.index.ensures)

pub returns : goal.returns
returns c =
    sym (ap (λ r. step_at r.steps c.args.at) c.self.view_is)
    ∙ step_there c.self.inside.store c.self.inside.entries.items c.args.at c.index.result.now
    (slice_get_read c.self.inside.entries.items _ c.args.at c.index.result.now refl
    (within c.self.inside.store c.self.inside.entries.items _ c.args.at (sym (ap (λ r. r.steps) c.self.view_is)) c.requires) c.index.ensures)
    ∙ ap Some (sym c.view_entry.ensures)
