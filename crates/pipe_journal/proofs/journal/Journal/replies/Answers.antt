-- The entry there is held, and its replies are those of the step there.
use Rattle.std.proofs.Common.{refl, sym, ap, ◌∙◌}
use Rattle.std.specs.Prelude.{slice_get}
use Rattle.std.proofs.lemmas.Option.{slice_get_read}
use Rattle.pipe_journal.specs.Readers.{replies_of, reply_at, item_of}
use Rattle.pipe_journal.proofs.Held.{held_at, step_there, within}
use Rattle.pipe_journal.proofs.journal.Journal.replies.Goals as goal

pub replies_in-requires : goal.replies_in-requires
replies_in-requires c =
    held_at c.self.inside.store c.self.inside.entries.items c.args.at c.index.result.now c.self.invariant
    (slice_get_read c.self.inside.entries.items _ c.args.at c.index.result.now refl
    (within c.self.inside.store c.self.inside.entries.items _ c.args.at (sym (ap (λ r. r.steps) c.self.view_is)) c.requires) c.index.ensures)

pub returns : goal.returns
returns c item =
    sym (ap (λ r. reply_at r.steps c.args.at item) c.self.view_is)
    ∙ ap (λ o. item_of replies_of o item) (step_there c.self.inside.store c.self.inside.entries.items c.args.at c.index.result.now
    (slice_get_read c.self.inside.entries.items _ c.args.at c.index.result.now refl
    (within c.self.inside.store c.self.inside.entries.items _ c.args.at (sym (ap (λ r. r.steps) c.self.view_is)) c.requires) c.index.ensures))
    ∙ ap (λ items. slice_get items item) (sym c.replies_in.ensures)
