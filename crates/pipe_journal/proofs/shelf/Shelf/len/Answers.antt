use Rattle.std.proofs.Common.{sym, ap, ◌∙◌, length}
use Rattle.pipe_journal.proofs.Cutting.{as_many}
use Rattle.pipe_journal.proofs.shelf.Shelf.len.Goals as goal

pub returns : goal.returns
returns c = c.len.ensures ∙ c.self.inside.ends.ok.0 ∙ sym (as_many 0 c.self.inside.bytes.items c.self.inside.ends.items) ∙ ap length c.self.view_is
