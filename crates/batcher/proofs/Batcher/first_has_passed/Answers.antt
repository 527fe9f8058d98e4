use Rattle.std.proofs.Common.{◌≡◌, ◌∙◌, ap, sym}
use Rattle.std.specs.Prelude.{option_copied}
use Rattle.batcher.specs.Batches.{Batches}
use Rattle.batcher.specs.Seen.{first_has_passed}
use Rattle.batcher.proofs.Closing.{passed_first, passed_none}
use Rattle.batcher.proofs.Batcher.first_has_passed.Goals as goal

pub returns-in-Some : goal.returns-in-Some
returns-in-Some c =
    c.has_passed.ensures
    ∙ (passed_first c.self.inside.batch_timeout c.args.now c.self.inside.batches c.in-Some.messages.now (ap option_copied (sym c.in-Some.is) ∙ c.first.ensures)
    ∙ ap (λ (h : Batches). first_has_passed h.batch_timeout c.args.now h.batches) c.self.view_is)

pub returns-in-None : goal.returns-in-None
returns-in-None c =
    passed_none c.self.inside.batch_timeout c.args.now c.self.inside.batches (ap option_copied (sym c.in-None.is) ∙ c.first.ensures)
    ∙ ap (λ (h : Batches). first_has_passed h.batch_timeout c.args.now h.batches) c.self.view_is
