-- One end more, behind the text.
use Rattle.std.proofs.Common.{◌≡◌, ℕ, ◌+◌, ◌∷◌, [], ◌++◌, List, length, ap, ◌∙◌, arith}
use Rattle.pipe_journal.specs.Cuts.{cut}
use Rattle.pipe_journal.proofs.Cutting.{pushed, still_ends}
use Rattle.pipe_journal.proofs.Extending.{by}
use Rattle.pipe_journal.proofs.shelf.Shelf.push.Goals as goal

pub invariant_of-self-2 : goal.invariant_of-self-2
invariant_of-self-2 c =
    rw (c.in_ok-extend_from_slice.ensures.items, c.push_reserved.ensures.items, c.in_ok-reserve.ensures.items)
    (still_ends 0 c.self.inside.bytes.items c.self.inside.ends.items c.args.text.now _ c.self.invariant (omega (arith, c.self.inside.bytes.ok.0)))

pub returns-clause-added : goal.returns-clause-added
returns-clause-added c =
    rw (c.in_ok-extend_from_slice.ensures.items, c.push_reserved.ensures.items, c.in_ok-reserve.ensures.items)
    (pushed 0 c.self.inside.bytes.items c.self.inside.ends.items c.args.text.now _ c.self.invariant (omega (arith, c.self.inside.bytes.ok.0))
    ∙ ap (λ (texts : List (List ℕ)). texts ++ c.args.text.now ∷ []) c.self.view_is)

pub returns-clause-extends : goal.returns-clause-extends
returns-clause-extends c =
    by _ (c.args.text.now ∷ []) _
    (rw (c.in_ok-extend_from_slice.ensures.items, c.push_reserved.ensures.items, c.in_ok-reserve.ensures.items)
    (pushed 0 c.self.inside.bytes.items c.self.inside.ends.items c.args.text.now _ c.self.invariant (omega (arith, c.self.inside.bytes.ok.0))
    ∙ ap (λ (texts : List (List ℕ)). texts ++ c.args.text.now ∷ []) c.self.view_is))
