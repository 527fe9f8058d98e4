use Rattle.std.proofs.Common.{◌≡◌, ◌∙◌, ap, sym, subst}
use Rattle.std.specs.Prelude.{IfSome, vec_capacity}
use Rattle.batcher.specs.Seen.{entries_of, HasRoom}
use Rattle.batcher.proofs.open.OpenBatches.remove_empty.Goals as goal

pub invariant_of-self : goal.invariant_of-self
invariant_of-self c =
    c.remove_empty_in.ensures.room (vec_capacity c.self.inside.copy) (subst (λ o. IfSome o (HasRoom (vec_capacity c.self.inside.copy))) c.in-Some.is c.self.invariant)

pub returns-in-Some : goal.returns-in-Some
returns-in-Some c front last e = c.remove_empty_in.ensures.left front last (sym (sym c.self.view_is ∙ ap entries_of c.in-Some.is) ∙ e)
