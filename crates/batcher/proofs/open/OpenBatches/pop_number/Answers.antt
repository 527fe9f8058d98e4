use Rattle.std.proofs.Common.{◌≡◌, ◌∙◌, ◌<◌, ap, sym, subst, length, All, ℕ, arith}
use Rattle.std.specs.Prelude.{IfSome, vec_capacity}
use Rattle.batcher.specs.Seen.{seen, entries_of, HasRoom, PopsNumber}
use Rattle.batcher.proofs.Gathers.{Entries}
use Rattle.batcher.proofs.open.OpenBatches.pop_number.Goals as goal

pub pop_number_in-requires-clause-some : goal.pop_number_in-requires-clause-some
pop_number_in-requires-clause-some c = subst (λ (es : Entries). 0 < length es) (sym c.self.view_is ∙ ap entries_of c.in-Some.is) c.requires.some

pub pop_number_in-requires-clause-begun : goal.pop_number_in-requires-clause-begun
pop_number_in-requires-clause-begun c = subst (λ (es : Entries). All (λ batch. 0 < length batch.numbers) (seen es)) (sym c.self.view_is ∙ ap entries_of c.in-Some.is) c.requires.begun

pub pop_number_in-requires-clause-room : goal.pop_number_in-requires-clause-room
pop_number_in-requires-clause-room c = subst (λ o. IfSome o (HasRoom (vec_capacity c.self.inside.copy))) c.in-Some.is c.self.invariant

pub unreachable-requires : goal.unreachable-requires
unreachable-requires c =
    let none : 0 < 0 = subst (λ (es : Entries). 0 < length es) (sym c.self.view_is ∙ ap entries_of c.in-None.is) c.requires.some in
    absurd (omega (arith, none))

pub returns : goal.returns
returns c = subst (λ (es : Entries). PopsNumber es c.pop_number_in.new.batches.entries c.pop_number_in.result) (sym (sym c.self.view_is ∙ ap entries_of c.in-Some.is)) c.pop_number_in.ensures.popped
