use Rattle.std.proofs.Common.{◌≡◌, ◌∙◌, ◌<◌, ap, sym, subst, length, slice_get, arith}
use Rattle.std.specs.Prelude.{remove, IfSome, vec_capacity}
use Rattle.batcher.specs.Seen.{entries_of, HasRoom}
use Rattle.batcher.proofs.Gathers.{Entries}
use Rattle.batcher.proofs.open.OpenBatches.remove.Goals as goal

pub remove_in-requires-clause-within : goal.remove_in-requires-clause-within
remove_in-requires-clause-within c = subst (λ (es : Entries). c.args.at < length es) (sym c.self.view_is ∙ ap entries_of c.in-Some.is) c.requires

pub remove_in-requires-clause-room : goal.remove_in-requires-clause-room
remove_in-requires-clause-room c = subst (λ o. IfSome o (HasRoom (vec_capacity c.self.inside.copy))) c.in-Some.is c.self.invariant

pub unreachable-requires : goal.unreachable-requires
unreachable-requires c =
    let none : c.args.at < 0 = subst (λ (es : Entries). c.args.at < length es) (sym c.self.view_is ∙ ap entries_of c.in-None.is) c.requires in
    absurd (omega (arith, none))

pub returns-clause-entry : goal.returns-clause-entry
returns-clause-entry c = ap (λ (es : Entries). slice_get es c.args.at) (sym c.self.view_is ∙ ap entries_of c.in-Some.is) ∙ c.remove_in.ensures.entry

pub returns-clause-entries : goal.returns-clause-entries
returns-clause-entries c = c.remove_in.ensures.entries ∙ ap (λ (es : Entries). remove es c.args.at) (sym (sym c.self.view_is ∙ ap entries_of c.in-Some.is))
