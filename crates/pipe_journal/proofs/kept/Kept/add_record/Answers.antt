use Rattle.std.proofs.Common.{◌≡◌, ◌∙◌, ◌∷◌, [], ◌++◌, ap, refl, subst, List, ℕ, OnOk}
use Rattle.pipe_journal.specs.Seen.{KeptSeen}
use Rattle.pipe_journal.specs.Grown.{Extends}
use Rattle.pipe_journal.proofs.Extending.{same}
use Rattle.pipe_journal.proofs.Keeping.{all_found, same_replies}
use Rattle.pipe_journal.proofs.kept.Kept.add_record.Goals as goal

pub invariant_of-self : goal.invariant_of-self
invariant_of-self c =
    let k = c.self.inside in
    all_found k.records c.push.new.self k.words k.words k.reasons.items k.reasons.items c.push.ensures.extends (same _ _ refl) (same _ _ refl)
    k.replies.items c.self.invariant

pub returns-clause-added : goal.returns-clause-added
returns-clause-added c =
    subst (λ (text : List ℕ). OnOk c.push.result (c.push.new.self ≡ c.args.self.now.records ++ text ∷ [])) c.as_slice.ensures
    (subst (λ (texts : List (List ℕ)). OnOk c.push.result (c.push.new.self ≡ texts ++ c.as_slice.result.now ∷ []))
    (ap (λ (seen : KeptSeen). seen.records) c.self.view_is) c.push.ensures.added)

pub returns-clause-extends : goal.returns-clause-extends
returns-clause-extends c =
    subst (λ (texts : List (List ℕ)). Extends texts c.push.new.self) (ap (λ (seen : KeptSeen). seen.records) c.self.view_is) c.push.ensures.extends

pub returns-clause-replies : goal.returns-clause-replies
returns-clause-replies c =
    let k = c.self.inside in
    same_replies k.records c.push.new.self k.words k.words k.reasons.items k.reasons.items c.push.ensures.extends (same _ _ refl) (same _ _ refl)
    k.replies.items c.self.invariant
    ∙ ap (λ (seen : KeptSeen). seen.replies) c.self.view_is
