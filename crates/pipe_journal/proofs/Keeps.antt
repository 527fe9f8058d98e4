-- Stores that keep what they had.
use Rattle.std.proofs.Common.{◌≡◌, ℕ, true, List, [], ◌∷◌, length, refl, sym, ap, ◌∙◌, subst, Option, Some, None}
use Rattle.std.specs.Prelude.{IsSome, IfSome, replicate}
use Rattle.std.specs.List.{list_all}
use Rattle.slab.specs.Slab.{get, ContainsKey}
use Rattle.pipe_types.specs.declared.message.Outcome.{Outcome}
use Rattle.pipe_types.specs.declared.message.Reply.{Reply}
use Rattle.pipe_types.specs.declared.step.Step.{Step}
use Rattle.pipe_journal.specs.declared.store.Store.{Store}
use Rattle.pipe_journal.specs.Seen.{KeptSeen}
use Rattle.pipe_journal.specs.Grown.{Extends}
use Rattle.pipe_journal.specs.Entries.{Keeps, is_success}
use Rattle.pipe_journal.proofs.Extending.{same, twice}
use Rattle.pipe_journal.proofs.Held.{still_there}

pub same_store : (store : Store) → Keeps store store
same_store store = record { records = same _ _ refl; replies = same _ _ refl; whole = λ key is. refl }

-- only what is packed grew
pub grown : (store : Store) (kept : KeptSeen) → Extends store.kept.records kept.records → Extends store.kept.replies kept.replies
    → Keeps store (record store { kept = kept })
grown store kept records replies = record { records = records; replies = replies; whole = λ key is. refl }

pub keeps_twice : (old mid new : Store) → Keeps old mid → Keeps mid new → Keeps old new
keeps_twice old mid new first second = record {
  records = twice _ _ _ first.records second.records;
  replies = twice _ _ _ first.replies second.replies;
  whole = λ key is. second.whole key (still_there old.whole mid.whole key first.whole is) ∙ first.whole key is;
}

-- outcomes that are all successes are so many
pub all_same : (outcomes : List Outcome) → list_all is_success outcomes ≡ true → outcomes ≡ replicate (length outcomes) Outcome.Successful
all_same [] all = refl
all_same (Outcome.Successful ∷ outcomes) all = ap (λ (os : List Outcome). Outcome.Successful ∷ os) (all_same outcomes all)
all_same (Outcome.Failed why ∷ outcomes) all = let none : ⊥ = cc in absurd none

pub counted : (count : Option ℕ) (n : ℕ) (outcomes : List Outcome) → IfSome count (λ k. k ≡ n) → outcomes ≡ replicate n Outcome.Successful
    → IfSome count (λ k. outcomes ≡ replicate k Outcome.Successful)
counted None n outcomes is all = tt
counted (Some k) n outcomes is all = all ∙ ap (λ (m : ℕ). replicate m Outcome.Successful) (sym is)
