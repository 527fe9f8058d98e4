-- Lists of different lengths.
use Rattle.std.proofs.Common.{◌≡◌, ◌≢◌, ℕ, suc, ◌+◌, ◌-◌, ◌<◌, ◌≤◌, false, List, [], ◌∷◌, length, drop, refl, ap, sym, ◌∙◌, arith}
use Rattle.std.specs.Prelude.{Bool, ◌&&◌, ◌==◌, true}
use Rattle.std.proofs.lemmas.Bool.Decides.{nat_tests}
use Rattle.std.proofs.lemmas.List.{drop_all, drop_more, length-drop}
use Rattle.pipe_types.specs.declared.message.Message.{Message}
use Rattle.pipe_types.specs.declared.message.Reply.{Reply}
use Rattle.pipe_types.specs.declared.message.Outcome.{Outcome}
use Rattle.pipe_types.specs.Handlers.{are_own_replies}
use Rattle.pipe_model.specs.Work.{same_reply, same_replies, same_outcome, same_outcomes}

and_none : (b : Bool) → (b && false) ≡ false
and_none true = refl
and_none false = refl

pub other_replies : (a b : List Reply) → (length a ≡ length b → ⊥) → false ≡ same_replies a b
other_replies [] [] other = absurd (other refl)
other_replies [] (q ∷ b) other = refl
other_replies (r ∷ a) [] other = refl
other_replies (r ∷ a) (q ∷ b) other = sym (ap (λ rest. same_reply r q && rest) (sym (other_replies a b (λ e. other (ap suc e)))) ∙ and_none (same_reply r q))

pub other_outcomes : (a b : List Outcome) → (length a ≡ length b → ⊥) → false ≡ same_outcomes a b
other_outcomes [] [] other = absurd (other refl)
other_outcomes [] (q ∷ b) other = refl
other_outcomes (r ∷ a) [] other = refl
other_outcomes (r ∷ a) (q ∷ b) other = sym (ap (λ rest. same_outcome r q && rest) (sym (other_outcomes a b (λ e. other (ap suc e)))) ∙ and_none (same_outcome r q))

-- a message without a reply
pub no_reply : (batchers : ℕ) (messages : List Message) (replies : List Reply) (i : ℕ) → i < length messages → length replies ≤ i → false ≡ are_own_replies batchers (drop i messages) (drop i replies)
no_reply batchers messages replies i within past = sym (ap (are_own_replies batchers (drop i messages)) (drop_all i replies past) ∙ some (drop i messages) (omega (arith, length-drop i messages)))
  where
    some : (ms : List Message) → 0 < length ms → are_own_replies batchers ms [] ≡ false
    some [] none = absurd (omega arith)
    some (m ∷ ms) more = refl

-- replies behind the last message
pub all_replied : (batchers : ℕ) (messages : List Message) (replies : List Reply) (i : ℕ) → length messages ≤ i → i ≤ length messages → i ≤ length replies
    → length replies == length messages ≡ are_own_replies batchers (drop i messages) (drop i replies)
all_replied batchers messages replies i past upto within =
    left (length replies) (length messages) (length (drop i replies)) (omega (arith, length-drop i replies)) (omega arith)
    ∙ sym (ap (λ ms. are_own_replies batchers ms (drop i replies)) (drop_all i messages past) ∙ ends (drop i replies))
  where
    not_none : (n : ℕ) → false ≡ (suc n == 0)
    not_none n = grind (arith, nat_tests)

    ends : (rs : List Reply) → are_own_replies batchers [] rs ≡ (length rs == 0)
    ends [] = refl
    ends (r ∷ rs) = not_none (length rs)

    left : (a b c : ℕ) → c ≡ a - b → b ≤ a → a == b ≡ (c == 0)
    left a b c is below = grind (arith, nat_tests)
