-- Texts of batches, message by message.
use Rattle.std.proofs.Common.{◌≡◌, ℕ, ◌≤◌, List, [], ◌∷◌, ◌++◌, length, drop, refl, ap, sym, ◌∙◌}
use Rattle.std.specs.Prelude.{Bool}
use Rattle.std.proofs.lemmas.List.{drop_all, append-nil}
use Rattle.pipe_types.specs.declared.message.Message.{Message}
use Rattle.pipe_types.specs.declared.message.Outcome.{Outcome}
use Rattle.pipe_types.specs.Handlers.{lines_where}

no_lines : (test : Outcome → Bool) (messages : List Message) → lines_where test messages [] ≡ []
no_lines test [] = refl
no_lines test (m ∷ messages) = refl

-- no outcome is left
pub lines_end : (test : Outcome → Bool) (messages : List Message) (outcomes : List Outcome) (i : ℕ) (text : List ℕ) → length outcomes ≤ i → text ≡ text ++ lines_where test (drop i messages) (drop i outcomes)
lines_end test messages outcomes i text past =
    sym (ap (λ os. text ++ lines_where test (drop i messages) os) (drop_all i outcomes past) ∙ ap (λ t. text ++ t) (no_lines test (drop i messages)) ∙ append-nil text)
