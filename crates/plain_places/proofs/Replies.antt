-- The reply to a message of a chunk, from a place on.
use Rattle.std.proofs.Common.{◌≡◌, ℕ, ◌+◌, ◌<◌, ◌≤◌, List, ◌∷◌, length, drop, get_or, Some, None, ap, ◌∙◌}
use Rattle.std.proofs.lemmas.List.{drop_more, drop_all}
use Rattle.std.specs.Prelude.{if◌then◌else◌, ◌==◌, false}
use Rattle.pipe_types.specs.declared.message.Reply.{Reply}
use Rattle.pipe_types.specs.declared.message.Reply.TheVariants.{Crashed}
use Rattle.pipe_model.specs.Flow.{reply_to}

-- no reply stands there
pub reply_none : (chunk : List ℕ) (replies : List Reply) (i n : ℕ) → i < length chunk → length replies ≤ i → reply_to (drop i chunk) (drop i replies) n ≡ None
reply_none chunk replies i n a b =
    ap (λ ms. reply_to ms (drop i replies) n) (drop_more chunk i 0 a) ∙ ap (λ rs. reply_to (get_or chunk i 0 ∷ drop (i + 1) chunk) rs n) (drop_all i replies b)

-- the reply there is to another message
pub reply_later : (chunk : List ℕ) (replies : List Reply) (i n : ℕ) → i < length chunk → i < length replies → (get_or chunk i 0 == n) ≡ false
    → reply_to (drop i chunk) (drop i replies) n ≡ reply_to (drop (i + 1) chunk) (drop (i + 1) replies) n
reply_later chunk replies i n a b other =
    ap (λ ms. reply_to ms (drop i replies) n) (drop_more chunk i 0 a)
    ∙ ap (λ rs. reply_to (get_or chunk i 0 ∷ drop (i + 1) chunk) rs n) (drop_more replies i Crashed b)
    ∙ ap (λ same. if same then Some (get_or replies i Crashed) else reply_to (drop (i + 1) chunk) (drop (i + 1) replies) n) other
