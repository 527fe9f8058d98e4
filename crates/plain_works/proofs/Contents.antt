-- Messages by their numbers, one more at a time.
use Rattle.std.proofs.Common.{◌≡◌, ℕ, List, [], ◌∷◌, ◌++◌, refl}
use Rattle.std.specs.Prelude.{Option, Some, None}
use Rattle.std.specs.List.{cons_option}
use Rattle.pipe_types.specs.declared.message.Message.{Message}
use Rattle.pipe_model.specs.History.{History}
use Rattle.pipe_model.specs.Content.{content}
use Rattle.pipe_model.specs.Work.{messages_of}

pub front_more : (before : History) (n : ℕ) (ns : List ℕ) → messages_of before (n ∷ []) ++ messages_of before ns ≡ messages_of before (n ∷ ns)
front_more before n ns = by (content before n)
  where
    by : (o : Option Message) → cons_option o [] ++ messages_of before ns ≡ cons_option o (messages_of before ns)
    by None = refl
    by (Some m) = refl
