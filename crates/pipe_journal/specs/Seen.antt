-- What contracts see of the kept records and replies.
use Rattle.std.specs.Prelude.{ℕ, List}
use Rattle.pipe_types.specs.declared.message.Reply.{Reply}

-- in the order in which they came
pub record KeptSeen : Type 0 where
  pub records : List (List ℕ)
  pub replies : List Reply
