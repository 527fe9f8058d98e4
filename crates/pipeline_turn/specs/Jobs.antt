-- What a seat may rely on about a job that it went away to do.
use Rattle.std.specs.Prelude.{◌≡◌, ◌≢◌, ◌++◌, ◌⊎◌, ◌↔◌, true, false, List, All, Contains, Option, Some, nat_lt, if◌then◌else◌, length}
use Rattle.pipe_types.specs.declared.numbers.Post.{Post}
use Rattle.pipe_model.specs.History.{History}
use Rattle.pipe_model.specs.Posts.{answers, is_out}

-- the whole journal begins with the seen one, and no later step answers the post
pub record IsUnanswered (whole seen : History) (post : Post) : Type 0 where
  pub later : History
  pub is : whole ≡ later ++ seen
  pub silent : All (λ step. answers step post ≡ false) later

-- the post is out, and no step after the seen journal answers it
abbrev pub IsUndone : History → History → Post → Type 0
IsUndone whole seen post = (is_out whole post ≡ true) × IsUnanswered whole seen post

-- the post is out, and was put out since the value was taken, or was the seat's own before
abbrev pub IsOwnJob : Option Post → History → History → Post → Type 0
IsOwnJob own taken given post = (is_out given post ≡ true) × (own ≢ Some post → is_out taken post ≡ false)

-- a post is away from the value that is given just where the seat goes away with it, or where it was away from the value
-- that was taken and is not the seat's own
abbrev pub AreAway : (own job : Option Post) → (taken given : List Post) → Type 0
AreAway own job taken given = (post : Post) → Contains given post ↔ ((job ≡ Some post) ⊎ (Contains taken post × (own ≢ Some post)))

-- the longer of two journals
abbrev pub longer : History → History → History
longer a b = if nat_lt (length a) (length b) then b else a
