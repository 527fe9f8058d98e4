-- Tokens at home and away.
use Rattle.std.specs.Prelude.{ℕ, suc, List, [], ◌∷◌, Option, Some, None, slice_get, option_map}
use Rattle.pipe_types.specs.declared.numbers.Post.{Post}
use Rattle.pipe_types.specs.Numbers.{stage, post}
use Rattle.turn_checks.specs.declared.tokens.Token.{Token}
use Rattle.turn_checks.specs.declared.tokens.Job.{Job}
use Rattle.turn_checks.specs.declared.logbook.Entry.{Entry}
use Rattle.turn_checks.specs.declared.logbook.Entry.TheVariants.{Out}

abbrev pub there : Option (Option Token) → Option Token
there (Some (Some t)) = Some t
there _ = None

-- the token of a stage, if it is at home
abbrev pub token_at : List (Option Token) → ℕ → Option Token
token_at tokens s = there (slice_get tokens s)

-- the posts of the stages, from this one on, whose tokens are away
abbrev pub away_from : ℕ → List (Option Token) → List Post
away_from s [] = []
away_from s (None ∷ tokens) = post (stage s) 0 ∷ away_from (suc s) tokens
away_from s (Some t ∷ tokens) = away_from (suc s) tokens

-- the post of a job that is brought, and of one that an entry puts out
abbrev pub brought_post : Option Job → Option Post
brought_post brought = option_map (λ job. job.post) brought

abbrev pub entry_post : Entry → Option Post
entry_post (Out job) = Some job.post
entry_post _ = None
