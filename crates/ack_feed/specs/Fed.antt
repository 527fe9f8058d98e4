-- What a sink got of the lines that it was sent.
use Rattle.std.specs.Prelude.{◌≡◌, ℕ, Bool, true, false, List, [], ◌∷◌, ◌++◌}
use Rattle.std.specs.List.{flat_map}
use Rattle.pipe_types.specs.Counts.{Rose}
use Rattle.ack_feed.specs.declared.lines.FeedEnd.{FeedEnd}
use Rattle.ack_feed.specs.declared.lines.FeedEnd.TheVariants.{Done, Failed}

-- the lines as one text
abbrev pub text_of : List (List ℕ) → List ℕ
text_of lines = flat_map (λ line. line) lines

-- a sink that began with these bytes holds besides a front of the text of the lines that it was sent: all but what is still to be written
abbrev pub IsFed : (begun : List ℕ) (sent : List (List ℕ)) (held rest : List ℕ) → Type 0
IsFed begun sent held rest = (got : List ℕ) × (held ≡ begun ++ got) × (got ++ rest ≡ text_of sent)

-- the lines that were sent, one more where it was not let go
abbrev pub sent_after : FeedEnd → List (List ℕ) → (line : List ℕ) → List (List ℕ)
sent_after Done sent line = sent ++ line ∷ []
sent_after Failed sent line = sent

abbrev pub is_failed : FeedEnd → Bool
is_failed Failed = true
is_failed Done = false

-- where it had not failed before, it fails only where the faults rose
abbrev pub Failing : (failed : Bool) → (faults faults' : ℕ) → FeedEnd → Type 0
Failing false faults faults' Failed = Rose faults faults'
Failing _ faults faults' _ = Unit {0}
