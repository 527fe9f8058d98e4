-- What contracts see of a turn and of a seat.
use Rattle.std.specs.Prelude.{◌≡◌, ℕ, ◌<◌, List, [], ◌∷◌, Option, Some, None, IsSome, Bool, true, false}
use Rattle.std.proofs.lemmas.Bool.{false≢true}
use Rattle.atomic_table.specs.Table.{Me}
use Rattle.atomic_table.specs.Seated.{TableId}
use Rattle.pipe_types.specs.declared.numbers.Post.{Post}
use Rattle.pipe_model.specs.History.{History}
use Rattle.pipeline_turn.specs.declared.view.View.{View}
use Rattle.pipeline_turn.specs.declared.view.Handed.{Handed}

-- which turn it is, and the parts that its seats have together
pub record TurnView : Type 0 where
  pub identity : TableId
  pub parts : ℕ

-- A seat of that turn. `origin` is the start of the value, `seen` the journal of the value that the seat had last,
-- `away` the posts that were away from the value as the seat took it last, `job` the post of the job that it went away
-- to do, `holds` whether it has the value, and `misses` how often it found it away
pub record SeatView (O : Type 0) : Type 0 where
  pub turn : TableId
  pub parts : ℕ
  pub origin : O
  pub seen : History
  pub away : List Post
  pub job : Option Post
  pub holds : Bool
  pub misses : ℕ

-- it has neither the value nor a job
abbrev pub IsIdle : {O : Type 0} → SeatView O → Type 0
IsIdle seat = (seat.holds ≡ false) × (seat.job ≡ None)

-- the origin of a seat that has not been joined into another
abbrev pub the : {O : Type 0} → (origin : Option O) → IsSome origin → O
the (Some o) e = o
the None e = absurd (false≢true e)

-- the seat of the same turn and the same origin, with as many parts
pub record IsSameSeat {O : Type 0} (before after : SeatView O) : Type 0 where
  pub turn : after.turn ≡ before.turn
  pub parts : after.parts ≡ before.parts
  pub origin : after.origin ≡ before.origin

abbrev pub seat_view : {O : Type 0} → TableId → View O → O → SeatView O
seat_view turn v origin = record { turn = turn; parts = v.parts; origin = origin; seen = v.seen; away = v.away; job = v.job; holds = v.holds; misses = v.misses }

-- the slot that a seat holds while it has the value: it is empty then
abbrev pub carried : {V : Type 0} → Bool → List (ℕ × Option (Handed V))
carried false = []
carried true = (0, None) ∷ []

-- between calls a seat has a part, nothing to settle, and the slot exactly while it has the value
pub record IsSound {V O : Type 0} (me : Me (Option (Handed V)) (View O)) : Type 0 where
  pub part : 0 < me.0.parts
  pub settled : me.0.told ≡ []
  pub carries : me.1 ≡ carried me.0.holds

-- a word for the place of the value, one for the count of news and one for that of sleepers, and the slot where the value lies at home
abbrev pub HasOneSlot : TableId → Type 0
HasOneSlot id = (id.words ≡ 3) × (id.slots ≡ 1)
