-- How the legs of a batch ended, and how its messages end by that.
use Rattle.std.specs.Prelude.{◌≡◌, ℕ, nat_eq, nat_lt, if◌then◌else◌, List, [], ◌∷◌, ◌++◌, length, map, slice_get, slice_set, unwrap_or, Option, Some, None, option_map}
use Rattle.std.specs.Map.{lookup}
use Rattle.pipe_types.specs.declared.message.Outcome.{Outcome}
use Rattle.pipe_types.specs.declared.message.Outcome.TheVariants.{Successful}
use Rattle.pipe_types.specs.declared.message.Loss.{Loss}
use Rattle.pipe_types.specs.Handlers.{is_successful}
use Rattle.pipe_types.specs.declared.message.Place.{Place}
use Rattle.pipe_types.specs.declared.message.Place.TheVariants.{Acked, Lost as LostPlace}
use Rattle.pipe_model.specs.Batches.{Leg, LegPlace, InInbox, AtWork, Answered, LegLost, lost_leg, failed_leg, settled_as}
use Rattle.message_ack.specs.declared.legs.LegEnd.{LegEnd}
use Rattle.message_ack.specs.declared.legs.LegEnd.TheVariants.{Answered as AnsweredEnd, Lost as LostEnd}
use Rattle.message_ack.specs.declared.legs.Settled.{Settled}
use Rattle.message_ack.specs.declared.legs.Settled.TheVariants.{Outcomes, Lost as LostBatch}

-- a batch that was sent: how many messages it has, and how each of its legs ended, none where it has not
pub record Ends : Type 0 where
  pub messages : ℕ
  pub ends : List (Option LegEnd)

-- the batch with that number, of those that were sent and are not settled
abbrev pub sent_in : List (ℕ × Ends) → (batch : ℕ) → Option Ends
sent_in batches b = lookup (nat_eq b) batches

-- how a leg that stands so ended
abbrev pub end_of : LegPlace → Option LegEnd
end_of InInbox = None
end_of AtWork = None
end_of (Answered outcomes) = Some (AnsweredEnd outcomes)
end_of (LegLost loss) = Some (LostEnd loss)

-- how these legs ended
abbrev pub ends_of : List Leg → List (Option LegEnd)
ends_of legs = map (λ leg. end_of leg.place) legs

-- an answered leg has an outcome for each message
abbrev pub HasOutcomes : (messages : ℕ) → Option LegEnd → Type 0
HasOutcomes messages (Some (AnsweredEnd outcomes)) = length outcomes ≡ messages
HasOutcomes messages _ = Unit {0}

-- there is room for the outcome of each message, but where there is one leg alone
abbrev pub IsRoomFor : (messages room legs : ℕ) → Type 0
IsRoomFor messages room legs = ¬ (legs ≡ 1) → room ≡ messages

-- a batch of so many messages with one leg more, which has not ended
abbrev pub with_leg : (messages : ℕ) → Option Ends → Ends
with_leg messages None = record { messages = messages; ends = None ∷ [] }
with_leg messages (Some b) = record { messages = b.messages; ends = b.ends ++ None ∷ [] }

-- the ends of a batch's legs, one more ended
abbrev pub with_end : Option Ends → (leg : ℕ) → LegEnd → Option Ends
with_end batch leg end = option_map (λ b. record { messages = b.messages; ends = slice_set b.ends leg (Some end) }) batch

-- why the whole batch was lost
abbrev pub loss_in : Settled → Option Place
loss_in (LostBatch loss) = Some (LostPlace loss)
loss_in (Outcomes outcomes) = None

-- where a settled batch leaves the message at that place of it
abbrev pub place_in : Settled → ℕ → Option Place
place_in (LostBatch loss) i = Some (LostPlace loss)
place_in (Outcomes outcomes) i = option_map (λ o. Acked o) (slice_get outcomes i)

-- the batch was settled by these legs: lost as the least that was lost, and else each of its messages has an outcome, by
-- the least leg that failed it
pub record IsSettledBy (messages : ℕ) (legs : List Leg) (settled : Settled) : Type 0 where
  pub lost : loss_in settled ≡ lost_leg legs
  pub outcomes : loss_in settled ≡ None → (i : ℕ) → place_in settled i ≡ (if nat_lt i messages then Some (settled_as None (failed_leg legs i)) else None)

-- What the ends say, whatever subscriptions the legs have

-- how the least leg that was lost was lost
abbrev pub loss_of_ends : List (Option LegEnd) → Option Loss
loss_of_ends [] = None
loss_of_ends (Some (LostEnd loss) ∷ ends) = Some loss
loss_of_ends (_ ∷ ends) = loss_of_ends ends

-- the outcome of the message at that place by one leg
abbrev pub outcome_of_end : Option LegEnd → ℕ → Outcome
outcome_of_end (Some (AnsweredEnd outcomes)) i = unwrap_or (slice_get outcomes i) Successful
outcome_of_end _ i = Successful

-- and by all: as the least leg says that failed it
abbrev pub outcome_of_ends : List (Option LegEnd) → ℕ → Outcome
outcome_of_ends [] i = Successful
outcome_of_ends (end ∷ ends) i = if is_successful (outcome_of_end end i) then outcome_of_ends ends i else outcome_of_end end i
