-- What steps do to legs.
use Rattle.pipe_types.specs.declared.numbers.SubNo.{SubNo}
use Rattle.pipe_model.specs.History.{history, incarnation}
use Rattle.pipe_model.specs.Lives.{reason_in}
use Rattle.pipe_model.specs.Batches as model
use Rattle.plain_batches.specs.declared.legs.LegChange.{LegChange}
use Rattle.plain_batches.specs.declared.legs.LegChange.TheVariants.{Taken, Answered, Killed}

-- the change of a leg on this subscription
abbrev pub change_of : LegChange → SubNo → model.LegPlace → model.LegPlace
change_of (Taken s) = model.leg_taken s
change_of (Answered s outcomes) = model.leg_answered s outcomes.now
change_of (Killed set steps) = λ u. model.leg_lost (reason_in set.now u.consumer) (incarnation (history steps.now) u.consumer) u
