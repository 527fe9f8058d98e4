-- What a round comes to, by how the hold came out.
use Rattle.std.specs.Prelude.{◌≡◌, Bool, true, false, Option, Some, None, Result, Ok, Err}
use Rattle.std.specs.declared.alloc.AllocError.{AllocError}
use Rattle.stage_holds.specs.declared.holding.Next.{Next}
use Rattle.stage_holds.specs.declared.holding.Next.TheVariants as next
use Rattle.stage_holds.specs.declared.loads.Load.{Load}
use Rattle.run_pipe.specs.Ends.{HasMemory}
use Rattle.run_pipe.specs.declared.ends.RunEnd.{RunEnd}
use Rattle.run_pipe.specs.declared.ends.RunEnd.TheVariants as end
use Rattle.stage_workers.specs.declared.shift.Round.{Round}
use Rattle.stage_workers.specs.declared.shift.Round.TheVariants.{Job, Waits, Again, Ended}

-- what a worker does after a hold
abbrev pub round_of : {B : Type 0} → Result (Next B) AllocError → Round (Load B)
round_of (Ok (next.Job load)) = Job load
round_of (Ok next.JobsOut) = Waits
round_of (Ok next.Paused) = Again
round_of _ = Ended

-- and how the run has ended then, if it has
abbrev pub end_of : {B : Type 0} → Result (Next B) AllocError → Option (Result RunEnd AllocError)
end_of (Ok next.Drained) = Some (Ok end.Drained)
end_of (Ok next.Halted) = Some (Ok end.Halted)
end_of (Ok _) = None
end_of (Err e) = Some (Err e)

-- the same, once the watch was shown the journal: where memory was wanting for that, a job that was begun is done all the same, and the run has ended
abbrev pub cut_short : {L : Type 0} → Round L → Round L
cut_short (Job load) = Job load
cut_short _ = Ended

abbrev pub round_shown : {T L : Type 0} → (shown : Result T AllocError) → Round L → Round L
round_shown (Ok t) round = round
round_shown (Err e) round = cut_short round

abbrev pub end_shown : {T : Type 0} → (shown : Result T AllocError) → Option (Result RunEnd AllocError) → Option (Result RunEnd AllocError)
end_shown (Ok t) end = end
end_shown (Err e) end = Some (Err e)

-- a job was begun, or time has passed
abbrev pub Goes : {L : Type 0} → Round L → Type 0
Goes (Job load) = Unit {0}
Goes Again = Unit {0}
Goes _ = ⊥

abbrev pub IsWaiting : {L : Type 0} → Round L → Type 0
IsWaiting Waits = Unit {0}
IsWaiting _ = ⊥

abbrev pub HasPaused : {L : Type 0} → Round L → Type 0
HasPaused Again = Unit {0}
HasPaused _ = ⊥

abbrev pub begins_job : {L : Type 0} → Round L → Bool
begins_job (Job load) = true
begins_job _ = false

-- there is more to do
abbrev pub IsOn : {L : Type 0} → Round L → Type 0
IsOn Ended = ⊥
IsOn _ = Unit {0}

-- and the run has not ended; but a worker that has begun a job does it also where memory was wanting for the watch
abbrev pub GoesOn : {L : Type 0} → Round L → Option (Result RunEnd AllocError) → Type 0
GoesOn (Job load) end = HasMemory end → end ≡ None
GoesOn _ end = end ≡ None

abbrev pub IsOver : {L : Type 0} → Round L → Type 0
IsOver Ended = Unit {0}
IsOver _ = ⊥
