-- Steps by kind.
use Rattle.std.specs.Prelude.{Bool, true, false}
use Rattle.pipe_types.specs.declared.step.Step.{Step}
use Rattle.pipe_types.specs.declared.step.Step.TheVariants.{Ask, Fetch, Quiet, SourceEnd, Dispatch, Take, Done, Gather, Close, Wrote, Child, Restart, Tick, Drain, Kill, Halt, Refuse}

-- a tick, a source that has nothing or that ends, the begin of the drain, a kill, the halt, or a refused control line
abbrev pub is_clock : Step → Bool
is_clock (Tick now) = true
is_clock (Quiet s) = true
is_clock (SourceEnd s how) = true
is_clock (Drain cause) = true
is_clock (Kill s why) = true
is_clock Halt = true
is_clock (Refuse line) = true
is_clock _ = false

-- an ask, a fetch, a dispatch, a gather, or the close of a batch
abbrev pub is_flow : Step → Bool
is_flow (Ask u n) = true
is_flow (Fetch s n) = true
is_flow (Dispatch s) = true
is_flow (Gather s m) = true
is_flow (Close s first trigger) = true
is_flow _ = false

-- the step changes nothing of what handlers were shown and answered
abbrev pub keeps_works : Step → Bool
keeps_works (Take s u k) = false
keeps_works (Done s replies) = false
keeps_works (Wrote s bytes end) = false
keeps_works (Child s m slot) = false
keeps_works (Restart s) = false
keeps_works _ = true
