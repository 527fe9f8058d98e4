-- Steps that a pipeline takes of its own accord.
use Rattle.std.specs.Prelude.{Bool, true, false}
use Rattle.pipe_types.specs.declared.step.Step.{Step}
use Rattle.pipe_types.specs.declared.step.Step.TheVariants.{Ask, Dispatch, Gather, Close, Restart, Drain, Halt}

-- the step begins no job and answers none, and is no kill of one stage, no tick and no refused line
abbrev pub is_own_step : Step → Bool
is_own_step (Ask u n) = true
is_own_step (Dispatch s) = true
is_own_step (Gather s m) = true
is_own_step (Close s first trigger) = true
is_own_step (Restart s) = true
is_own_step (Drain cause) = true
is_own_step Halt = true
is_own_step _ = false
