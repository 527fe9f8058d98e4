-- What a watch has seen of a journal.
use Rattle.std.specs.Prelude.{Bool, true, false}
use Rattle.pipe_model.specs.Begins.{BeginsWith}
use Rattle.pipe_model.specs.History.{History}
use Rattle.pipe_journal.specs.declared.watch.WatchEnd.{WatchEnd}
use Rattle.pipe_journal.specs.declared.watch.WatchEnd.TheVariants.{Done, Failed}

abbrev pub is_failure : WatchEnd → Bool
is_failure Failed = true
is_failure _ = false

-- all of it, or a part of it
abbrev pub StandsOn : WatchEnd → (stands : History → Type 0) → History → Type 0
StandsOn Done stands steps = stands steps
StandsOn _ stands steps = (earlier : History) × stands earlier × BeginsWith steps earlier
