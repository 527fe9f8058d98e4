-- Which reply is the last, and what a sink does to outcomes.
use Rattle.std.specs.Prelude.{ℕ, Bool, true, false, if◌then◌else◌, List, [], ◌∷◌, ◌++◌}
use Rattle.pipe_types.specs.declared.message.Message.{Message}
use Rattle.pipe_types.specs.declared.message.Reply.{Reply}
use Rattle.pipe_types.specs.declared.message.Outcome.{Outcome}
use Rattle.pipe_types.specs.declared.message.Outcome.TheVariants.{Successful, Failed}
use Rattle.pipe_types.specs.Handlers.{is_crashed, ends_batch, is_successful}
use Rattle.pipe_model.specs.Work.{sink_reason, is_failed_by_sink}

-- the last reply to a chunk, or to a batch
abbrev pub last_test : (crash_alone : Bool) → Reply → Bool
last_test true = is_crashed
last_test false = ends_batch

-- the outcome is successful, or failed by the sink
abbrev pub outcome_test : (by_sink : Bool) → Outcome → Bool
outcome_test true = is_failed_by_sink
outcome_test false = is_successful

-- a success fails by the sink
abbrev pub outcome_by_sink : Outcome → Outcome
outcome_by_sink Successful = Failed sink_reason
outcome_by_sink (Failed why) = Failed why

-- a failure by the sink was a success
abbrev pub outcome_undone : Outcome → Outcome
outcome_undone o = if is_failed_by_sink o then Successful else o

-- the payload and LF of the message, where its outcome passes the test
abbrev pub line_where : (Outcome → Bool) → Message → Outcome → List ℕ
line_where test m o = if test o then m.payload ++ 10 ∷ [] else []
