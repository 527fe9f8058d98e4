-- Journals whose handlers pass every message and every batch.
use Rattle.std.specs.Prelude.{Bool, true, [], ◌∷◌, ◌&&◌}
use Rattle.std.specs.List.{list_all}
use Rattle.pipe_types.specs.declared.message.BatchEnd.TheVariants.{Outcomes}
use Rattle.pipe_types.specs.declared.step.Step.{Step}
use Rattle.pipe_types.specs.declared.step.Step.TheVariants.{Done, Wrote, ChildEnd}
use Rattle.pipe_types.specs.Handlers.{is_successful}
use Rattle.pipe_model.specs.History.{History}
use Rattle.stage_callback.specs.Callbacks.{is_passed}

-- each reply of the step is a pass, and each outcome of a batch a success
abbrev pub passes : Step → Bool
passes (Done s replies) = list_all is_passed replies
passes (Wrote s bytes (Outcomes outcomes)) = list_all is_successful outcomes
passes (ChildEnd s slot reply) = is_passed reply
passes _ = true

-- each step of the journal passes
abbrev pub all_pass : History → Bool
all_pass [] = true
all_pass (step ∷ before) = all_pass before && passes step
