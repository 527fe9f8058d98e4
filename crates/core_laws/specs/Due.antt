-- What is appended, kept or booked without memory, by the journal.
use Rattle.std.specs.Prelude.{ℕ, ◌+◌, Bool, true, false, length, sum_by}
use Rattle.pipe_types.specs.declared.numbers.StageNo.{StageNo}
use Rattle.pipe_types.specs.declared.topology.Topology.{Topology}
use Rattle.pipe_types.specs.declared.step.Step.{Step}
use Rattle.pipe_types.specs.declared.step.Step.TheVariants.{Fetch, Take}
use Rattle.pipe_types.specs.Numbers.{post}
use Rattle.pipe_model.specs.Counting.{as_number}
use Rattle.pipe_model.specs.Flow.{first_in}
use Rattle.pipe_model.specs.History.{History, accepted}
use Rattle.pipe_model.specs.Legal.{fetches_out}
use Rattle.pipe_model.specs.Posts.{is_out, slots}
use Rattle.pipe_model.specs.Lives.{is_live}
use Rattle.pipe_model.specs.Taken.{closed_as}
use Rattle.pipe_model.specs.Work.{taken_units}
use Rattle.core_laws.specs.Columns.{closed_numbers}

-- how many posts of the stage are out
abbrev pub posts_out : History → StageNo → ℕ
posts_out before s = sum_by (λ slot. as_number (is_out before (post s slot))) slots

-- one step for the stage where it is live, by which it may be killed, and one for each of its posts that is out, which answers it
abbrev pub due_at : Topology → History → StageNo → ℕ
due_at topology before s = as_number (is_live topology before s) + posts_out before s

-- the number of live stages and of posts that are out
abbrev pub due_steps : Topology → History → ℕ
due_steps topology before = sum_by (λ spec. due_at topology before spec.no) topology.stages

-- how many records are accepted, with what all fetches that are out may bring
abbrev pub booked : Topology → History → ℕ
booked topology before = accepted before + fetches_out topology before

-- how many messages the batch has that the batch processor took last
abbrev pub taken_size : Topology → History → StageNo → ℕ
taken_size topology before s = length (closed_numbers (closed_as topology before (first_in (taken_units topology before s))))

-- a fetch or a take, which makes room for its answer
abbrev pub puts_job : Step → Bool
puts_job (Fetch s n) = true
puts_job (Take s u k) = true
puts_job _ = false
