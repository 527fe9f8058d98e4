-- What a step leaves running in each stage, of what ran there.
use Rattle.std.specs.Prelude.{ℕ, if◌then◌else◌, List, [], ◌∷◌, ◌++◌, filter, take, Bool, not, ◌&&◌, Option}
use Rattle.pipe_types.specs.declared.numbers.StageNo.{StageNo}
use Rattle.pipe_types.specs.declared.topology.Topology.{Topology}
use Rattle.pipe_types.specs.declared.message.Reply.{Reply}
use Rattle.pipe_types.specs.declared.step.Step.{Step}
use Rattle.pipe_types.specs.declared.step.Step.TheVariants.{Take, Done, Child, ChildEnd, Kill, Halt}
use Rattle.pipe_types.specs.Numbers.{same_stage}
use Rattle.pipe_types.specs.Stages.{spec_of}
use Rattle.pipe_model.specs.History.{History}
use Rattle.pipe_model.specs.Posts.{in_slot}
use Rattle.pipe_model.specs.Lives.{kill_set}
use Rattle.pipe_model.specs.Content.{has_crash}
use Rattle.pipe_model.specs.Flow.{among, inbox, is_number, runs_again, units_on}
use Rattle.pipe_model.specs.Ledger.{crashed_reply, crashes_of}
use Rattle.pipe_model.specs.Legal.{has_role, is_processor_role}
use Rattle.queue_laws.specs.Queues.{unless_killed}

-- the ended child's message runs no more: it does not crash, or it is not run again
abbrev pub stops_running : Topology → History → StageNo → (slot : ℕ) → Reply → Bool
stops_running topology before t slot reply = not (crashed_reply reply && runs_again (spec_of topology t) (crashes_of before (in_slot before t slot)))

-- the numbers without that of the slot
abbrev pub without_slot : Option ℕ → List ℕ → List ℕ
without_slot ended numbers = filter (λ n. not (is_number ended n)) numbers

-- what runs in the stage after the step, in the order in which it was sent there
abbrev pub running_after : Topology → History → Step → StageNo → List ℕ → List ℕ
running_after topology before (Take t u k) s old = if same_stage s t && has_role topology t is_processor_role then take k (units_on u (inbox topology before t)) else old
running_after topology before (Done t replies) s old = if same_stage s t && not (has_crash replies) then [] else old
running_after topology before (Child t m slot) s old = if same_stage s t && not (among old m.0) then old ++ m.0 ∷ [] else old
running_after topology before (ChildEnd t slot reply) s old =
    if same_stage s t && stops_running topology before t slot reply then without_slot (in_slot before t slot) old else old
running_after topology before (Kill t why) s old = unless_killed (kill_set topology before (Kill t why)) s old
running_after topology before Halt s old = unless_killed (kill_set topology before Halt) s old
running_after topology before _ s old = old
