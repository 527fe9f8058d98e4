-- What is tested of an answer: the model's rows, without the part that says that it is the handlers'.
use Rattle.std.specs.Prelude.{ℕ, Bool, true, false, if◌then◌else◌, ◌==◌, ◌&&◌, ◌||◌, not, List, [], ◌∷◌, length}
use Rattle.pipe_types.specs.declared.numbers.StageNo.{StageNo}
use Rattle.pipe_types.specs.declared.topology.Topology.{Topology}
use Rattle.pipe_types.specs.declared.message.Reply.{Reply}
use Rattle.pipe_types.specs.declared.step.Step.{Step}
use Rattle.pipe_types.specs.declared.step.Step.TheVariants.{Done, Wrote, ChildEnd, Late}
use Rattle.pipe_types.specs.declared.step.LateAnswer.{LateAnswer}
use Rattle.pipe_types.specs.declared.step.LateAnswer.TheVariants.{Wrote as WroteAnswer}
use Rattle.pipe_types.specs.Numbers.{post}
use Rattle.pipe_types.specs.Stages.{spec_of}
use Rattle.pipe_types.specs.Handlers.{is_crashed}
use Rattle.pipe_model.specs.History.{History, incarnation}
use Rattle.pipe_model.specs.Posts.{is_out, out_from}
use Rattle.pipe_model.specs.Lives.{is_live}
use Rattle.pipe_model.specs.Flow.{chunk_by, view_of}
use Rattle.pipe_model.specs.Work.{are_handled, count, chunk_of, child_of}
use Rattle.pipe_model.specs.Legal.{may_come, happened, is_halt, is_late, has_role, is_processor_role, is_batch_processor_role, is_supervisor_role, is_current, late_fits, ends_batch}

-- each message has its reply, up to the first crash
abbrev pub answers_each : (messages : List ℕ) → List Reply → Bool
answers_each [] [] = true
answers_each (n ∷ messages) (reply ∷ replies) = if is_crashed reply then length replies == 0 else answers_each messages replies
answers_each _ _ = false

-- a live processor whose chunk is out may answer each of its messages, whatever it replies
abbrev pub may_be_done : Topology → History → StageNo → List Reply → Bool
may_be_done topology before s replies =
    is_live topology before s
    && (has_role topology s is_processor_role && (is_current before s 0 && answers_each (chunk_by (view_of topology before) s) replies))

-- a live batch processor whose batch is out may end it, whatever it wrote
abbrev pub may_be_written : Topology → History → StageNo → Bool
may_be_written topology before s = is_live topology before s && (has_role topology s is_batch_processor_role && is_current before s 0)

-- a child that is out from the present incarnation of a live supervisor may end, whatever its reply
abbrev pub may_child_end : Topology → History → StageNo → (slot : ℕ) → Bool
may_child_end topology before s slot = is_live topology before s && (has_role topology s is_supervisor_role && is_current before s slot)

-- an answer of the form that the job of the killed stage has, whatever it wrote
abbrev pub late_form : Topology → History → StageNo → LateAnswer → Bool
late_form topology before s (WroteAnswer bytes end) = has_role topology s is_batch_processor_role
late_form topology before s answer = late_fits topology before s answer

-- the job is out from that incarnation, which was killed
abbrev pub may_be_late : Topology → History → StageNo → (slot incarnation : ℕ) → LateAnswer → Bool
may_be_late topology before s slot i answer =
    is_out before (post s slot)
    && (out_from before (post s slot) == i
    && (not (is_live topology before s && incarnation before s == i) && late_form topology before s answer))

-- the row of each kind of step
abbrev pub may_come_tested : Topology → History → Step → Bool
may_come_tested topology before (Done s replies) = may_be_done topology before s replies
may_come_tested topology before (Wrote s bytes end) = may_be_written topology before s
may_come_tested topology before (ChildEnd s slot reply) = may_child_end topology before s slot
may_come_tested topology before (Late s slot i answer) = may_be_late topology before s slot i answer
may_come_tested topology before step = may_come topology before step

-- what is tested of a step where none is owed
abbrev pub allows_tested : Topology → History → Step → Bool
allows_tested topology before step = (not (happened is_halt before) || is_late step) && may_come_tested topology before step

-- what the step has of handlers is theirs: the replies to a chunk, the end of a batch with the bytes written, or the reply of a child
abbrev pub is_given : Topology → History → Step → Bool
is_given topology before (Done s replies) = are_handled (spec_of topology s) (count topology before s) (chunk_of topology before s) replies
is_given topology before (Wrote s bytes end) = ends_batch topology before s bytes end
is_given topology before (ChildEnd s slot reply) = are_handled (spec_of topology s) 0 (child_of before s slot) (reply ∷ [])
is_given topology before (Late s slot i (WroteAnswer bytes end)) = ends_batch topology before s bytes end
is_given topology before _ = true

-- the step has what handlers gave
abbrev pub is_handled : Step → Bool
is_handled (Done s replies) = true
is_handled (Wrote s bytes end) = true
is_handled (ChildEnd s slot reply) = true
is_handled (Late s slot i (WroteAnswer bytes end)) = true
is_handled _ = false
