-- The messages of the job that is out at a post.
use Rattle.std.specs.Prelude.{ℕ, if◌then◌else◌, List, [], Option, None, Some, slice_get, option_map, option_to_list}
use Rattle.pipe_types.specs.declared.numbers.StageNo.{StageNo}
use Rattle.pipe_types.specs.declared.numbers.MsgNo.{MsgNo}
use Rattle.pipe_types.specs.declared.numbers.Post.{Post}
use Rattle.pipe_types.specs.declared.topology.Topology.{Topology}
use Rattle.pipe_types.specs.Numbers.{message_no}
use Rattle.pipe_model.specs.History.{History}
use Rattle.pipe_model.specs.Posts.{is_out, in_slot}
use Rattle.pipe_model.specs.Content.{producer_of}
use Rattle.pipe_model.specs.Work.{taken_units}
use Rattle.pipe_model.specs.Legal.{has_role, is_processor_role, is_supervisor_role}

-- what a processor took last, or the message that was last started in the slot of a supervisor
abbrev pub job_units : Topology → History → Post → List ℕ
job_units topology before p =
    if has_role topology p.stage is_processor_role
    then taken_units topology before p.stage
    else (if has_role topology p.stage is_supervisor_role then option_to_list (in_slot before p.stage p.slot) else [])

-- the message with its producer
abbrev pub with_producer : History → Option ℕ → Option (MsgNo × StageNo)
with_producer before None = None
with_producer before (Some n) = option_map (λ s. (message_no n, s)) (producer_of before n)

-- number and producer of the message at that place, from 0, of the chunk or the child that is out at the post; none where no
-- job is out there, where the job is no chunk and no child, or where it has no such place
abbrev pub named_at : Topology → History → Post → (at : ℕ) → Option (MsgNo × StageNo)
named_at topology before p at =
    if is_out before p then with_producer before (slice_get (job_units topology before p) at) else None
