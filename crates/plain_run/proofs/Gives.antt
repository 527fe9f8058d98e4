-- What is known of an answer whose form was tested.
use Rattle.std.proofs.Common.{◌≡◌, ℕ, List, true}
use Rattle.std.specs.Prelude.{◌||◌, ◌==◌, not}
use Rattle.pipe_types.specs.declared.numbers.StageNo.{StageNo}
use Rattle.pipe_types.specs.declared.topology.Topology.{Topology}
use Rattle.pipe_types.specs.declared.message.Reply.{Reply}
use Rattle.pipe_types.specs.declared.step.Step.TheVariants.{Done, ChildEnd}
use Rattle.pipe_types.specs.Numbers.{post}
use Rattle.pipe_model.specs.History.{History, incarnation}
use Rattle.pipe_model.specs.Posts.{is_out, out_from}
use Rattle.pipe_model.specs.Lives.{is_live}
use Rattle.pipe_model.specs.Legal.{happened, is_halt, is_late, has_role, is_processor_role, is_supervisor_role}
use Rattle.pipe_laws.proofs.Tests.{and_left, and_right}
use Rattle.core_allows.specs.Tested.{allows_tested}

-- replies are a processor's
pub replies_role : (topology : Topology) (before : History) (s : StageNo) (replies : List Reply) → allows_tested topology before (Done s replies) ≡ true → has_role topology s is_processor_role ≡ true
replies_role topology before s replies h =
    and_left (has_role topology s is_processor_role) _ (and_right (is_live topology before s) _ (and_right (not (happened is_halt before) || is_late (Done s replies)) _ h))

-- a child that ends is out
pub reply_out : (topology : Topology) (before : History) (s : StageNo) (slot : ℕ) (reply : Reply) → allows_tested topology before (ChildEnd s slot reply) ≡ true → is_out before (post s slot) ≡ true
reply_out topology before s slot reply h =
    let row = and_right (is_live topology before s) _ (and_right (not (happened is_halt before) || is_late (ChildEnd s slot reply)) _ h) in
    and_left (is_out before (post s slot)) (out_from before (post s slot) == incarnation before s) (and_right (has_role topology s is_supervisor_role) _ row)
