-- Killed incarnations: the answers that come late, and the bodies of the stage's next incarnation.
use Rattle.std.specs.Prelude.{◌≡◌, ℕ, false, IsTrue, Option}
use Rattle.pipe_types.specs.declared.numbers.StageNo.{StageNo}
use Rattle.pipe_types.specs.declared.topology.Topology.{Topology}
use Rattle.pipe_types.specs.Numbers.{same_stage}
use Rattle.stage_bodies.specs.Seen.{BodySeen}
use Rattle.stage_bodies.specs.Jobs.{Both, IsResetBody}
use Rattle.stage_bodies.specs.Posts.{place_at}
use Rattle.body_laws.specs.Keeps.{has_post}
use Rattle.pipe_types.specs.declared.numbers.Post.{Post}
use Rattle.pipe_types.specs.declared.step.LateAnswer.{LateAnswer}
use Rattle.pipe_types.specs.declared.step.LateAnswer.TheVariants as late
use Rattle.pipe_types.specs.declared.step.Step.{Step}
use Rattle.pipe_types.specs.declared.step.Step.TheVariants.{Late}
use Rattle.stage_bodies.specs.declared.job.Outcome.{Outcome}
use Rattle.stage_bodies.specs.declared.job.Outcome.TheVariants as came

-- what is late of an answer: what a source gave and a sink got
abbrev pub late_of : Outcome → LateAnswer
late_of (came.Records records) = late.Records records
late_of came.NotYet = late.Quiet
late_of (came.Ended how) = late.Source how
late_of (came.Replies replies) = late.Nothing
late_of (came.Wrote bytes end) = late.Wrote bytes end
late_of (came.Reply reply) = late.Nothing

-- the step that records the answer of a post that went out from this incarnation
abbrev pub late_step : Post → (incarnation : ℕ) → Outcome → Step
late_step p i outcome = Late p.stage p.slot i (late_of outcome)

-- ---- restarts

-- the bodies of the stage's posts are reset, and the others are as they were
pub record AreReset (topology : Topology) (s : StageNo) (now after : ℕ → Option BodySeen) : Type 0 where
  pub here : (p : Post) → IsTrue (has_post topology p) → p.stage ≡ s → Both IsResetBody (now (place_at p)) (after (place_at p))
  pub elsewhere : (p : Post) → IsTrue (has_post topology p) → same_stage s p.stage ≡ false → after (place_at p) ≡ now (place_at p)
