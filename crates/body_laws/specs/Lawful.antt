-- What a journal says that the callback of a post answered, against the law of that callback.
use Rattle.std.specs.Prelude.{◌≡◌, ℕ, Bool, true, false, [], ◌∷◌, Option, Some, None, is_some}
use Rattle.pipe_types.specs.declared.numbers.StageNo.{StageNo}
use Rattle.pipe_types.specs.declared.numbers.Post.{Post}
use Rattle.pipe_types.specs.declared.message.Batch.{Batch}
use Rattle.pipe_types.specs.declared.message.BatchEnd.{BatchEnd}
use Rattle.pipe_types.specs.declared.step.LateAnswer.TheVariants.{Wrote as WroteLate}
use Rattle.pipe_types.specs.declared.step.Step.{Step}
use Rattle.pipe_types.specs.declared.step.Step.TheVariants.{Done, Wrote, ChildEnd, Late}
use Rattle.pipe_types.specs.declared.topology.StageSpec.{StageSpec}
use Rattle.pipe_types.specs.declared.topology.Topology.{Topology}
use Rattle.pipe_types.specs.Numbers.{post, same_post, same_stage}
use Rattle.pipe_types.specs.Stages.{spec_of}
use Rattle.pipe_model.specs.History.{History}
use Rattle.pipe_model.specs.Outside.{text_taken}
use Rattle.pipe_model.specs.Taken.{IsTaken}
use Rattle.pipe_model.specs.Work.{chunk_of, child_of}
use Rattle.stage_callback.specs.Laws.{Law}
use Rattle.stage_job.specs.Lawful.{AreLawful}
use Rattle.stage_bodies.specs.Lawful.{IsLawfulEnd}

-- the stage has a sink
abbrev pub has_sink : Option StageSpec → Bool
has_sink (Some spec) = is_some spec.edge
has_sink None = false

-- the end and the text of the batch that the stage took, and the bytes that were written of it, are lawful
pub record IsLawfulWrite (topology : Topology) (before : History) (s : StageNo) (bytes : ℕ) (end : BatchEnd) (law : Law) : Type 0 where
  pub asked : Batch
  pub taken : IsTaken topology before s asked
  pub lawful : IsLawfulEnd law asked (has_sink (spec_of topology s)) (text_taken topology before s end) bytes end

-- what the step says that the stage answered is lawful for its chunk or its batch, and what the child answered for its message
abbrev pub IsLawfulStep : Topology → History → Step → Post → Law → Type 0
IsLawfulStep topology before (Done s replies) p law = same_stage s p.stage ≡ true → AreLawful law (chunk_of topology before s) replies
IsLawfulStep topology before (Wrote s bytes end) p law = same_stage s p.stage ≡ true → IsLawfulWrite topology before s bytes end law
IsLawfulStep topology before (Late s slot i (WroteLate bytes end)) p law = same_stage s p.stage ≡ true → IsLawfulWrite topology before s bytes end law
IsLawfulStep topology before (ChildEnd s slot reply) p law = same_post p (post s slot) ≡ true → AreLawful law (child_of before s slot) (reply ∷ [])
IsLawfulStep topology before _ p law = Unit {0}

-- so of each step of the journal
abbrev pub AreLawfulAnswers : Topology → History → Post → Law → Type 0
AreLawfulAnswers topology [] p law = Unit {0}
AreLawfulAnswers topology (step ∷ before) p law = AreLawfulAnswers topology before p law × IsLawfulStep topology before step p law
