-- What a journal says of the outside: how often a source had nothing ready, and that no control source is there.
use Rattle.std.specs.Prelude.{◌≡◌, ◌+◌, ℕ, if◌then◌else◌, [], ◌∷◌, None}
use Rattle.pipe_types.specs.declared.numbers.StageNo.{StageNo}
use Rattle.pipe_types.specs.declared.step.LateAnswer.TheVariants.{Quiet as LateQuiet}
use Rattle.pipe_types.specs.declared.step.Step.{Step}
use Rattle.pipe_types.specs.declared.step.Step.TheVariants.{Quiet, Late}
use Rattle.pipe_types.specs.Numbers.{stage, same_stage}
use Rattle.pipe_model.specs.History.{History, controls}
use Rattle.pipe_model.specs.Outside.{source_end}

abbrev pub quiets_after : Step → StageNo → ℕ → ℕ
quiets_after (Quiet s) p old = if same_stage s p then old + 1 else old
quiets_after (Late s slot i LateQuiet) p old = if same_stage s p then old + 1 else old
quiets_after _ p old = old

-- how often the producer's source had nothing ready
abbrev pub quiets : History → (producer : StageNo) → ℕ
quiets [] p = 0
quiets (step ∷ before) p = quiets_after step p (quiets before p)

-- no step comes from a control source
pub record HasNoControl (before : History) : Type 0 where
  pub no_step : controls before ≡ 0
  pub no_end : source_end before (stage 0) ≡ None
