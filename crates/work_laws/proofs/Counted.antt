-- The work of small journals, counted.
use Rattle.std.proofs.Common.{◌≡◌, [], ◌∷◌, refl}
use Rattle.pipe_types.specs.declared.step.DrainCause.TheVariants.{Idle}
use Rattle.pipe_types.specs.declared.step.Step.TheVariants.{Ask, Fetch, Quiet, Tick, Drain}
use Rattle.pipe_types.specs.Numbers.{stage, subscription}
use Rattle.work_laws.specs.Work.{work_done}

-- a source that is quiet makes no work, however often it is asked
pub quiet_source : work_done (Tick 7 ∷ Quiet (stage 1) ∷ Fetch (stage 1) 5 ∷ Tick 3 ∷ Quiet (stage 1) ∷ Fetch (stage 1) 5 ∷ Ask (subscription (stage 2) (stage 1) 1) 5 ∷ []) ≡ 1
quiet_source = refl

pub drain_counts : work_done (Drain Idle ∷ Quiet (stage 1) ∷ Fetch (stage 1) 5 ∷ Ask (subscription (stage 2) (stage 1) 1) 5 ∷ []) ≡ 2
drain_counts = refl
