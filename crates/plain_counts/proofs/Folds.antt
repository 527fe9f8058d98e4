-- What one more step does.
use Rattle.std.proofs.Common.{◌≡◌, ℕ, ◌+◌, refl}
use Rattle.pipe_types.specs.declared.numbers.StageNo.{StageNo}
use Rattle.pipe_types.specs.declared.step.Step.{Step}
use Rattle.pipe_types.specs.declared.step.Step.TheVariants.{Take, Child}
use Rattle.std.specs.Prelude.{◌∷◌}
use Rattle.pipe_model.specs.History.{History}
use Rattle.pipe_model.specs.Posts.{last_take, in_slot}
use Rattle.plain_counts.specs.Seen.{last_take_after, in_slot_after}

pub last_take_more : (step : Step) (before : History) (s : StageNo) → last_take (step ∷ before) s ≡ last_take_after step s (last_take before s)
last_take_more (Take t u k) before s = refl
last_take_more _ before s = refl

pub in_slot_more : (step : Step) (before : History) (s : StageNo) (slot : ℕ) → in_slot (step ∷ before) s slot ≡ in_slot_after step s slot (in_slot before s slot)
in_slot_more (Child t m k) before s slot = refl
in_slot_more _ before s slot = refl
