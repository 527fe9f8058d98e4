-- What the answer of a batch makes of one row.
use Rattle.std.specs.Prelude.{◌≡◌, ℕ, ◌+◌, if◌then◌else◌, List, [], ◌∷◌}
use Rattle.pipe_types.specs.declared.numbers.SubNo.{SubNo}
use Rattle.pipe_types.specs.declared.message.Outcome.{Outcome}
use Rattle.pipe_types.specs.declared.message.BatchEnd.{BatchEnd}
use Rattle.pipe_types.specs.declared.message.BatchEnd.TheVariants.{Outcomes}
use Rattle.pipe_types.specs.Numbers.{same_sub}

-- how many subscriptions stand before this one
abbrev pub leg_place : SubNo → List SubNo → ℕ
leg_place u [] = 0
leg_place u (v ∷ subs) = if same_sub v u then 0 else leg_place u subs + 1

-- the end is no crash
pub record IsAnswered (end : BatchEnd) : Type 0 where
  pub outcomes : List Outcome
  pub is : end ≡ Outcomes outcomes
