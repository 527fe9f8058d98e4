-- What a restart makes of the rows of the stages and of the pairs.
use Rattle.std.specs.Prelude.{◌≡◌, ℕ, ◌+◌, ◌-◌, ◌^◌, ◌<◌, Bool, false, if◌then◌else◌, ◌&&◌, ◌||◌, nat_le, List, slice_get, Option, None, option_map, IsSome}
use Rattle.pipe_types.specs.declared.numbers.StageNo.{StageNo}
use Rattle.pipe_types.specs.declared.topology.Topology.{Topology}
use Rattle.pipe_types.specs.declared.step.Step.TheVariants.{Restart}
use Rattle.pipe_types.specs.Stages.{spec_of, feeds}
use Rattle.pipe_model.specs.Lives.{renews}
use Rattle.pipe_model.specs.Ledger.{min_in, max_in}
use Rattle.stage_subs.specs.Pairs.{PairRow}
use Rattle.stage_subs.specs.Subs.{row_at, begun, is_pair, live_in, generation_in}
use Rattle.core_tables.specs.declared.rows.StageRow.{StageRow}
use Rattle.core_state.specs.Readings.{lives_by}

-- the stage lives again, in its next incarnation
abbrev pub restarted : StageRow → StageRow
restarted row = record row { dead = None; incarnation = row.incarnation + 1 }

-- the stages with numbers up to this one that live
abbrev pub live_upto : ℕ → List StageRow → StageNo → Bool
live_upto n rows s = nat_le s.0 n && lives_by (slice_get rows s.0) s.0

-- the producer feeds the consumer, one of the two is restarted, and the other lives
abbrev pub begins : Topology → (live : StageNo → Bool) → (restarted consumer producer : StageNo) → Bool
begins topology live s c p = feeds topology p c && renews live (Restart s) c p

-- the pair feeds, and these are its two stages
abbrev pub joins : Topology → (stage other consumer producer : StageNo) → Bool
joins topology s t c p = feeds topology p c && (is_pair s t c p || is_pair t s c p)

-- the pair's next subscription, on which nothing was asked, sent or handled
abbrev pub next_row : Topology → (consumer : StageNo) → PairRow → PairRow
next_row topology c row = begun (row.generation + 1) (min_in (spec_of topology c)) (max_in (spec_of topology c))

-- the pair's row, where its next subscription begins
abbrev pub renewed : Topology → (consumer : StageNo) → (begins : Bool) → Option PairRow → Option PairRow
renewed topology c begins row = if begins then option_map (next_row topology c) row else row

-- the pair had a subscription, it is closed, and another generation has a number
pub record IsClosed (row : Option PairRow) : Type 0 where
  pub had : IsSome row
  pub closed : live_in row ≡ false
  pub few : generation_in row < 2 ^ 32 - 1

-- the pairs of a restarted stage with stages that live have their next subscriptions, and every other pair has the row that it had
pub record AreRenewed (topology : Topology) (live : StageNo → Bool) (s : StageNo) (old new : List (Option PairRow)) : Type 0 where
  pub rows : (c p : StageNo) → row_at new c p ≡ renewed topology c (begins topology live s c p) (row_at old c p)
