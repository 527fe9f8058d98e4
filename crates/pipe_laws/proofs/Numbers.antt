-- Stages in number order, and the subscriptions on a stage in order of their consumers.
use Rattle.std.proofs.Common.{ℕ, ◌<◌, ◌≤◌, List, [], ◌∷◌, Bool, true, false, arith}
use Rattle.std.specs.Prelude.{if◌then◌else◌, ◌&&◌}
use Rattle.pipe_types.specs.declared.numbers.StageNo.{StageNo}
use Rattle.pipe_types.specs.declared.numbers.SubNo.{SubNo}
use Rattle.pipe_types.specs.declared.topology.Topology.{Topology}
use Rattle.pipe_types.specs.declared.topology.StageSpec.{StageSpec}
use Rattle.pipe_types.specs.Stages.{feeds}
use Rattle.pipe_model.specs.History.{History}
use Rattle.pipe_model.specs.Lives.{is_live, current_sub, live_subs_from, live_subs}

-- the stages stand in number order, above this number
abbrev pub AscendFrom : ℕ → List StageSpec → Type 0
AscendFrom low [] = Unit {0}
AscendFrom low (spec ∷ specs) = (low < spec.no.0) × AscendFrom spec.no.0 specs

-- the subscriptions stand in order of their consumers, above this number
abbrev pub SubsAscendFrom : ℕ → List SubNo → Type 0
SubsAscendFrom low [] = Unit {0}
SubsAscendFrom low (u ∷ subs) = (low < u.consumer.0) × SubsAscendFrom u.consumer.0 subs

pub subs_lower : (low high : ℕ) (subs : List SubNo) → low ≤ high → SubsAscendFrom high subs → SubsAscendFrom low subs
subs_lower low high [] le h = tt
subs_lower low high (u ∷ subs) le h = (omega arith, h.1)

live_subs_ascend_from : (topology : Topology) (before : History) (s : StageNo) (low : ℕ) (specs : List StageSpec) → AscendFrom low specs → SubsAscendFrom low (live_subs_from topology before s specs)
live_subs_ascend_from topology before s low [] h = tt
live_subs_ascend_from topology before s low (c ∷ specs) h =
    either (feeds topology s c.no && is_live topology before c.no) (live_subs_ascend_from topology before s c.no.0 specs h.1)
  where
    either : (b : Bool) → SubsAscendFrom c.no.0 (live_subs_from topology before s specs) → SubsAscendFrom low (if b then current_sub topology before c.no s ∷ live_subs_from topology before s specs else live_subs_from topology before s specs)
    either true rest = (h.0, rest)
    either false rest = subs_lower low c.no.0 _ (omega (arith, h.0)) rest

pub live_subs_ascend : (topology : Topology) (before : History) (s : StageNo) (low : ℕ) → AscendFrom low topology.stages → SubsAscendFrom low (live_subs topology before s)
live_subs_ascend topology before s low h = either (is_live topology before s) (live_subs_ascend_from topology before s low topology.stages h)
  where
    either : (b : Bool) → SubsAscendFrom low (live_subs_from topology before s topology.stages) → SubsAscendFrom low (if b then live_subs_from topology before s topology.stages else [])
    either true rest = rest
    either false rest = tt
