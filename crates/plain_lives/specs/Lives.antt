-- The lives of a history, as lists.
use Rattle.std.specs.Prelude.{◌≡◌, ℕ, Bool, List, [], ◌∷◌, ◌&&◌, ◌||◌, if◌then◌else◌, Option, None, Some, is_none}
use Rattle.std.specs.List.{list_any}
use Rattle.pipe_types.specs.declared.numbers.StageNo.{StageNo}
use Rattle.pipe_types.specs.declared.topology.Topology.{Topology}
use Rattle.pipe_types.specs.declared.topology.StageSpec.{StageSpec}
use Rattle.pipe_types.specs.declared.step.Step.{Step}
use Rattle.pipe_types.specs.Numbers.{same_stage}
use Rattle.pipe_model.specs.History.{History}
use Rattle.pipe_model.specs.Lives.{Death, KillSet, reason_in, is_alive, one_more, death, generation, restarts}
use Rattle.plain_lives.specs.declared.deaths.Lives.{Lives}
use Rattle.plain_lives.specs.declared.deaths.Renewal.{Renewal}

-- the stage is one of these
abbrev pub is_among : List StageNo → StageNo → Bool
is_among stages s = list_any (λ t. same_stage t s) stages

-- the restart was of one of the two, while the other was live
abbrev pub renewed_by : Renewal → StageNo → StageNo → Bool
renewed_by r c p = (same_stage r.restarted c && is_among r.live.items p) || (same_stage r.restarted p && is_among r.live.items c)

-- the generation of a pair after these restarts
abbrev pub generation_by : List Renewal → StageNo → StageNo → ℕ
generation_by [] c p = 1
generation_by (r ∷ renewals) c p = one_more (renewed_by r c p) (generation_by renewals c p)

-- the stage is live
abbrev pub live_by : Topology → Lives → StageNo → Bool
live_by topology lives s = is_alive topology (reason_in lives.deaths.items s) s

-- those of the stages that are not dead
abbrev pub live_numbers : KillSet → List StageSpec → List StageNo
live_numbers deaths [] = []
live_numbers deaths (spec ∷ specs) =
    if is_none (reason_in deaths spec.no) then spec.no ∷ live_numbers deaths specs else live_numbers deaths specs

-- these are the lives of the history
pub record LivesStand (topology : Topology) (before : History) (lives : Lives) : Type 0 where
  pub deaths : (s : StageNo) → reason_in lives.deaths.items s ≡ death topology before s
  pub generations : (c p : StageNo) → generation_by lives.renewals.items c p ≡ generation topology before c p

-- a list of at most one
abbrev pub one_death : Option Death → KillSet
one_death None = []
one_death (Some d) = d ∷ []

-- the deaths but that of a stage that the step restarts
abbrev pub kept : Step → KillSet → KillSet
kept step [] = []
kept step (d ∷ set) = if restarts step d.stage then kept step set else d ∷ kept step set
