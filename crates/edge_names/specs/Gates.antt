-- The gates before the sources of producers, and the sources without them.
use Rattle.std.specs.Prelude.{◌≡◌, ◌≤◌, ◌⊎◌, ◌++◌, ℕ, List, [], ◌∷◌, length, Option, Some, None, IsSome, IsTrue}
use Rattle.pipe_types.specs.Sound.{producers}
use Rattle.pipe_types.specs.declared.topology.Rate.{Rate}
use Rattle.pipe_types.specs.declared.topology.StageSpec.{StageSpec}
use Rattle.pipe_types.specs.declared.topology.Topology.{Topology}
use Rattle.pipe_edges.specs.Paces.{Pace, unpaced}
use Rattle.rate_laws.specs.Rates.{share_of}
use Rattle.pace_laws.specs.Pacing.{IsPace, at_start}
use Rattle.stage_bodies.specs.Seen.{SourceSeen, LineSeen}

-- ---- shares

-- the pace of the producer at place k, from 0, of so many
abbrev pub pace_by : Option Rate → (producers k : ℕ) → Option Pace
pace_by None producers k = None
pace_by (Some rate) producers k = Some (record { share = share_of rate.allowed producers k; interval = rate.interval })

-- the pace of a producer, where the topology has a rate
abbrev pub pace_of_stage : Topology → StageSpec → Option Pace
pace_of_stage topology spec = pace_by topology.rate (length (producers topology.stages)) spec.index

-- each has intervals of some length
abbrev pub ArePaces : (StageSpec → Option Pace) → Type 0
ArePaces paces = (spec : StageSpec) → IsPace (paces spec)

-- enough for each of so many producers, and not too much
pub record IsShared (producers : ℕ) (rate : Rate) : Type 0 where
  pub enough : producers ≤ rate.allowed
  pub low : rate.allowed ≤ 1000000
  pub some : 1 ≤ rate.interval

-- ---- a source in its gate

abbrev pub without_gate : SourceSeen → SourceSeen
without_gate source = record source { paced = unpaced }

-- the lines of a source that has given nothing yet, in a gate with this pace
pub record IsGated (pace : Option Pace) (source : SourceSeen) (lines : LineSeen) : Type 0 where
  pub told : lines.source.told ≡ source.told
  pub taken : source.taken ≡ [] → lines.source.taken ≡ []
  pub left : lines.source.left ≡ source.left
  pub faults : lines.source.faults ≡ source.faults
  pub waits : source.waits ≡ 0 → lines.source.waits ≡ 0
  pub paced : source.waits ≡ 0 → source.paced ≡ unpaced → lines.source.paced ≡ at_start pace
  pub nothing_waits : lines.waiting ≡ []
  pub no_end : lines.end ≡ None

-- ---- a source that came out of its gate

-- it tells as its gate did, of the same bytes, though it may have read some ahead, and it failed as often; it is what was seen, or
-- its gate counted how often it had nothing ready
pub record IsInner (gated inner : SourceSeen) : Type 0 where
  pub same_telling : inner.told ≡ gated.told
  pub same_bytes : IsTrue gated.told → inner.taken ++ inner.left ≡ gated.taken ++ gated.left
  pub same_faults : inner.faults ≡ gated.faults
  pub gate : (inner ≡ gated) ⊎ (IsSome gated.paced.pace × (gated.paced.own ≡ inner.waits))

-- it always had something ready, though its gate may have stopped
abbrev pub HasNoWait : SourceSeen → Type 0
HasNoWait source = (source.waits ≡ 0) ⊎ (IsSome source.paced.pace × (source.paced.own ≡ 0))

-- one after another, under the same names
abbrev pub AreInner : (gated inner : List (List ℕ × SourceSeen)) → Type 0
AreInner [] [] = Unit {0}
AreInner (g ∷ gs) (i ∷ is) = (i.0 ≡ g.0) × IsInner g.1 i.1 × AreInner gs is
AreInner _ _ = ⊥
