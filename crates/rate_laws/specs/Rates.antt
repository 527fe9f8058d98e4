-- What a journal brings in each interval, and what an interval may bring.
use Rattle.std.specs.Prelude.{ℕ, ◌≡◌, ◌+◌, ◌/◌, ◌%◌, ◌≤◌, ◌==◌, Bool, true, not, ◌&&◌, if◌then◌else◌, [], ◌∷◌, length, nat_lt, nat_le, Some}
use Rattle.pipe_types.specs.Numbers.{same_stage}
use Rattle.pipe_types.specs.Sound.{is_producer, producers}
use Rattle.pipe_types.specs.Stages.{spec_of}
use Rattle.pipe_types.specs.declared.numbers.StageNo.{StageNo}
use Rattle.pipe_types.specs.declared.step.LateAnswer.TheVariants.{Records, Quiet as LateQuiet}
use Rattle.pipe_types.specs.declared.step.Step.{Step}
use Rattle.pipe_types.specs.declared.step.Step.TheVariants.{Fetch, Accept, Quiet, Late}
use Rattle.pipe_types.specs.declared.topology.Rate.{Rate}
use Rattle.pipe_types.specs.declared.topology.StageSpec.{StageSpec}
use Rattle.pipe_types.specs.declared.topology.Topology.{Topology}
use Rattle.pipe_model.specs.History.{History, now}

-- ---- shares and intervals

-- of an allowance for so many producers, the share of the one at place k, from 0: the first ones get one more
abbrev pub share_of : (allowed producers k : ℕ) → ℕ
share_of allowed producers k = if nat_lt k (allowed % producers) then allowed / producers + 1 else allowed / producers

-- the interval of a moment, from 0
abbrev pub interval_of : (interval moment : ℕ) → ℕ
interval_of interval moment = moment / interval

-- ---- fetches

abbrev pub fetched_after : Step → (now : ℕ) → StageNo → ℕ → ℕ
fetched_after (Fetch t n) now s old = if same_stage s t then now else old
fetched_after _ now s old = old

-- the moment of the producer's last fetch, 0 before the first
abbrev pub fetched_at : History → StageNo → ℕ
fetched_at [] s = 0
fetched_at (step ∷ before) s = fetched_after step (now before) s (fetched_at before s)

-- ---- records by the moment of their fetch

abbrev pub came_after : (test : StageNo → ℕ → Bool) → History → Step → ℕ → ℕ
came_after test before (Accept s records) old = if test s (fetched_at before s) then old + length records else old
came_after test before (Late s slot i (Records records)) old = if test s (fetched_at before s) then old + length records else old
came_after test before _ old = old

-- how many records came of fetches that pass the test on their producer and their moment
abbrev pub came : (test : StageNo → ℕ → Bool) → History → ℕ
came test [] = 0
came test (step ∷ before) = came_after test before step (came test before)

abbrev pub is_in : (interval i : ℕ) → StageNo → ℕ → Bool
is_in interval i s moment = interval_of interval moment == i

abbrev pub is_by : StageNo → (interval i : ℕ) → StageNo → ℕ → Bool
is_by p interval i s moment = same_stage s p && interval_of interval moment == i

-- the records whose fetch was made in interval i, of all producers, and of one
abbrev pub came_in : (interval i : ℕ) → History → ℕ
came_in interval i before = came (is_in interval i) before

abbrev pub came_by : StageNo → (interval i : ℕ) → History → ℕ
came_by p interval i before = came (is_by p interval i) before

-- ---- the bound

-- no interval brings more than is allowed
abbrev pub KeepsRate : Rate → History → Type 0
KeepsRate rate before = (i : ℕ) → came_in rate.interval i before ≤ rate.allowed

-- no interval brings more of a producer than its share
abbrev pub KeepsShares : Topology → Rate → History → Type 0
KeepsShares topology rate before =
    (p : StageNo) (spec : StageSpec) → spec_of topology p ≡ Some spec → is_producer spec.role ≡ true → (i : ℕ) → came_by p rate.interval i before ≤ share_of rate.allowed (length (producers topology.stages)) spec.index

-- ---- quiets

-- the share of the interval of the producer's last fetch has been used by earlier records
abbrev pub is_used_up : (share interval : ℕ) → History → StageNo → Bool
is_used_up share interval before p = nat_le share (came_by p interval (interval_of interval (fetched_at before p)) before)

abbrev pub own_quiets_after : (share interval : ℕ) → History → Step → StageNo → ℕ → ℕ
own_quiets_after share interval before (Quiet s) p old = if same_stage s p && not (is_used_up share interval before p) then old + 1 else old
own_quiets_after share interval before (Late s slot i LateQuiet) p old = if same_stage s p && not (is_used_up share interval before p) then old + 1 else old
own_quiets_after share interval before _ p old = old

-- how often the producer's own source, and not its gate, had nothing ready
abbrev pub own_quiets : (share interval : ℕ) → History → StageNo → ℕ
own_quiets share interval [] p = 0
own_quiets share interval (step ∷ before) p = own_quiets_after share interval before step p (own_quiets share interval before p)
