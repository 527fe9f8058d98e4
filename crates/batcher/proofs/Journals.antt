-- The rule of this crate is the rule over journals, at the batch that a journal leaves open.
use Rattle.std.proofs.Common.{◌≡◌, ℕ, List, [], ◌∷◌, Option, refl}
use Rattle.pipe_types.specs.declared.numbers.StageNo.{StageNo}
use Rattle.pipe_types.specs.declared.topology.Topology.{Topology}
use Rattle.pipe_types.specs.Stages.{spec_of}
use Rattle.pipe_model.specs.History.{History, now}
use Rattle.pipe_model.specs.Flow.{first_in}
use Rattle.pipe_model.specs.Legal.{trigger_of as trigger_over, lets_in, ends_in_flush, gathered_at, batch_size_in, batch_timeout_in, is_dry}
use Rattle.batcher.specs.Batches.{OpenBatch, Batches, trigger_of, takes_more, first_of}

-- the open batch of these messages
abbrev pub batch_over : History → (key : List ℕ) → (numbers : List ℕ) → OpenBatch
batch_over before key numbers = record { key = key; numbers = numbers; flush = ends_in_flush before numbers; opened = gathered_at before (first_in numbers) }

-- a batcher with these open batches
abbrev pub batcher_over : Topology → StageNo → List OpenBatch → Batches
batcher_over topology s batches = record { batch_size = batch_size_in (spec_of topology s); batch_timeout = batch_timeout_in (spec_of topology s); batches = batches }

pub trigger_agrees : (topology : Topology) (before : History) (s : StageNo) (batches : List OpenBatch) (key numbers : List ℕ)
    → trigger_over topology before s numbers ≡ trigger_of (batcher_over topology s batches) (now before) (is_dry topology before s) (batch_over before key numbers)
trigger_agrees topology before s batches key numbers = refl

pub fits_agrees : (topology : Topology) (before : History) (s : StageNo) (key numbers : List ℕ) → lets_in topology before s numbers ≡ takes_more (batch_size_in (spec_of topology s)) (batch_over before key numbers)
fits_agrees topology before s key numbers = refl

pub first_agrees : (before : History) (key numbers : List ℕ) → first_in numbers ≡ first_of (batch_over before key numbers)
first_agrees before key [] = refl
first_agrees before key (n ∷ ns) = refl
