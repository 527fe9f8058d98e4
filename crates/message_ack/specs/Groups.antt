-- Verdicts, and the acknowledgements that they make.
use Rattle.std.specs.Prelude.{◌↔◌, ℕ, ◌&&◌, not, List, map, filter, All, Contains}
use Rattle.std.specs.List.Sorted.{IsPermutation, IsNonDecreasing, IsStrictlyIncreasing}
use Rattle.pipe_types.specs.declared.numbers.StageNo.{StageNo}
use Rattle.pipe_types.specs.Numbers.{same_stage}
use Rattle.pipe_types.specs.Handlers.{is_successful}
use Rattle.pipe_model.specs.Acknowledgements.{Acknowledgement}
use Rattle.message_ack.specs.declared.verdicts.Verdict.{Verdict}
use Rattle.message_ack.specs.declared.verdicts.Ack.{Ack}

-- the acknowledgement that the lists of numbers are
abbrev pub acknowledgement : Ack → Acknowledgement
acknowledgement ack = record { producer = ack.producer; successful = map (λ no. no.0) ack.successful; failed = map (λ no. no.0) ack.failed }

abbrev pub acknowledgements_in : List Ack → List Acknowledgement
acknowledgements_in acks = map acknowledgement acks

-- the producer's messages that succeeded, and those that failed
abbrev pub successful_of : List Verdict → StageNo → List ℕ
successful_of verdicts p = map (λ v. v.no.0) (filter (λ v. same_stage v.producer p && is_successful v.outcome) verdicts)

abbrev pub failed_of : List Verdict → StageNo → List ℕ
failed_of verdicts p = map (λ v. v.no.0) (filter (λ v. same_stage v.producer p && not (is_successful v.outcome)) verdicts)

-- the same numbers, ascending
pub record AreAscending (numbers sorted : List ℕ) : Type 0 where
  pub same : IsPermutation numbers sorted
  pub ascending : IsNonDecreasing sorted

-- the acknowledgement has the producer's messages, ascending
pub record IsAcknowledgement (verdicts : List Verdict) (ack : Acknowledgement) : Type 0 where
  pub successful : AreAscending (successful_of verdicts ack.producer) ack.successful
  pub failed : AreAscending (failed_of verdicts ack.producer) ack.failed

-- one acknowledgement for each producer of a verdict, producers ascending
pub record AreAcknowledgements (verdicts : List Verdict) (acks : List Acknowledgement) : Type 0 where
  pub ascending : IsStrictlyIncreasing (map (λ ack. ack.producer.0) acks)
  pub producers : (p : ℕ) → Contains (map (λ v. v.producer.0) verdicts) p ↔ Contains (map (λ ack. ack.producer.0) acks) p
  pub each : All (IsAcknowledgement verdicts) acks
