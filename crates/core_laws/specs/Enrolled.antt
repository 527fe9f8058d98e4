-- Records that wait in their producer.
use Rattle.std.specs.Prelude.{ℕ, ◌+◌, if◌then◌else◌, List, [], ◌∷◌}
use Rattle.pipe_types.specs.declared.topology.StageSpec.{StageSpec}
use Rattle.pipe_types.specs.Handlers.{field}
use Rattle.pipe_types.specs.Dispatchers.{partition_of}
use Rattle.core_laws.specs.Columns.{is_by_partition}

-- the partition of a record in its producer, and 0 where the producer does not dispatch by partition
abbrev pub record_part : StageSpec → List ℕ → ℕ
record_part spec bytes = if is_by_partition spec.dispatch then partition_of (field spec.field bytes) spec.parts else 0

-- the records as messages from number n on, each with its partition
abbrev pub queued : StageSpec → (n : ℕ) → List (List ℕ) → List (ℕ × ℕ)
queued spec n [] = []
queued spec n (bytes ∷ records) = (record_part spec bytes, n) ∷ queued spec (n + 1) records
